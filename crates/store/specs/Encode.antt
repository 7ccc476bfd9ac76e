-- The bytes of a model: each slot of the store is a node's, or a free one.
use Rattle.std.specs.Prelude.{cond, List, [], ◌∷◌, ℕ, eqb}
use Rattle.std.proofs.Math.Option.{Option, none, some}
use Rattle.slots.specs.Layout.{current, Slot, Mark, no_mark, node_slot, free_slot}
use Rattle.slots.specs.Setters.{bytes_of}
use Rattle.llrb.specs.Tree.{Tree, nil, node}
use Rattle.llrb.specs.Path.{subtree_at}
use Rattle.store.specs.Model.{Model, root, head}
use Rattle.store.specs.Sound.{header_in, subtree_mark}

-- slot x, if it is in the chain
abbrev pub in_chain : ℕ → List ℕ → Slot
in_chain x [] = free_slot 0
in_chain x (y ∷ free) = cond (eqb x y) (free_slot (head free)) (in_chain x free)

-- the slot of the node at the top of a subtree, if there is one; else a free slot
abbrev pub top_slot : Option Tree → Slot → Slot
top_slot none free = free
top_slot (some nil) free = free
top_slot (some (node c e l r)) free = node_slot c e.key e.value (root l) (root r)

abbrev pub top_mark : (edition : ℕ) → Option Tree → Mark
top_mark e none = no_mark
top_mark e (some t) = subtree_mark e t

abbrev pub slot_at : Model → ℕ → Slot
slot_at m x = top_slot (subtree_at x m.tree) (in_chain x m.free)

abbrev pub mark_at : (edition : ℕ) → Model → ℕ → Mark
mark_at e m x = top_mark e (subtree_at x m.tree)

unfoldable pub encode_in : (edition : ℕ) → Model → List ℕ
encode_in e m = bytes_of (header_in e m) m.capacity (slot_at m) (mark_at e m)

abbrev pub encode : Model → List ℕ
encode m = encode_in current m
