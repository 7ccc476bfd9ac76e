-- A tree that lies in a store: it is the only one below its slot, its top is an entry's slot, and its children lie there too.
use mathlib.Core.Path.{◌≡◌, refl, sym, ap, subst, ◌∙◌}
use mathlib.Core.Bool.{Bool}
use mathlib.Core.List.{List}
use Prim.Native.Nat.{ℕ, ◌≤◌}
use native.Mathlib.Omega.{arith}
use lib.ListN.{length}
use Rattle.slots.specs.declared.Header.{Header}
use Rattle.slots.specs.Layout.{HasSlot, header, Slot, slot, node_slot, key_of, value_of}
use Rattle.slots.proofs.Writing.{key_fits, value-fits, node-key, node-value}
use Rattle.llrb.specs.Tree.{Entry, Tree, nil, node, size}
use Rattle.llrb.proofs.Height.{size-node}
use Rattle.store.specs.Model.{Model, slots_of, root}
use Rattle.store.specs.Sound.{Nodes, Represents}
use Rattle.store.specs.Counts.{occurs}
use Rattle.store.specs.Counting.{is-other}
use Rattle.store.specs.Decode.{tree_at, entries_below}
use Rattle.store.proofs.Trees.{slots-node}
use Rattle.store.proofs.Decoding.{live-and-free, decode-tree, below-nodes}
use Rattle.store.proofs.Seats.{tree-within, top-occurs}
use Rattle.search.specs.Search.{Each, Lies, EntryAt, Stored}

-- ---- the parts

stored : {s : List ℕ} {c : Bool} (e : Entry) {l r : ℕ} → HasSlot (length s) e.slot → slot s e.slot ≡ node_slot c e.key e.value l r → Stored s e
stored {s} {c} e {l} {r} w v =
    let k = key_fits c e.key e.value l r s e.slot w v in
    let n = value-fits c e.key e.value l r s e.slot w v in
    record {
      there = record { inside = w; key = rw v k; value = rw v n };
      key_length = ap (λ (z : Slot). z.key_length) v;
      value_length = ap (λ (z : Slot). z.value_length) v;
      key = ap key_of v ∙ node-key c e.key e.value l r;
      value = ap value_of v ∙ node-value c e.key e.value l r;
    }

pub all-stored : {s : List ℕ} {h : ℕ} (t : Tree) → Lies s h t → Each (Stored s) t
all-stored {s} t a = go t a.nodes a.within
  where
    go : (t : Tree) → Nodes s t → Each (λ e. HasSlot (length s) e.slot) t → Each (Stored s) t
    go nil n w = tt
    go (node c e l r) n w = (stored e w.0 n.0, go l n.1 w.1, go r n.2 w.2)

module _ {s : List ℕ} {h : ℕ} {c : Bool} {e : Entry} {l r : Tree} (a : Lies s h (node c e l r)) where
  pub slot-top : slot s h ≡ node_slot c e.key e.value (root l) (root r)
  slot-top = ap (slot s) (sym a.top) ∙ a.nodes.0

  top-stored : Stored s e
  top-stored = stored e a.within.0 a.nodes.0

  pub top-entry : EntryAt s h
  top-entry = subst (EntryAt s) a.top top-stored.there

  pub top_in : HasSlot (length s) h
  top_in = top-entry.inside

  pub top_key : key_of (slot s h) ≡ e.key
  top_key = ap (λ (x : ℕ). key_of (slot s x)) (sym a.top) ∙ top-stored.key

  pub lies-left : {q : ℕ} → q ≡ (slot s h).left → Lies s q l
  lies-left w =
      record { top = sym (w ∙ ap (λ (z : Slot). z.left) slot-top); nodes = a.nodes.1; within = a.within.1; few = omega (arith, a.few, size-node c e l r) }

  pub lies-right : {q : ℕ} → q ≡ (slot s h).right → Lies s q r
  lies-right w =
      record { top = sym (w ∙ ap (λ (z : Slot). z.right) slot-top); nodes = a.nodes.2; within = a.within.2; few = omega (arith, a.few, size-node c e l r) }

-- ---- the links lead to it

within_low : (s : List ℕ) (t : Tree) → Each (λ e. HasSlot (length s) e.slot) t → occurs 0 (slots_of t) ≡ 0
within_low s nil w = refl
within_low s (node c e l r) w = omega (arith, slots-node 0 c e l r, is-other 0 e.slot (λ q. omega (arith, w.0.low)), within_low s l w.1, within_low s r w.2)

tree-at : (s : List ℕ) (h : ℕ) (t : Tree) → Lies s h t → tree_at 2047 s h ≡ t
tree-at s h t a = ap (tree_at 2047 s) (sym a.top) ∙ decode-tree 2047 s t a.nodes (within_low s t a.within) a.few

pub one-tree : {s : List ℕ} {h : ℕ} (t u : Tree) → Lies s h t → Lies s h u → t ≡ u
one-tree {s} {h} t u a b = sym (tree-at s h t a) ∙ tree-at s h u b

pub below-lies : (s : List ℕ) (h : ℕ) (t : Tree) → Lies s h t → entries_below s h ≡ size t
below-lies s h t a = below-nodes s h t a.top a.nodes (within_low s t a.within) a.few

-- ---- a sound store's tree

module _ {s : List ℕ} {m : Model} (a : Represents s m) where
  slot-within : (x : ℕ) → 1 ≤ occurs x (slots_of m.tree) → HasSlot (length s) x
  slot-within x p =
      let w = tree-within a.lawful x p in
      record { low = w.0; high = omega (arith, w, a.lawful.most); fits = omega (arith, w, a.laid.len) }

  all-within : (t : Tree) → ((x : ℕ) → 1 ≤ occurs x (slots_of t) → 1 ≤ occurs x (slots_of m.tree)) → Each (λ e. HasSlot (length s) e.slot) t
  all-within nil f = tt
  all-within (node c e l r) f = (
    slot-within e.slot (f e.slot (top-occurs c e l r)),
    all-within l (λ x p. f x (omega (arith, slots-node x c e l r))),
    all-within r (λ x p. f x (omega (arith, slots-node x c e l r))),
  )

  pub represents-lies : Lies s (header s).root m.tree
  represents-lies =
      record {
        top = sym (ap (λ (h : Header). h.root) a.laid.header);
        nodes = a.laid.nodes;
        within = all-within m.tree (λ x p. p);
        few = omega (arith, live-and-free a.lawful, a.lawful.most);
      }
