-- Document 01's lines of soundness once more, each as a reader may want it; proved of every sound store in proofs/Reading.
use Rattle.std.specs.Prelude.{◌≡◌, true, List, ℕ, suc, ◌+◌, ◌*◌, ◌^◌, ◌≤◌, length}
use Rattle.slots.specs.Layout.{header, slot}
use Rattle.llrb.specs.Tree.{size}
use Rattle.llrb.specs.Shape.{height}
use Rattle.store.specs.Counts.{occurs}
use Rattle.store.specs.Model.{Model, slots_of}

pub record Words (s : List ℕ) (m : Model) : Type 0 where
  -- the free chain names no slot twice, and no more does the tree
  pub chain_once : (x : ℕ) → occurs x m.free ≤ 1
  pub tree_once : (x : ℕ) → occurs x (slots_of m.tree) ≤ 1
  -- tree and free chain are disjoint and cover all slots
  pub disjoint : (x : ℕ) → 1 ≤ occurs x (slots_of m.tree) → occurs x m.free ≡ 0
  pub covers : (x : ℕ) → 1 ≤ x → x ≤ m.capacity → 1 ≤ occurs x (slots_of m.tree) + occurs x m.free
  pub tree_within : (x : ℕ) → 1 ≤ occurs x (slots_of m.tree) → (1 ≤ x) × (x ≤ m.capacity)
  pub chain_within : (x : ℕ) → 1 ≤ occurs x m.free → (1 ≤ x) × (x ≤ m.capacity)
  -- the live bit is set exactly on tree slots
  pub live : (x : ℕ) → 1 ≤ occurs x (slots_of m.tree) → (slot s x).live ≡ true
  pub not_live : (x : ℕ) → 1 ≤ x → x ≤ m.capacity → (slot s x).live ≡ true → 1 ≤ occurs x (slots_of m.tree)
  -- the live count is the number of tree nodes; live plus free is the capacity
  pub count : (header s).live ≡ size m.tree
  pub sum : (header s).live + length m.free ≡ m.capacity
  -- with n entries and height h, 2^h is at most (n + 1)^2; so the height is 20 at most
  pub bound : 2 ^ height m.tree ≤ suc (size m.tree) * suc (size m.tree)
  pub low : height m.tree ≤ 20
