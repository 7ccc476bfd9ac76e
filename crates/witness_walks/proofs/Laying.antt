-- What the writer reads where a tree lies in the store: the tree's own entries, children and digests.
use mathlib.Core.Path.{◌≡◌, refl, sym, ap, ◌∙◌}
use mathlib.Core.Bool.{Bool, true, false, cond, ◌&&◌, true≢false}
use mathlib.Core.List.{List}
use Prim.Native.Nat.{ℕ}
use native.Mathlib.Omega.{arith}
use borrow.Author.Tests.{eq-eqb, ne_eqb}
use lib.Dec.{eqb}
use lib.ListN.{length}
use Rattle.hash_tree.specs.Written.{write}
use Rattle.slots.specs.Layout.{HasSlot, slot, digest_of, value_of}
use Rattle.llrb.specs.Tree.{Entry as TheEntry, Tree, nil, node}
use Rattle.llrb.specs.Digests.{is_nil, data_digest, subtree_digest}
use Rattle.store.specs.Model.{root}
use Rattle.store.specs.Sound.{Digests}
use Rattle.slots.proofs.Writing.{node-value}
use Rattle.search.specs.Search.{Lies}
use Rattle.search.proofs.Lying.{slot-top, top_in, top_key, lies-left, lies-right}
use Rattle.witness_trees.specs.Shown.{item}
use Rattle.witness_trees.specs.Witness.{pruned_tree}
use Rattle.witness_walks.specs.declared.What.{What}
use Rattle.witness_walks.specs.declared.What.TheVariants.{Hide, Label, Show}
use Rattle.witness_walks.specs.declared.Walk.{Walk}
use Rattle.witness_walks.specs.declared.Arm.{Arm}
use Rattle.witness_walks.specs.declared.Shape.{Shape}
use Rattle.witness_walks.specs.declared.Shape.TheVariants.{M, ForkLM, ForkMR, ForkLPrunedMR, ForkLForkMR}
use Rattle.witness_walks.specs.declared.Middle.{Middle}
use Rattle.witness_walks.specs.declared.Middle.TheVariants.{Entry, Both}
use Rattle.witness_walks.specs.Arms.{arms_at}
use Rattle.witness_walks.specs.Records.{is_empty, kind_of_part, kind_of_what, shape_of, records_of, records_at}
use Rattle.witness_walks.specs.Walked.{what_of, middle_bytes}
use Rattle.witness_walks.specs.InStore.{key_in, entry_in, records_in, shown_in, middle_in, MiddleAt, hidden_in}

-- a slot is 0 exactly where no tree is
pub nil-zero : {s : List ℕ} {h : ℕ} (t : Tree) → Lies s h t → eqb h 0 ≡ is_nil t
nil-zero {h = h} nil a = eq-eqb h 0 (sym a.top)
nil-zero {h = h} (node c e l r) a = ne_eqb h 0 (λ q. omega (arith, (top_in a).low, q))

-- what can stand in the middle; the right side is merged only where there is one
module _ (P : Middle → Type 0) (a : Arm) (p : P (Entry a.middle)) where
  shape-middle : P Both → (x : Shape) → P (records_of x a.left a.middle a.right).middle
  shape-middle q M = p
  shape-middle q ForkLM = p
  shape-middle q ForkMR = p
  shape-middle q ForkLPrunedMR = q
  shape-middle q ForkLForkMR = p

  arm-middle : (no_left no_right : Bool) → (no_right ≡ false → P Both) → P (records_at a no_left no_right).middle
  arm-middle no_left true q = go (is_empty (kind_of_part no_left a.left))
    where
      go : (b : Bool) → P (records_of (cond (b && true) M ForkLM) a.left a.middle a.right).middle
      go true = p
      go false = p
  arm-middle no_left false q = shape-middle (q refl) (shape_of (kind_of_part no_left a.left) (kind_of_what a.middle) (kind_of_part false a.right))

-- ---- digests

pub digest-held : {s : List ℕ} {h : ℕ} (t : Tree) → Lies s h t → Digests s t → is_nil t ≡ false → digest_of s h ≡ subtree_digest t
digest-held nil a d q = absurd (true≢false q)
digest-held {s = s} (node c e l r) a d q = ap (digest_of s) (sym a.top) ∙ d.0

in_held : {s : List ℕ} {h : ℕ} (t : Tree) → Lies s h t → is_nil t ≡ false → HasSlot (length s) h
in_held nil a q = absurd (true≢false q)
in_held (node c e l r) a q = top_in a

pub hidden_held : {s : List ℕ} {h : ℕ} (t : Tree) → Lies s h t → Digests s t → hidden_in s h ≡ write (pruned_tree t)
unfolding write
hidden_held nil a d = rw (nil-zero nil a)
hidden_held (node c e l r) a d = rw (nil-zero (node c e l r) a, digest-held (node c e l r) a d refl)

module _ {s : List ℕ} {h : ℕ} {c : Bool} {e : TheEntry} {l r : Tree} (a : Lies s h (node c e l r)) where
  pub left-nil : eqb (slot s h).left 0 ≡ is_nil l
  left-nil = nil-zero l (lies-left a refl)

  pub right-nil : eqb (slot s h).right 0 ≡ is_nil r
  right-nil = nil-zero r (lies-right a refl)

  top-value : value_of (slot s h) ≡ e.value
  top-value = ap value_of (slot-top a) ∙ node-value c e.key e.value (root l) (root r)

  pub records-held : (walk : Walk) (f : What) → records_in s h walk f ≡ records_at (arms_at (key_in s) walk f e.key) (is_nil l) (is_nil r)
  records-held walk f = rw (top_key a, left-nil, right-nil)

  pub shown-held : (m : What) → shown_in s h m ≡ write (item (what_of m) e)
  shown-held Hide = rw (top_key a, top-value)
  shown-held Label = rw (top_key a, top-value)
  shown-held Show = rw (top_key a, top-value)

  pub data-held : data_digest (entry_in s h) ≡ data_digest e
  data-held = rw (top_key a, top-value)

  -- the middle as it is read is the middle of the tree
  pub middle-held : Digests s (node c e l r) → (walk : Walk) (f : What)
      → (middle_in s h (records_in s h walk f).middle ≡ middle_bytes (records_in s h walk f).middle e r) × MiddleAt s h (records_in s h walk f).middle
  middle-held d walk f =
      rw (records-held walk f)
      (arm-middle (λ x. (middle_in s h x ≡ middle_bytes x e r) × MiddleAt s h x) (arms_at (key_in s) walk f e.key) (shown-held (arms_at (key_in s) walk f e.key).middle, tt) (is_nil l) (is_nil r)
      (λ q.
      let k = lies-right a refl in
      (rw (data-held, digest-held r k d.2 q), in_held r k q)))
