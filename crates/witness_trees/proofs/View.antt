-- Request Q-10: each witness is worked out from its view alone.
use mathlib.Core.Path.{◌≡◌, refl, sym, ◌∙◌}
use mathlib.Core.Bool.{Bool, true, false, cond}
use mathlib.Core.List.{◌∷◌}
use Rattle.key_order.specs.Order.{Key}
use Rattle.hash_tree.specs.HashTree.{Digest}
use Rattle.llrb.specs.Tree.{Entry, Tree, nil, node, entries}
use Rattle.llrb.specs.Sorted.{Sorted}
use Rattle.llrb.specs.Digests.{subtree_digest}
use Rattle.witness_trees.specs.Shown.{What, Hide, Label, Show, is_hide, item, quiet, shown}
use Rattle.witness_trees.specs.Witness.{keys_only, values, as_hash_tree, keys, key_range, value_range, keys_with_prefix, witness}
use Rattle.witness_trees.specs.Rules.{Le, keys_of, within, wanted, range_rule, prefix_rule}
use Rattle.witness_trees.specs.View.{Seen, view, view_of, seen_of, seen_by, is_other, unlabelled, item_of, from_view}
use Rattle.witness_trees.proofs.Shown.{quiet-append}
use Rattle.witness_trees.proofs.Lists.{lt-irr}
use Rattle.witness_trees.proofs.Calls.{as-hash-tree-is, keys-is, key-range-is, value-range-is, keys-with-prefix-is, witness-is}

-- a view looks at what it has of each entry, and at nothing else
pub view-same : (digest_at : Tree → Digest) (g h : Entry → Seen) → ((e : Entry) → g e ≡ h e) → (t : Tree) → view digest_at g t ≡ view digest_at h t
unfolding view
view-same d g h q nil = refl
view-same d g h q (node c e l r) = rw (q e, view-same d g h q l, view-same d g h q r)

other-hide : (w : What) (e : Entry) → is_other (seen_by w e) ≡ is_hide w
other-hide Hide e = refl
other-hide Label e = refl
other-hide Show e = refl

item-seen : (w : What) (e : Entry) → item_of (seen_by w e) ≡ item w e
item-seen Hide e = refl
item-seen Label e = refl
item-seen Show e = refl

module _ (f : Entry → What) where
  abbrev by : Entry → Seen
  by e = seen_by (f e) e

  quiet-view : (t : Tree) → unlabelled (view subtree_digest by t) ≡ quiet f (entries t)
  unfolding view
  quiet-view nil = refl
  quiet-view (node c e l r) = rw (quiet-view l, quiet-view r, other-hide (f e) e) (sym (quiet-append f (entries l) (e ∷ entries r)))

  -- FROM THE VIEW ALONE, whatever the rule
  pub shown-view : (t : Tree) → shown f t ≡ from_view (view subtree_digest by t)
  unfolding shown from_view view
  shown-view nil = refl
  shown-view (node c e l r) = rw (← (quiet-view (node c e l r)), shown-view l, shown-view r, item-seen (f e) e)

-- ---- the calls

range-seen : (first last : Key) (t : Tree) (e : Entry) → seen_by (range_rule first last (keys_of (entries t)) values e) e ≡ seen_of first last (keys_of (entries t)) e
range-seen first last t e = go (within first last e.key) (wanted first last (keys_of (entries t)) e.key)
  where
    go : (a b : Bool) → seen_by (cond a Show (cond b Label Hide)) e ≡ cond a (seen_by Show e) (cond b (seen_by Label e) (seen_by Hide e))
    go true b = refl
    go false true = refl
    go false false = refl

-- A VALUE-RANGE WITNESS IS WORKED OUT FROM THE VIEW ALONE
pub value-range-view : (first last : Key) (t : Tree) → Sorted (entries t) → Le first last → value_range first last t ≡ from_view (view_of subtree_digest first last t)
value-range-view first last t s h =
    value-range-is first last t s h ∙ shown-view (range_rule first last (keys_of (entries t)) values) t
    ∙ rw (view-same subtree_digest (λ e. seen_by (range_rule first last (keys_of (entries t)) values e) e) (seen_of first last (keys_of (entries t))) (range-seen first last t) t)

-- the witness of one key is that of the range from it to it
pub witness-view : (k : Key) (t : Tree) → Sorted (entries t) → witness k t ≡ from_view (view_of subtree_digest k k t)
witness-view k t s = witness-is k t s ∙ sym (value-range-is k k t s (lt-irr k)) ∙ value-range-view k k t s (lt-irr k)

pub key-range-view : (first last : Key) (t : Tree) → Sorted (entries t) → Le first last
    → key_range first last t ≡ from_view (view subtree_digest (λ e. seen_by (range_rule first last (keys_of (entries t)) keys_only e) e) t)
key-range-view first last t s h = key-range-is first last t s h ∙ shown-view (range_rule first last (keys_of (entries t)) keys_only) t

pub prefix-view : (p : Key) (t : Tree) → Sorted (entries t) → keys_with_prefix p t ≡ from_view (view subtree_digest (λ e. seen_by (prefix_rule p (keys_of (entries t)) e) e) t)
prefix-view p t s = keys-with-prefix-is p t s ∙ shown-view (prefix_rule p (keys_of (entries t))) t

pub keys-view : (t : Tree) → keys t ≡ from_view (view subtree_digest (seen_by Label) t)
keys-view t = keys-is t ∙ shown-view (λ e. Label) t

pub as-hash-tree-view : (t : Tree) → as_hash_tree t ≡ from_view (view subtree_digest (seen_by Show) t)
as-hash-tree-view t = as-hash-tree-is t ∙ shown-view (λ e. Show) t
