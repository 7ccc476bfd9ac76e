-- The laws of the witnesses on every lawful tree and after any history from the empty map: demand 3's last sentence,
-- the other calls, and the depth.
use mathlib.Core.Path.{◌≡◌, refl, sym, ◌∙◌, subst}
use mathlib.Core.Bool.{Bool}
use mathlib.Core.List.{List, [], ◌∷◌}
use Prim.Native.Nat.{◌≤◌}
use native.Mathlib.Omega.{arith}
use Rattle.key_order.specs.Order.{Key}
use Rattle.hash_tree.specs.HashTree.{HashTree}
use Rattle.llrb.specs.Tree.{Tree, size}
use Rattle.llrb.specs.Shape.{Lawful}
use Rattle.llrb.specs.Map.{Pair}
use Rattle.llrb.specs.History.{Op, run, run_map}
use Rattle.llrb.proofs.History.{run-lawful, run-pairs}
use Rattle.llrb.proofs.Height.{height-20}
use Rattle.witness_trees.specs.Reading.{labels, depth}
use Rattle.witness_trees.specs.Witness.{as_hash_tree, keys, key_range, value_range, keys_with_prefix, witness}
use Rattle.witness_trees.specs.Rules.{Le, keys_in, values_in, wanted, wanted_prefix, within, Witness, every, nothing}
use Rattle.witness_trees.specs.Words.{Has, Wanted}
use Rattle.witness_trees.specs.Demand.{KeyRangeLaw}
use Rattle.witness_trees.proofs.Laws.{as-hash-tree-witness, keys-witness, key-range-witness, value-range-witness, prefix-witness, one-witness}
use Rattle.witness_trees.proofs.Words.{wanted-says, says-wanted, filter-has, has-filter}

-- ---- after any history

module _ (h : List Op) where
  pub history-as-hash-tree : Witness (run h) (run_map h) every every (as_hash_tree (run h))
  history-as-hash-tree = subst (λ (m : List Pair). Witness (run h) m every every (as_hash_tree (run h))) (run-pairs h) (as-hash-tree-witness (run h))

  pub history-keys : Witness (run h) (run_map h) every nothing (keys (run h))
  history-keys = subst (λ (m : List Pair). Witness (run h) m every nothing (keys (run h))) (run-pairs h) (keys-witness (run h))

  pub history-key-range : (first last : Key) → Le first last
      → Witness (run h) (run_map h) (wanted first last (keys_in (run_map h))) nothing (key_range first last (run h))
  history-key-range first last o =
      subst (λ (m : List Pair). Witness (run h) m (wanted first last (keys_in m)) nothing (key_range first last (run h))) (run-pairs h)
      (key-range-witness first last (run h) (run-lawful h).sorted o)

  pub history-value-range : (first last : Key) → Le first last
      → Witness (run h) (run_map h) (wanted first last (keys_in (run_map h))) (within first last) (value_range first last (run h))
  history-value-range first last o =
      subst (λ (m : List Pair). Witness (run h) m (wanted first last (keys_in m)) (within first last) (value_range first last (run h))) (run-pairs h)
      (value-range-witness first last (run h) (run-lawful h).sorted o)

  pub history-prefix : (p : Key) → Witness (run h) (run_map h) (wanted_prefix p (keys_in (run_map h))) nothing (keys_with_prefix p (run h))
  history-prefix p =
      subst (λ (m : List Pair). Witness (run h) m (wanted_prefix p (keys_in m)) nothing (keys_with_prefix p (run h))) (run-pairs h)
      (prefix-witness p (run h) (run-lawful h).sorted)

  pub history-witness : (k : Key) → Witness (run h) (run_map h) (wanted k k (keys_in (run_map h))) (within k k) (witness k (run h))
  history-witness k =
      subst (λ (m : List Pair). Witness (run h) m (wanted k k (keys_in m)) (within k k) (witness k (run h))) (run-pairs h)
      (one-witness k (run h) (run-lawful h).sorted)

none_in : (m : List Pair) → values_in nothing m ≡ []
none_in [] = refl
none_in (p ∷ m) = none_in m

-- DEMAND 3, LAST SENTENCE
pub key-range-law : (h : List Op) (first last : Key) → Le first last → KeyRangeLaw (run h) (run_map h) first last
key-range-law h first last o =
    let w = history-key-range h first last o in
    record { rebuilds = w.rebuilds; labelled = w.labelled; valued = w.valued ∙ none_in (run_map h) }

-- the same key by key: a key is labelled exactly if it is in the map and is wanted
pub key-range-labels : (h : List Op) (first last : Key) → Le first last → (k : Key)
    → Has k (labels (key_range first last (run h))) → Has k (keys_in (run_map h)) × Wanted first last (keys_in (run_map h)) k
key-range-labels h first last o k i =
    let ks = keys_in (run_map h) in
    let r = has-filter (wanted first last ks) k ks (subst (Has k) (key-range-law h first last o).labelled i) in
    (r.0, wanted-says first last ks k r.1)

pub labels-key-range : (h : List Op) (first last : Key) → Le first last → (k : Key)
    → Has k (keys_in (run_map h)) → Wanted first last (keys_in (run_map h)) k → Has k (labels (key_range first last (run h)))
labels-key-range h first last o k i w =
    let ks = keys_in (run_map h) in
    subst (Has k) (sym (key-range-law h first last o).labelled) (filter-has (wanted first last ks) k ks i (says-wanted first last ks k w))

-- ---- depth: with 1,024 entries at most, no witness is more than 64 records deep; it is 42 at most

pub depth-42 : {t : Tree} {map : List Pair} {label value : Key → Bool} {u : HashTree} → Witness t map label value u → Lawful t → size t ≤ 1024 → depth u ≤ 42
depth-42 x w q = omega (arith, x.low, height-20 w q)

pub depth-64 : {t : Tree} {map : List Pair} {label value : Key → Bool} {u : HashTree} → Witness t map label value u → Lawful t → size t ≤ 1024 → depth u ≤ 64
depth-64 x w q = omega (arith, depth-42 x w q)
