-- The definitions compute the witnesses and root digests that the Rust makes on random maps, first not above last.
-- Printed by `oracle cases witnesses`; a digest is written as the term that it is the hash of.
use mathlib.Core.Path.{◌≡◌, refl}
use mathlib.Core.List.{[], ◌∷◌}
use Prim.Native.Nat.{ℕ}
use Rattle.key_order.specs.Order.{Key, cmp, is_prefix_of}
use Rattle.llrb.specs.Tree.{Value, Entry, Tree, size, get, insert_go, insert, modify, balance}
use Rattle.llrb.specs.Delete.{ready_left, ready_right, lean_right, ready, delete_min, delete_go, delete}
use Rattle.llrb.specs.History.{Op, inserting, modifying, deleting, run}
use Rattle.hash_tree.specs.HashTree.{Empty, Fork, Labeled, Leaf, Pruned, empty_hash, fork_hash, labeled_hash, leaf_hash}
use Rattle.llrb.specs.Digests.{subtree_digest, root_hash}
use Rattle.witness_trees.specs.Shown.{three_way_fork}
use Rattle.witness_trees.specs.Witness.{lower_bound, upper_bound, right_prefix_neighbor, full_witness_tree, witness_range_above, witness_range_below, witness_range_between, range_witness, lookup_and_build_witness, as_hash_tree, keys, key_range, value_range, keys_with_prefix, witness}

abbrev en : ℕ → Key → Value → Entry
en s k v = record { slot = s; key = k; value = v }

abbrev put : ℕ → Key → Value → Op
put s k v = inserting (en s k v)

abbrev t0 : Tree
t0 = run ([])

case0 : (as_hash_tree t0 ≡ Empty)
    × (keys t0 ≡ Empty)
    × (key_range (50 ∷ 200 ∷ []) (60 ∷ 100 ∷ []) t0 ≡ Empty)
    × (value_range (50 ∷ 200 ∷ []) (60 ∷ 100 ∷ []) t0 ≡ Empty)
    × (witness (50 ∷ 200 ∷ []) t0 ≡ Empty)
    × (keys_with_prefix (60 ∷ 100 ∷ []) t0 ≡ Empty)
    × (key_range (0 ∷ 100 ∷ []) (10 ∷ []) t0 ≡ Empty)
    × (value_range (0 ∷ 100 ∷ []) (10 ∷ []) t0 ≡ Empty)
    × (witness (0 ∷ 100 ∷ []) t0 ≡ Empty)
    × (keys_with_prefix (10 ∷ []) t0 ≡ Empty)
    × (key_range (40 ∷ 200 ∷ []) (100 ∷ 200 ∷ []) t0 ≡ Empty)
    × (value_range (40 ∷ 200 ∷ []) (100 ∷ 200 ∷ []) t0 ≡ Empty)
    × (witness (40 ∷ 200 ∷ []) t0 ≡ Empty)
    × (keys_with_prefix (100 ∷ 200 ∷ []) t0 ≡ Empty)
    × (key_range (110 ∷ 100 ∷ []) (120 ∷ 100 ∷ []) t0 ≡ Empty)
    × (value_range (110 ∷ 100 ∷ []) (120 ∷ 100 ∷ []) t0 ≡ Empty)
    × (witness (110 ∷ 100 ∷ []) t0 ≡ Empty)
    × (keys_with_prefix (120 ∷ 100 ∷ []) t0 ≡ Empty)
    × (root_hash t0 ≡ empty_hash)
unfolding as_hash_tree keys key_range value_range keys_with_prefix witness range_witness lookup_and_build_witness full_witness_tree witness_range_above witness_range_below witness_range_between lower_bound upper_bound right_prefix_neighbor is_prefix_of three_way_fork subtree_digest run insert delete modify get size ready delete_go delete_min insert_go cmp balance ready_left ready_right lean_right
case0 = (refl, refl, refl, refl, refl, refl, refl, refl, refl, refl, refl, refl, refl, refl, refl, refl, refl, refl, refl)

abbrev t1 : Tree
t1 = run (put 1 (50 ∷ 200 ∷ []) (0 ∷ []) ∷ [])

case1 : (as_hash_tree t1 ≡ (Labeled (50 ∷ 200 ∷ []) (Leaf (0 ∷ []))))
    × (keys t1 ≡ (Labeled (50 ∷ 200 ∷ []) (Pruned (leaf_hash (0 ∷ [])))))
    × (key_range (40 ∷ 100 ∷ []) (100 ∷ 100 ∷ []) t1 ≡ (Labeled (50 ∷ 200 ∷ []) (Pruned (leaf_hash (0 ∷ [])))))
    × (value_range (40 ∷ 100 ∷ []) (100 ∷ 100 ∷ []) t1 ≡ (Labeled (50 ∷ 200 ∷ []) (Leaf (0 ∷ []))))
    × (witness (40 ∷ 100 ∷ []) t1 ≡ (Labeled (50 ∷ 200 ∷ []) (Pruned (leaf_hash (0 ∷ [])))))
    × (keys_with_prefix (100 ∷ 100 ∷ []) t1 ≡ (Labeled (50 ∷ 200 ∷ []) (Pruned (leaf_hash (0 ∷ [])))))
    × (key_range (50 ∷ []) (90 ∷ []) t1 ≡ (Labeled (50 ∷ 200 ∷ []) (Pruned (leaf_hash (0 ∷ [])))))
    × (value_range (50 ∷ []) (90 ∷ []) t1 ≡ (Labeled (50 ∷ 200 ∷ []) (Leaf (0 ∷ []))))
    × (witness (50 ∷ []) t1 ≡ (Labeled (50 ∷ 200 ∷ []) (Pruned (leaf_hash (0 ∷ [])))))
    × (keys_with_prefix (90 ∷ []) t1 ≡ (Labeled (50 ∷ 200 ∷ []) (Pruned (leaf_hash (0 ∷ [])))))
    × (key_range (120 ∷ 100 ∷ []) (120 ∷ 100 ∷ []) t1 ≡ (Labeled (50 ∷ 200 ∷ []) (Pruned (leaf_hash (0 ∷ [])))))
    × (value_range (120 ∷ 100 ∷ []) (120 ∷ 100 ∷ []) t1 ≡ (Labeled (50 ∷ 200 ∷ []) (Pruned (leaf_hash (0 ∷ [])))))
    × (witness (120 ∷ 100 ∷ []) t1 ≡ (Labeled (50 ∷ 200 ∷ []) (Pruned (leaf_hash (0 ∷ [])))))
    × (keys_with_prefix (120 ∷ 100 ∷ []) t1 ≡ (Labeled (50 ∷ 200 ∷ []) (Pruned (leaf_hash (0 ∷ [])))))
    × (key_range (40 ∷ 100 ∷ []) (100 ∷ 100 ∷ []) t1 ≡ (Labeled (50 ∷ 200 ∷ []) (Pruned (leaf_hash (0 ∷ [])))))
    × (value_range (40 ∷ 100 ∷ []) (100 ∷ 100 ∷ []) t1 ≡ (Labeled (50 ∷ 200 ∷ []) (Leaf (0 ∷ []))))
    × (witness (40 ∷ 100 ∷ []) t1 ≡ (Labeled (50 ∷ 200 ∷ []) (Pruned (leaf_hash (0 ∷ [])))))
    × (keys_with_prefix (100 ∷ 100 ∷ []) t1 ≡ (Labeled (50 ∷ 200 ∷ []) (Pruned (leaf_hash (0 ∷ [])))))
    × (root_hash t1 ≡ (labeled_hash (50 ∷ 200 ∷ []) (leaf_hash (0 ∷ []))))
unfolding as_hash_tree keys key_range value_range keys_with_prefix witness range_witness lookup_and_build_witness full_witness_tree witness_range_above witness_range_below witness_range_between lower_bound upper_bound right_prefix_neighbor is_prefix_of three_way_fork subtree_digest run insert delete modify get size ready delete_go delete_min insert_go cmp balance ready_left ready_right lean_right
case1 = (refl, refl, refl, refl, refl, refl, refl, refl, refl, refl, refl, refl, refl, refl, refl, refl, refl, refl, refl)

abbrev t2 : Tree
t2 = run (modifying (110 ∷ 200 ∷ []) (1 ∷ []) ∷ put 1 (100 ∷ 200 ∷ []) (0 ∷ []) ∷ [])

case2 : (as_hash_tree t2 ≡ (Labeled (100 ∷ 200 ∷ []) (Leaf (0 ∷ []))))
    × (keys t2 ≡ (Labeled (100 ∷ 200 ∷ []) (Pruned (leaf_hash (0 ∷ [])))))
    × (key_range ([]) (70 ∷ []) t2 ≡ (Labeled (100 ∷ 200 ∷ []) (Pruned (leaf_hash (0 ∷ [])))))
    × (value_range ([]) (70 ∷ []) t2 ≡ (Labeled (100 ∷ 200 ∷ []) (Pruned (leaf_hash (0 ∷ [])))))
    × (witness ([]) t2 ≡ (Labeled (100 ∷ 200 ∷ []) (Pruned (leaf_hash (0 ∷ [])))))
    × (keys_with_prefix (70 ∷ []) t2 ≡ (Labeled (100 ∷ 200 ∷ []) (Pruned (leaf_hash (0 ∷ [])))))
    × (key_range ([]) (10 ∷ []) t2 ≡ (Labeled (100 ∷ 200 ∷ []) (Pruned (leaf_hash (0 ∷ [])))))
    × (value_range ([]) (10 ∷ []) t2 ≡ (Labeled (100 ∷ 200 ∷ []) (Pruned (leaf_hash (0 ∷ [])))))
    × (witness ([]) t2 ≡ (Labeled (100 ∷ 200 ∷ []) (Pruned (leaf_hash (0 ∷ [])))))
    × (keys_with_prefix (10 ∷ []) t2 ≡ (Labeled (100 ∷ 200 ∷ []) (Pruned (leaf_hash (0 ∷ [])))))
    × (key_range (10 ∷ 100 ∷ []) (10 ∷ 200 ∷ []) t2 ≡ (Labeled (100 ∷ 200 ∷ []) (Pruned (leaf_hash (0 ∷ [])))))
    × (value_range (10 ∷ 100 ∷ []) (10 ∷ 200 ∷ []) t2 ≡ (Labeled (100 ∷ 200 ∷ []) (Pruned (leaf_hash (0 ∷ [])))))
    × (witness (10 ∷ 100 ∷ []) t2 ≡ (Labeled (100 ∷ 200 ∷ []) (Pruned (leaf_hash (0 ∷ [])))))
    × (keys_with_prefix (10 ∷ 200 ∷ []) t2 ≡ (Labeled (100 ∷ 200 ∷ []) (Pruned (leaf_hash (0 ∷ [])))))
    × (key_range (0 ∷ 100 ∷ []) (110 ∷ 200 ∷ []) t2 ≡ (Labeled (100 ∷ 200 ∷ []) (Pruned (leaf_hash (0 ∷ [])))))
    × (value_range (0 ∷ 100 ∷ []) (110 ∷ 200 ∷ []) t2 ≡ (Labeled (100 ∷ 200 ∷ []) (Leaf (0 ∷ []))))
    × (witness (0 ∷ 100 ∷ []) t2 ≡ (Labeled (100 ∷ 200 ∷ []) (Pruned (leaf_hash (0 ∷ [])))))
    × (keys_with_prefix (110 ∷ 200 ∷ []) t2 ≡ (Labeled (100 ∷ 200 ∷ []) (Pruned (leaf_hash (0 ∷ [])))))
    × (root_hash t2 ≡ (labeled_hash (100 ∷ 200 ∷ []) (leaf_hash (0 ∷ []))))
unfolding as_hash_tree keys key_range value_range keys_with_prefix witness range_witness lookup_and_build_witness full_witness_tree witness_range_above witness_range_below witness_range_between lower_bound upper_bound right_prefix_neighbor is_prefix_of three_way_fork subtree_digest run insert delete modify get size ready delete_go delete_min insert_go cmp balance ready_left ready_right lean_right
case2 = (refl, refl, refl, refl, refl, refl, refl, refl, refl, refl, refl, refl, refl, refl, refl, refl, refl, refl, refl)

abbrev t3 : Tree
t3 = run (deleting (20 ∷ []) ∷ modifying (30 ∷ 200 ∷ []) (1 ∷ []) ∷ put 1 (40 ∷ []) (0 ∷ []) ∷ [])

case3 : (as_hash_tree t3 ≡ (Labeled (40 ∷ []) (Leaf (0 ∷ []))))
    × (keys t3 ≡ (Labeled (40 ∷ []) (Pruned (leaf_hash (0 ∷ [])))))
    × (key_range (10 ∷ 100 ∷ []) (70 ∷ []) t3 ≡ (Labeled (40 ∷ []) (Pruned (leaf_hash (0 ∷ [])))))
    × (value_range (10 ∷ 100 ∷ []) (70 ∷ []) t3 ≡ (Labeled (40 ∷ []) (Leaf (0 ∷ []))))
    × (witness (10 ∷ 100 ∷ []) t3 ≡ (Labeled (40 ∷ []) (Pruned (leaf_hash (0 ∷ [])))))
    × (keys_with_prefix (70 ∷ []) t3 ≡ (Labeled (40 ∷ []) (Pruned (leaf_hash (0 ∷ [])))))
    × (key_range (60 ∷ []) (80 ∷ []) t3 ≡ (Labeled (40 ∷ []) (Pruned (leaf_hash (0 ∷ [])))))
    × (value_range (60 ∷ []) (80 ∷ []) t3 ≡ (Labeled (40 ∷ []) (Pruned (leaf_hash (0 ∷ [])))))
    × (witness (60 ∷ []) t3 ≡ (Labeled (40 ∷ []) (Pruned (leaf_hash (0 ∷ [])))))
    × (keys_with_prefix (80 ∷ []) t3 ≡ (Labeled (40 ∷ []) (Pruned (leaf_hash (0 ∷ [])))))
    × (key_range (50 ∷ 100 ∷ []) (50 ∷ 200 ∷ []) t3 ≡ (Labeled (40 ∷ []) (Pruned (leaf_hash (0 ∷ [])))))
    × (value_range (50 ∷ 100 ∷ []) (50 ∷ 200 ∷ []) t3 ≡ (Labeled (40 ∷ []) (Pruned (leaf_hash (0 ∷ [])))))
    × (witness (50 ∷ 100 ∷ []) t3 ≡ (Labeled (40 ∷ []) (Pruned (leaf_hash (0 ∷ [])))))
    × (keys_with_prefix (50 ∷ 200 ∷ []) t3 ≡ (Labeled (40 ∷ []) (Pruned (leaf_hash (0 ∷ [])))))
    × (key_range (70 ∷ 200 ∷ []) (120 ∷ 100 ∷ []) t3 ≡ (Labeled (40 ∷ []) (Pruned (leaf_hash (0 ∷ [])))))
    × (value_range (70 ∷ 200 ∷ []) (120 ∷ 100 ∷ []) t3 ≡ (Labeled (40 ∷ []) (Pruned (leaf_hash (0 ∷ [])))))
    × (witness (70 ∷ 200 ∷ []) t3 ≡ (Labeled (40 ∷ []) (Pruned (leaf_hash (0 ∷ [])))))
    × (keys_with_prefix (120 ∷ 100 ∷ []) t3 ≡ (Labeled (40 ∷ []) (Pruned (leaf_hash (0 ∷ [])))))
    × (root_hash t3 ≡ (labeled_hash (40 ∷ []) (leaf_hash (0 ∷ []))))
unfolding as_hash_tree keys key_range value_range keys_with_prefix witness range_witness lookup_and_build_witness full_witness_tree witness_range_above witness_range_below witness_range_between lower_bound upper_bound right_prefix_neighbor is_prefix_of three_way_fork subtree_digest run insert delete modify get size ready delete_go delete_min insert_go cmp balance ready_left ready_right lean_right
case3 = (refl, refl, refl, refl, refl, refl, refl, refl, refl, refl, refl, refl, refl, refl, refl, refl, refl, refl, refl)

abbrev t4 : Tree
t4 = run (put 5 (0 ∷ 100 ∷ []) (4 ∷ []) ∷ put 4 (70 ∷ []) (3 ∷ []) ∷ put 3 (0 ∷ 100 ∷ []) (2 ∷ []) ∷ put 2 (110 ∷ 100 ∷ []) (1 ∷ []) ∷ put 1 (120 ∷ 200 ∷ []) (0 ∷ []) ∷ [])

case4 : (as_hash_tree t4 ≡ (Fork (Fork (Labeled (0 ∷ 100 ∷ []) (Leaf (4 ∷ []))) (Labeled (70 ∷ []) (Leaf (3 ∷ [])))) (Fork (Labeled (110 ∷ 100 ∷ []) (Leaf (1 ∷ []))) (Labeled (120 ∷ 200 ∷ []) (Leaf (0 ∷ []))))))
    × (keys t4 ≡ (Fork (Fork (Labeled (0 ∷ 100 ∷ []) (Pruned (leaf_hash (4 ∷ [])))) (Labeled (70 ∷ []) (Pruned (leaf_hash (3 ∷ []))))) (Fork (Labeled (110 ∷ 100 ∷ []) (Pruned (leaf_hash (1 ∷ [])))) (Labeled (120 ∷ 200 ∷ []) (Pruned (leaf_hash (0 ∷ [])))))))
    × (key_range (50 ∷ []) (110 ∷ 100 ∷ []) t4 ≡ (Fork (Fork (Labeled (0 ∷ 100 ∷ []) (Pruned (leaf_hash (4 ∷ [])))) (Labeled (70 ∷ []) (Pruned (leaf_hash (3 ∷ []))))) (Fork (Labeled (110 ∷ 100 ∷ []) (Pruned (leaf_hash (1 ∷ [])))) (Pruned (labeled_hash (120 ∷ 200 ∷ []) (leaf_hash (0 ∷ [])))))))
    × (value_range (50 ∷ []) (110 ∷ 100 ∷ []) t4 ≡ (Fork (Fork (Labeled (0 ∷ 100 ∷ []) (Pruned (leaf_hash (4 ∷ [])))) (Labeled (70 ∷ []) (Leaf (3 ∷ [])))) (Fork (Labeled (110 ∷ 100 ∷ []) (Leaf (1 ∷ []))) (Pruned (labeled_hash (120 ∷ 200 ∷ []) (leaf_hash (0 ∷ [])))))))
    × (witness (50 ∷ []) t4 ≡ (Fork (Fork (Labeled (0 ∷ 100 ∷ []) (Pruned (leaf_hash (4 ∷ [])))) (Labeled (70 ∷ []) (Pruned (leaf_hash (3 ∷ []))))) (Pruned (fork_hash (labeled_hash (110 ∷ 100 ∷ []) (leaf_hash (1 ∷ []))) (labeled_hash (120 ∷ 200 ∷ []) (leaf_hash (0 ∷ [])))))))
    × (keys_with_prefix (110 ∷ 100 ∷ []) t4 ≡ (Fork (Pruned (fork_hash (labeled_hash (0 ∷ 100 ∷ []) (leaf_hash (4 ∷ []))) (labeled_hash (70 ∷ []) (leaf_hash (3 ∷ []))))) (Fork (Labeled (110 ∷ 100 ∷ []) (Pruned (leaf_hash (1 ∷ [])))) (Labeled (120 ∷ 200 ∷ []) (Pruned (leaf_hash (0 ∷ [])))))))
    × (key_range ([]) (70 ∷ []) t4 ≡ (Fork (Fork (Labeled (0 ∷ 100 ∷ []) (Pruned (leaf_hash (4 ∷ [])))) (Labeled (70 ∷ []) (Pruned (leaf_hash (3 ∷ []))))) (Pruned (fork_hash (labeled_hash (110 ∷ 100 ∷ []) (leaf_hash (1 ∷ []))) (labeled_hash (120 ∷ 200 ∷ []) (leaf_hash (0 ∷ [])))))))
    × (value_range ([]) (70 ∷ []) t4 ≡ (Fork (Fork (Labeled (0 ∷ 100 ∷ []) (Leaf (4 ∷ []))) (Labeled (70 ∷ []) (Leaf (3 ∷ [])))) (Pruned (fork_hash (labeled_hash (110 ∷ 100 ∷ []) (leaf_hash (1 ∷ []))) (labeled_hash (120 ∷ 200 ∷ []) (leaf_hash (0 ∷ [])))))))
    × (witness ([]) t4 ≡ (Fork (Fork (Labeled (0 ∷ 100 ∷ []) (Pruned (leaf_hash (4 ∷ [])))) (Pruned (labeled_hash (70 ∷ []) (leaf_hash (3 ∷ []))))) (Pruned (fork_hash (labeled_hash (110 ∷ 100 ∷ []) (leaf_hash (1 ∷ []))) (labeled_hash (120 ∷ 200 ∷ []) (leaf_hash (0 ∷ [])))))))
    × (keys_with_prefix (70 ∷ []) t4 ≡ (Fork (Fork (Pruned (labeled_hash (0 ∷ 100 ∷ []) (leaf_hash (4 ∷ [])))) (Labeled (70 ∷ []) (Pruned (leaf_hash (3 ∷ []))))) (Fork (Labeled (110 ∷ 100 ∷ []) (Pruned (leaf_hash (1 ∷ [])))) (Pruned (labeled_hash (120 ∷ 200 ∷ []) (leaf_hash (0 ∷ [])))))))
    × (key_range (30 ∷ 200 ∷ []) (110 ∷ 100 ∷ []) t4 ≡ (Fork (Fork (Labeled (0 ∷ 100 ∷ []) (Pruned (leaf_hash (4 ∷ [])))) (Labeled (70 ∷ []) (Pruned (leaf_hash (3 ∷ []))))) (Fork (Labeled (110 ∷ 100 ∷ []) (Pruned (leaf_hash (1 ∷ [])))) (Pruned (labeled_hash (120 ∷ 200 ∷ []) (leaf_hash (0 ∷ [])))))))
    × (value_range (30 ∷ 200 ∷ []) (110 ∷ 100 ∷ []) t4 ≡ (Fork (Fork (Labeled (0 ∷ 100 ∷ []) (Pruned (leaf_hash (4 ∷ [])))) (Labeled (70 ∷ []) (Leaf (3 ∷ [])))) (Fork (Labeled (110 ∷ 100 ∷ []) (Leaf (1 ∷ []))) (Pruned (labeled_hash (120 ∷ 200 ∷ []) (leaf_hash (0 ∷ [])))))))
    × (witness (30 ∷ 200 ∷ []) t4 ≡ (Fork (Fork (Labeled (0 ∷ 100 ∷ []) (Pruned (leaf_hash (4 ∷ [])))) (Labeled (70 ∷ []) (Pruned (leaf_hash (3 ∷ []))))) (Pruned (fork_hash (labeled_hash (110 ∷ 100 ∷ []) (leaf_hash (1 ∷ []))) (labeled_hash (120 ∷ 200 ∷ []) (leaf_hash (0 ∷ [])))))))
    × (keys_with_prefix (110 ∷ 100 ∷ []) t4 ≡ (Fork (Pruned (fork_hash (labeled_hash (0 ∷ 100 ∷ []) (leaf_hash (4 ∷ []))) (labeled_hash (70 ∷ []) (leaf_hash (3 ∷ []))))) (Fork (Labeled (110 ∷ 100 ∷ []) (Pruned (leaf_hash (1 ∷ [])))) (Labeled (120 ∷ 200 ∷ []) (Pruned (leaf_hash (0 ∷ [])))))))
    × (key_range (50 ∷ 100 ∷ []) (60 ∷ 200 ∷ []) t4 ≡ (Fork (Fork (Labeled (0 ∷ 100 ∷ []) (Pruned (leaf_hash (4 ∷ [])))) (Labeled (70 ∷ []) (Pruned (leaf_hash (3 ∷ []))))) (Pruned (fork_hash (labeled_hash (110 ∷ 100 ∷ []) (leaf_hash (1 ∷ []))) (labeled_hash (120 ∷ 200 ∷ []) (leaf_hash (0 ∷ [])))))))
    × (value_range (50 ∷ 100 ∷ []) (60 ∷ 200 ∷ []) t4 ≡ (Fork (Fork (Labeled (0 ∷ 100 ∷ []) (Pruned (leaf_hash (4 ∷ [])))) (Labeled (70 ∷ []) (Pruned (leaf_hash (3 ∷ []))))) (Pruned (fork_hash (labeled_hash (110 ∷ 100 ∷ []) (leaf_hash (1 ∷ []))) (labeled_hash (120 ∷ 200 ∷ []) (leaf_hash (0 ∷ [])))))))
    × (witness (50 ∷ 100 ∷ []) t4 ≡ (Fork (Fork (Labeled (0 ∷ 100 ∷ []) (Pruned (leaf_hash (4 ∷ [])))) (Labeled (70 ∷ []) (Pruned (leaf_hash (3 ∷ []))))) (Pruned (fork_hash (labeled_hash (110 ∷ 100 ∷ []) (leaf_hash (1 ∷ []))) (labeled_hash (120 ∷ 200 ∷ []) (leaf_hash (0 ∷ [])))))))
    × (keys_with_prefix (60 ∷ 200 ∷ []) t4 ≡ (Fork (Fork (Labeled (0 ∷ 100 ∷ []) (Pruned (leaf_hash (4 ∷ [])))) (Labeled (70 ∷ []) (Pruned (leaf_hash (3 ∷ []))))) (Pruned (fork_hash (labeled_hash (110 ∷ 100 ∷ []) (leaf_hash (1 ∷ []))) (labeled_hash (120 ∷ 200 ∷ []) (leaf_hash (0 ∷ [])))))))
    × (root_hash t4 ≡ (fork_hash (fork_hash (labeled_hash (0 ∷ 100 ∷ []) (leaf_hash (4 ∷ []))) (labeled_hash (70 ∷ []) (leaf_hash (3 ∷ [])))) (fork_hash (labeled_hash (110 ∷ 100 ∷ []) (leaf_hash (1 ∷ []))) (labeled_hash (120 ∷ 200 ∷ []) (leaf_hash (0 ∷ []))))))
unfolding as_hash_tree keys key_range value_range keys_with_prefix witness range_witness lookup_and_build_witness full_witness_tree witness_range_above witness_range_below witness_range_between lower_bound upper_bound right_prefix_neighbor is_prefix_of three_way_fork subtree_digest run insert delete modify get size ready delete_go delete_min insert_go cmp balance ready_left ready_right lean_right
case4 = (refl, refl, refl, refl, refl, refl, refl, refl, refl, refl, refl, refl, refl, refl, refl, refl, refl, refl, refl)

abbrev t5 : Tree
t5 = run (put 6 (120 ∷ 200 ∷ []) (7 ∷ []) ∷ put 5 (120 ∷ 100 ∷ []) (6 ∷ []) ∷ modifying (60 ∷ []) (5 ∷ []) ∷ deleting (10 ∷ []) ∷ put 4 (90 ∷ 200 ∷ []) (3 ∷ []) ∷ put 3 (70 ∷ 200 ∷ []) (2 ∷ []) ∷ put 2 (80 ∷ 200 ∷ []) (1 ∷ []) ∷ put 1 (110 ∷ []) (0 ∷ []) ∷ [])

case5 : (as_hash_tree t5 ≡ (Fork (Fork (Labeled (70 ∷ 200 ∷ []) (Leaf (2 ∷ []))) (Fork (Labeled (80 ∷ 200 ∷ []) (Leaf (1 ∷ []))) (Labeled (90 ∷ 200 ∷ []) (Leaf (3 ∷ []))))) (Fork (Labeled (110 ∷ []) (Leaf (0 ∷ []))) (Fork (Labeled (120 ∷ 100 ∷ []) (Leaf (6 ∷ []))) (Labeled (120 ∷ 200 ∷ []) (Leaf (7 ∷ [])))))))
    × (keys t5 ≡ (Fork (Fork (Labeled (70 ∷ 200 ∷ []) (Pruned (leaf_hash (2 ∷ [])))) (Fork (Labeled (80 ∷ 200 ∷ []) (Pruned (leaf_hash (1 ∷ [])))) (Labeled (90 ∷ 200 ∷ []) (Pruned (leaf_hash (3 ∷ [])))))) (Fork (Labeled (110 ∷ []) (Pruned (leaf_hash (0 ∷ [])))) (Fork (Labeled (120 ∷ 100 ∷ []) (Pruned (leaf_hash (6 ∷ [])))) (Labeled (120 ∷ 200 ∷ []) (Pruned (leaf_hash (7 ∷ []))))))))
    × (key_range (10 ∷ []) (50 ∷ 100 ∷ []) t5 ≡ (Fork (Fork (Labeled (70 ∷ 200 ∷ []) (Pruned (leaf_hash (2 ∷ [])))) (Pruned (fork_hash (labeled_hash (80 ∷ 200 ∷ []) (leaf_hash (1 ∷ []))) (labeled_hash (90 ∷ 200 ∷ []) (leaf_hash (3 ∷ [])))))) (Pruned (fork_hash (labeled_hash (110 ∷ []) (leaf_hash (0 ∷ []))) (fork_hash (labeled_hash (120 ∷ 100 ∷ []) (leaf_hash (6 ∷ []))) (labeled_hash (120 ∷ 200 ∷ []) (leaf_hash (7 ∷ []))))))))
    × (value_range (10 ∷ []) (50 ∷ 100 ∷ []) t5 ≡ (Fork (Fork (Labeled (70 ∷ 200 ∷ []) (Pruned (leaf_hash (2 ∷ [])))) (Pruned (fork_hash (labeled_hash (80 ∷ 200 ∷ []) (leaf_hash (1 ∷ []))) (labeled_hash (90 ∷ 200 ∷ []) (leaf_hash (3 ∷ [])))))) (Pruned (fork_hash (labeled_hash (110 ∷ []) (leaf_hash (0 ∷ []))) (fork_hash (labeled_hash (120 ∷ 100 ∷ []) (leaf_hash (6 ∷ []))) (labeled_hash (120 ∷ 200 ∷ []) (leaf_hash (7 ∷ []))))))))
    × (witness (10 ∷ []) t5 ≡ (Fork (Fork (Labeled (70 ∷ 200 ∷ []) (Pruned (leaf_hash (2 ∷ [])))) (Pruned (fork_hash (labeled_hash (80 ∷ 200 ∷ []) (leaf_hash (1 ∷ []))) (labeled_hash (90 ∷ 200 ∷ []) (leaf_hash (3 ∷ [])))))) (Pruned (fork_hash (labeled_hash (110 ∷ []) (leaf_hash (0 ∷ []))) (fork_hash (labeled_hash (120 ∷ 100 ∷ []) (leaf_hash (6 ∷ []))) (labeled_hash (120 ∷ 200 ∷ []) (leaf_hash (7 ∷ []))))))))
    × (keys_with_prefix (50 ∷ 100 ∷ []) t5 ≡ (Fork (Fork (Labeled (70 ∷ 200 ∷ []) (Pruned (leaf_hash (2 ∷ [])))) (Pruned (fork_hash (labeled_hash (80 ∷ 200 ∷ []) (leaf_hash (1 ∷ []))) (labeled_hash (90 ∷ 200 ∷ []) (leaf_hash (3 ∷ [])))))) (Pruned (fork_hash (labeled_hash (110 ∷ []) (leaf_hash (0 ∷ []))) (fork_hash (labeled_hash (120 ∷ 100 ∷ []) (leaf_hash (6 ∷ []))) (labeled_hash (120 ∷ 200 ∷ []) (leaf_hash (7 ∷ []))))))))
    × (key_range (30 ∷ 200 ∷ []) (130 ∷ []) t5 ≡ (Fork (Fork (Labeled (70 ∷ 200 ∷ []) (Pruned (leaf_hash (2 ∷ [])))) (Fork (Labeled (80 ∷ 200 ∷ []) (Pruned (leaf_hash (1 ∷ [])))) (Labeled (90 ∷ 200 ∷ []) (Pruned (leaf_hash (3 ∷ [])))))) (Fork (Labeled (110 ∷ []) (Pruned (leaf_hash (0 ∷ [])))) (Fork (Labeled (120 ∷ 100 ∷ []) (Pruned (leaf_hash (6 ∷ [])))) (Labeled (120 ∷ 200 ∷ []) (Pruned (leaf_hash (7 ∷ []))))))))
    × (value_range (30 ∷ 200 ∷ []) (130 ∷ []) t5 ≡ (Fork (Fork (Labeled (70 ∷ 200 ∷ []) (Leaf (2 ∷ []))) (Fork (Labeled (80 ∷ 200 ∷ []) (Leaf (1 ∷ []))) (Labeled (90 ∷ 200 ∷ []) (Leaf (3 ∷ []))))) (Fork (Labeled (110 ∷ []) (Leaf (0 ∷ []))) (Fork (Labeled (120 ∷ 100 ∷ []) (Leaf (6 ∷ []))) (Labeled (120 ∷ 200 ∷ []) (Leaf (7 ∷ [])))))))
    × (witness (30 ∷ 200 ∷ []) t5 ≡ (Fork (Fork (Labeled (70 ∷ 200 ∷ []) (Pruned (leaf_hash (2 ∷ [])))) (Pruned (fork_hash (labeled_hash (80 ∷ 200 ∷ []) (leaf_hash (1 ∷ []))) (labeled_hash (90 ∷ 200 ∷ []) (leaf_hash (3 ∷ [])))))) (Pruned (fork_hash (labeled_hash (110 ∷ []) (leaf_hash (0 ∷ []))) (fork_hash (labeled_hash (120 ∷ 100 ∷ []) (leaf_hash (6 ∷ []))) (labeled_hash (120 ∷ 200 ∷ []) (leaf_hash (7 ∷ []))))))))
    × (keys_with_prefix (130 ∷ []) t5 ≡ (Fork (Pruned (fork_hash (labeled_hash (70 ∷ 200 ∷ []) (leaf_hash (2 ∷ []))) (fork_hash (labeled_hash (80 ∷ 200 ∷ []) (leaf_hash (1 ∷ []))) (labeled_hash (90 ∷ 200 ∷ []) (leaf_hash (3 ∷ [])))))) (Fork (Pruned (labeled_hash (110 ∷ []) (leaf_hash (0 ∷ [])))) (Fork (Pruned (labeled_hash (120 ∷ 100 ∷ []) (leaf_hash (6 ∷ [])))) (Labeled (120 ∷ 200 ∷ []) (Pruned (leaf_hash (7 ∷ []))))))))
    × (key_range (30 ∷ 200 ∷ []) (120 ∷ []) t5 ≡ (Fork (Fork (Labeled (70 ∷ 200 ∷ []) (Pruned (leaf_hash (2 ∷ [])))) (Fork (Labeled (80 ∷ 200 ∷ []) (Pruned (leaf_hash (1 ∷ [])))) (Labeled (90 ∷ 200 ∷ []) (Pruned (leaf_hash (3 ∷ [])))))) (Fork (Labeled (110 ∷ []) (Pruned (leaf_hash (0 ∷ [])))) (Fork (Labeled (120 ∷ 100 ∷ []) (Pruned (leaf_hash (6 ∷ [])))) (Pruned (labeled_hash (120 ∷ 200 ∷ []) (leaf_hash (7 ∷ []))))))))
    × (value_range (30 ∷ 200 ∷ []) (120 ∷ []) t5 ≡ (Fork (Fork (Labeled (70 ∷ 200 ∷ []) (Leaf (2 ∷ []))) (Fork (Labeled (80 ∷ 200 ∷ []) (Leaf (1 ∷ []))) (Labeled (90 ∷ 200 ∷ []) (Leaf (3 ∷ []))))) (Fork (Labeled (110 ∷ []) (Leaf (0 ∷ []))) (Fork (Labeled (120 ∷ 100 ∷ []) (Pruned (leaf_hash (6 ∷ [])))) (Pruned (labeled_hash (120 ∷ 200 ∷ []) (leaf_hash (7 ∷ []))))))))
    × (witness (30 ∷ 200 ∷ []) t5 ≡ (Fork (Fork (Labeled (70 ∷ 200 ∷ []) (Pruned (leaf_hash (2 ∷ [])))) (Pruned (fork_hash (labeled_hash (80 ∷ 200 ∷ []) (leaf_hash (1 ∷ []))) (labeled_hash (90 ∷ 200 ∷ []) (leaf_hash (3 ∷ [])))))) (Pruned (fork_hash (labeled_hash (110 ∷ []) (leaf_hash (0 ∷ []))) (fork_hash (labeled_hash (120 ∷ 100 ∷ []) (leaf_hash (6 ∷ []))) (labeled_hash (120 ∷ 200 ∷ []) (leaf_hash (7 ∷ []))))))))
    × (keys_with_prefix (120 ∷ []) t5 ≡ (Fork (Pruned (fork_hash (labeled_hash (70 ∷ 200 ∷ []) (leaf_hash (2 ∷ []))) (fork_hash (labeled_hash (80 ∷ 200 ∷ []) (leaf_hash (1 ∷ []))) (labeled_hash (90 ∷ 200 ∷ []) (leaf_hash (3 ∷ [])))))) (Fork (Labeled (110 ∷ []) (Pruned (leaf_hash (0 ∷ [])))) (Fork (Labeled (120 ∷ 100 ∷ []) (Pruned (leaf_hash (6 ∷ [])))) (Labeled (120 ∷ 200 ∷ []) (Pruned (leaf_hash (7 ∷ []))))))))
    × (key_range (70 ∷ 100 ∷ []) (80 ∷ []) t5 ≡ (Fork (Fork (Labeled (70 ∷ 200 ∷ []) (Pruned (leaf_hash (2 ∷ [])))) (Fork (Labeled (80 ∷ 200 ∷ []) (Pruned (leaf_hash (1 ∷ [])))) (Pruned (labeled_hash (90 ∷ 200 ∷ []) (leaf_hash (3 ∷ [])))))) (Pruned (fork_hash (labeled_hash (110 ∷ []) (leaf_hash (0 ∷ []))) (fork_hash (labeled_hash (120 ∷ 100 ∷ []) (leaf_hash (6 ∷ []))) (labeled_hash (120 ∷ 200 ∷ []) (leaf_hash (7 ∷ []))))))))
    × (value_range (70 ∷ 100 ∷ []) (80 ∷ []) t5 ≡ (Fork (Fork (Labeled (70 ∷ 200 ∷ []) (Leaf (2 ∷ []))) (Fork (Labeled (80 ∷ 200 ∷ []) (Pruned (leaf_hash (1 ∷ [])))) (Pruned (labeled_hash (90 ∷ 200 ∷ []) (leaf_hash (3 ∷ [])))))) (Pruned (fork_hash (labeled_hash (110 ∷ []) (leaf_hash (0 ∷ []))) (fork_hash (labeled_hash (120 ∷ 100 ∷ []) (leaf_hash (6 ∷ []))) (labeled_hash (120 ∷ 200 ∷ []) (leaf_hash (7 ∷ []))))))))
    × (witness (70 ∷ 100 ∷ []) t5 ≡ (Fork (Fork (Labeled (70 ∷ 200 ∷ []) (Pruned (leaf_hash (2 ∷ [])))) (Pruned (fork_hash (labeled_hash (80 ∷ 200 ∷ []) (leaf_hash (1 ∷ []))) (labeled_hash (90 ∷ 200 ∷ []) (leaf_hash (3 ∷ [])))))) (Pruned (fork_hash (labeled_hash (110 ∷ []) (leaf_hash (0 ∷ []))) (fork_hash (labeled_hash (120 ∷ 100 ∷ []) (leaf_hash (6 ∷ []))) (labeled_hash (120 ∷ 200 ∷ []) (leaf_hash (7 ∷ []))))))))
    × (keys_with_prefix (80 ∷ []) t5 ≡ (Fork (Fork (Labeled (70 ∷ 200 ∷ []) (Pruned (leaf_hash (2 ∷ [])))) (Fork (Labeled (80 ∷ 200 ∷ []) (Pruned (leaf_hash (1 ∷ [])))) (Labeled (90 ∷ 200 ∷ []) (Pruned (leaf_hash (3 ∷ [])))))) (Pruned (fork_hash (labeled_hash (110 ∷ []) (leaf_hash (0 ∷ []))) (fork_hash (labeled_hash (120 ∷ 100 ∷ []) (leaf_hash (6 ∷ []))) (labeled_hash (120 ∷ 200 ∷ []) (leaf_hash (7 ∷ []))))))))
    × (root_hash t5 ≡ (fork_hash (fork_hash (labeled_hash (70 ∷ 200 ∷ []) (leaf_hash (2 ∷ []))) (fork_hash (labeled_hash (80 ∷ 200 ∷ []) (leaf_hash (1 ∷ []))) (labeled_hash (90 ∷ 200 ∷ []) (leaf_hash (3 ∷ []))))) (fork_hash (labeled_hash (110 ∷ []) (leaf_hash (0 ∷ []))) (fork_hash (labeled_hash (120 ∷ 100 ∷ []) (leaf_hash (6 ∷ []))) (labeled_hash (120 ∷ 200 ∷ []) (leaf_hash (7 ∷ [])))))))
unfolding as_hash_tree keys key_range value_range keys_with_prefix witness range_witness lookup_and_build_witness full_witness_tree witness_range_above witness_range_below witness_range_between lower_bound upper_bound right_prefix_neighbor is_prefix_of three_way_fork subtree_digest run insert delete modify get size ready delete_go delete_min insert_go cmp balance ready_left ready_right lean_right
case5 = (refl, refl, refl, refl, refl, refl, refl, refl, refl, refl, refl, refl, refl, refl, refl, refl, refl, refl, refl)

abbrev t6 : Tree
t6 = run (put 9 (100 ∷ []) (11 ∷ []) ∷ put 8 (50 ∷ 200 ∷ []) (10 ∷ []) ∷ put 7 (0 ∷ 200 ∷ []) (9 ∷ []) ∷ put 6 (40 ∷ []) (8 ∷ []) ∷ deleting (90 ∷ 200 ∷ []) ∷ deleting (40 ∷ 200 ∷ []) ∷ put 5 (10 ∷ 200 ∷ []) (5 ∷ []) ∷ put 4 (50 ∷ []) (4 ∷ []) ∷ put 3 (120 ∷ 100 ∷ []) (3 ∷ []) ∷ put 2 (70 ∷ 100 ∷ []) (2 ∷ []) ∷ deleting (130 ∷ []) ∷ put 1 (100 ∷ 200 ∷ []) (0 ∷ []) ∷ [])

case6 : (as_hash_tree t6 ≡ (Fork (Fork (Labeled (0 ∷ 200 ∷ []) (Leaf (9 ∷ []))) (Fork (Labeled (10 ∷ 200 ∷ []) (Leaf (5 ∷ []))) (Labeled (40 ∷ []) (Leaf (8 ∷ []))))) (Fork (Labeled (50 ∷ []) (Leaf (4 ∷ []))) (Fork (Fork (Labeled (50 ∷ 200 ∷ []) (Leaf (10 ∷ []))) (Fork (Labeled (70 ∷ 100 ∷ []) (Leaf (2 ∷ []))) (Labeled (100 ∷ []) (Leaf (11 ∷ []))))) (Fork (Labeled (100 ∷ 200 ∷ []) (Leaf (0 ∷ []))) (Labeled (120 ∷ 100 ∷ []) (Leaf (3 ∷ []))))))))
    × (keys t6 ≡ (Fork (Fork (Labeled (0 ∷ 200 ∷ []) (Pruned (leaf_hash (9 ∷ [])))) (Fork (Labeled (10 ∷ 200 ∷ []) (Pruned (leaf_hash (5 ∷ [])))) (Labeled (40 ∷ []) (Pruned (leaf_hash (8 ∷ [])))))) (Fork (Labeled (50 ∷ []) (Pruned (leaf_hash (4 ∷ [])))) (Fork (Fork (Labeled (50 ∷ 200 ∷ []) (Pruned (leaf_hash (10 ∷ [])))) (Fork (Labeled (70 ∷ 100 ∷ []) (Pruned (leaf_hash (2 ∷ [])))) (Labeled (100 ∷ []) (Pruned (leaf_hash (11 ∷ [])))))) (Fork (Labeled (100 ∷ 200 ∷ []) (Pruned (leaf_hash (0 ∷ [])))) (Labeled (120 ∷ 100 ∷ []) (Pruned (leaf_hash (3 ∷ [])))))))))
    × (key_range (90 ∷ []) (90 ∷ 200 ∷ []) t6 ≡ (Fork (Pruned (fork_hash (labeled_hash (0 ∷ 200 ∷ []) (leaf_hash (9 ∷ []))) (fork_hash (labeled_hash (10 ∷ 200 ∷ []) (leaf_hash (5 ∷ []))) (labeled_hash (40 ∷ []) (leaf_hash (8 ∷ [])))))) (Fork (Pruned (labeled_hash (50 ∷ []) (leaf_hash (4 ∷ [])))) (Fork (Fork (Pruned (labeled_hash (50 ∷ 200 ∷ []) (leaf_hash (10 ∷ [])))) (Fork (Labeled (70 ∷ 100 ∷ []) (Pruned (leaf_hash (2 ∷ [])))) (Labeled (100 ∷ []) (Pruned (leaf_hash (11 ∷ [])))))) (Pruned (fork_hash (labeled_hash (100 ∷ 200 ∷ []) (leaf_hash (0 ∷ []))) (labeled_hash (120 ∷ 100 ∷ []) (leaf_hash (3 ∷ [])))))))))
    × (value_range (90 ∷ []) (90 ∷ 200 ∷ []) t6 ≡ (Fork (Pruned (fork_hash (labeled_hash (0 ∷ 200 ∷ []) (leaf_hash (9 ∷ []))) (fork_hash (labeled_hash (10 ∷ 200 ∷ []) (leaf_hash (5 ∷ []))) (labeled_hash (40 ∷ []) (leaf_hash (8 ∷ [])))))) (Fork (Pruned (labeled_hash (50 ∷ []) (leaf_hash (4 ∷ [])))) (Fork (Fork (Pruned (labeled_hash (50 ∷ 200 ∷ []) (leaf_hash (10 ∷ [])))) (Fork (Labeled (70 ∷ 100 ∷ []) (Pruned (leaf_hash (2 ∷ [])))) (Labeled (100 ∷ []) (Pruned (leaf_hash (11 ∷ [])))))) (Pruned (fork_hash (labeled_hash (100 ∷ 200 ∷ []) (leaf_hash (0 ∷ []))) (labeled_hash (120 ∷ 100 ∷ []) (leaf_hash (3 ∷ [])))))))))
    × (witness (90 ∷ []) t6 ≡ (Fork (Pruned (fork_hash (labeled_hash (0 ∷ 200 ∷ []) (leaf_hash (9 ∷ []))) (fork_hash (labeled_hash (10 ∷ 200 ∷ []) (leaf_hash (5 ∷ []))) (labeled_hash (40 ∷ []) (leaf_hash (8 ∷ [])))))) (Fork (Pruned (labeled_hash (50 ∷ []) (leaf_hash (4 ∷ [])))) (Fork (Fork (Pruned (labeled_hash (50 ∷ 200 ∷ []) (leaf_hash (10 ∷ [])))) (Fork (Labeled (70 ∷ 100 ∷ []) (Pruned (leaf_hash (2 ∷ [])))) (Labeled (100 ∷ []) (Pruned (leaf_hash (11 ∷ [])))))) (Pruned (fork_hash (labeled_hash (100 ∷ 200 ∷ []) (leaf_hash (0 ∷ []))) (labeled_hash (120 ∷ 100 ∷ []) (leaf_hash (3 ∷ [])))))))))
    × (keys_with_prefix (90 ∷ 200 ∷ []) t6 ≡ (Fork (Pruned (fork_hash (labeled_hash (0 ∷ 200 ∷ []) (leaf_hash (9 ∷ []))) (fork_hash (labeled_hash (10 ∷ 200 ∷ []) (leaf_hash (5 ∷ []))) (labeled_hash (40 ∷ []) (leaf_hash (8 ∷ [])))))) (Fork (Pruned (labeled_hash (50 ∷ []) (leaf_hash (4 ∷ [])))) (Fork (Fork (Pruned (labeled_hash (50 ∷ 200 ∷ []) (leaf_hash (10 ∷ [])))) (Fork (Labeled (70 ∷ 100 ∷ []) (Pruned (leaf_hash (2 ∷ [])))) (Labeled (100 ∷ []) (Pruned (leaf_hash (11 ∷ [])))))) (Pruned (fork_hash (labeled_hash (100 ∷ 200 ∷ []) (leaf_hash (0 ∷ []))) (labeled_hash (120 ∷ 100 ∷ []) (leaf_hash (3 ∷ [])))))))))
    × (key_range (50 ∷ []) (50 ∷ 100 ∷ []) t6 ≡ (Fork (Pruned (fork_hash (labeled_hash (0 ∷ 200 ∷ []) (leaf_hash (9 ∷ []))) (fork_hash (labeled_hash (10 ∷ 200 ∷ []) (leaf_hash (5 ∷ []))) (labeled_hash (40 ∷ []) (leaf_hash (8 ∷ [])))))) (Fork (Labeled (50 ∷ []) (Pruned (leaf_hash (4 ∷ [])))) (Fork (Fork (Labeled (50 ∷ 200 ∷ []) (Pruned (leaf_hash (10 ∷ [])))) (Pruned (fork_hash (labeled_hash (70 ∷ 100 ∷ []) (leaf_hash (2 ∷ []))) (labeled_hash (100 ∷ []) (leaf_hash (11 ∷ [])))))) (Pruned (fork_hash (labeled_hash (100 ∷ 200 ∷ []) (leaf_hash (0 ∷ []))) (labeled_hash (120 ∷ 100 ∷ []) (leaf_hash (3 ∷ [])))))))))
    × (value_range (50 ∷ []) (50 ∷ 100 ∷ []) t6 ≡ (Fork (Pruned (fork_hash (labeled_hash (0 ∷ 200 ∷ []) (leaf_hash (9 ∷ []))) (fork_hash (labeled_hash (10 ∷ 200 ∷ []) (leaf_hash (5 ∷ []))) (labeled_hash (40 ∷ []) (leaf_hash (8 ∷ [])))))) (Fork (Labeled (50 ∷ []) (Leaf (4 ∷ []))) (Fork (Fork (Labeled (50 ∷ 200 ∷ []) (Pruned (leaf_hash (10 ∷ [])))) (Pruned (fork_hash (labeled_hash (70 ∷ 100 ∷ []) (leaf_hash (2 ∷ []))) (labeled_hash (100 ∷ []) (leaf_hash (11 ∷ [])))))) (Pruned (fork_hash (labeled_hash (100 ∷ 200 ∷ []) (leaf_hash (0 ∷ []))) (labeled_hash (120 ∷ 100 ∷ []) (leaf_hash (3 ∷ [])))))))))
    × (witness (50 ∷ []) t6 ≡ (Fork (Pruned (fork_hash (labeled_hash (0 ∷ 200 ∷ []) (leaf_hash (9 ∷ []))) (fork_hash (labeled_hash (10 ∷ 200 ∷ []) (leaf_hash (5 ∷ []))) (labeled_hash (40 ∷ []) (leaf_hash (8 ∷ [])))))) (Fork (Labeled (50 ∷ []) (Leaf (4 ∷ []))) (Pruned (fork_hash (fork_hash (labeled_hash (50 ∷ 200 ∷ []) (leaf_hash (10 ∷ []))) (fork_hash (labeled_hash (70 ∷ 100 ∷ []) (leaf_hash (2 ∷ []))) (labeled_hash (100 ∷ []) (leaf_hash (11 ∷ []))))) (fork_hash (labeled_hash (100 ∷ 200 ∷ []) (leaf_hash (0 ∷ []))) (labeled_hash (120 ∷ 100 ∷ []) (leaf_hash (3 ∷ [])))))))))
    × (keys_with_prefix (50 ∷ 100 ∷ []) t6 ≡ (Fork (Pruned (fork_hash (labeled_hash (0 ∷ 200 ∷ []) (leaf_hash (9 ∷ []))) (fork_hash (labeled_hash (10 ∷ 200 ∷ []) (leaf_hash (5 ∷ []))) (labeled_hash (40 ∷ []) (leaf_hash (8 ∷ [])))))) (Fork (Labeled (50 ∷ []) (Pruned (leaf_hash (4 ∷ [])))) (Fork (Fork (Labeled (50 ∷ 200 ∷ []) (Pruned (leaf_hash (10 ∷ [])))) (Pruned (fork_hash (labeled_hash (70 ∷ 100 ∷ []) (leaf_hash (2 ∷ []))) (labeled_hash (100 ∷ []) (leaf_hash (11 ∷ [])))))) (Pruned (fork_hash (labeled_hash (100 ∷ 200 ∷ []) (leaf_hash (0 ∷ []))) (labeled_hash (120 ∷ 100 ∷ []) (leaf_hash (3 ∷ [])))))))))
    × (key_range (30 ∷ 200 ∷ []) (100 ∷ 100 ∷ []) t6 ≡ (Fork (Fork (Pruned (labeled_hash (0 ∷ 200 ∷ []) (leaf_hash (9 ∷ [])))) (Fork (Labeled (10 ∷ 200 ∷ []) (Pruned (leaf_hash (5 ∷ [])))) (Labeled (40 ∷ []) (Pruned (leaf_hash (8 ∷ [])))))) (Fork (Labeled (50 ∷ []) (Pruned (leaf_hash (4 ∷ [])))) (Fork (Fork (Labeled (50 ∷ 200 ∷ []) (Pruned (leaf_hash (10 ∷ [])))) (Fork (Labeled (70 ∷ 100 ∷ []) (Pruned (leaf_hash (2 ∷ [])))) (Labeled (100 ∷ []) (Pruned (leaf_hash (11 ∷ [])))))) (Fork (Labeled (100 ∷ 200 ∷ []) (Pruned (leaf_hash (0 ∷ [])))) (Pruned (labeled_hash (120 ∷ 100 ∷ []) (leaf_hash (3 ∷ [])))))))))
    × (value_range (30 ∷ 200 ∷ []) (100 ∷ 100 ∷ []) t6 ≡ (Fork (Fork (Pruned (labeled_hash (0 ∷ 200 ∷ []) (leaf_hash (9 ∷ [])))) (Fork (Labeled (10 ∷ 200 ∷ []) (Pruned (leaf_hash (5 ∷ [])))) (Labeled (40 ∷ []) (Leaf (8 ∷ []))))) (Fork (Labeled (50 ∷ []) (Leaf (4 ∷ []))) (Fork (Fork (Labeled (50 ∷ 200 ∷ []) (Leaf (10 ∷ []))) (Fork (Labeled (70 ∷ 100 ∷ []) (Leaf (2 ∷ []))) (Labeled (100 ∷ []) (Leaf (11 ∷ []))))) (Fork (Labeled (100 ∷ 200 ∷ []) (Pruned (leaf_hash (0 ∷ [])))) (Pruned (labeled_hash (120 ∷ 100 ∷ []) (leaf_hash (3 ∷ [])))))))))
    × (witness (30 ∷ 200 ∷ []) t6 ≡ (Fork (Fork (Pruned (labeled_hash (0 ∷ 200 ∷ []) (leaf_hash (9 ∷ [])))) (Fork (Labeled (10 ∷ 200 ∷ []) (Pruned (leaf_hash (5 ∷ [])))) (Labeled (40 ∷ []) (Pruned (leaf_hash (8 ∷ [])))))) (Pruned (fork_hash (labeled_hash (50 ∷ []) (leaf_hash (4 ∷ []))) (fork_hash (fork_hash (labeled_hash (50 ∷ 200 ∷ []) (leaf_hash (10 ∷ []))) (fork_hash (labeled_hash (70 ∷ 100 ∷ []) (leaf_hash (2 ∷ []))) (labeled_hash (100 ∷ []) (leaf_hash (11 ∷ []))))) (fork_hash (labeled_hash (100 ∷ 200 ∷ []) (leaf_hash (0 ∷ []))) (labeled_hash (120 ∷ 100 ∷ []) (leaf_hash (3 ∷ [])))))))))
    × (keys_with_prefix (100 ∷ 100 ∷ []) t6 ≡ (Fork (Pruned (fork_hash (labeled_hash (0 ∷ 200 ∷ []) (leaf_hash (9 ∷ []))) (fork_hash (labeled_hash (10 ∷ 200 ∷ []) (leaf_hash (5 ∷ []))) (labeled_hash (40 ∷ []) (leaf_hash (8 ∷ [])))))) (Fork (Pruned (labeled_hash (50 ∷ []) (leaf_hash (4 ∷ [])))) (Fork (Fork (Pruned (labeled_hash (50 ∷ 200 ∷ []) (leaf_hash (10 ∷ [])))) (Fork (Pruned (labeled_hash (70 ∷ 100 ∷ []) (leaf_hash (2 ∷ [])))) (Labeled (100 ∷ []) (Pruned (leaf_hash (11 ∷ [])))))) (Fork (Labeled (100 ∷ 200 ∷ []) (Pruned (leaf_hash (0 ∷ [])))) (Pruned (labeled_hash (120 ∷ 100 ∷ []) (leaf_hash (3 ∷ [])))))))))
    × (key_range (10 ∷ []) (30 ∷ []) t6 ≡ (Fork (Fork (Labeled (0 ∷ 200 ∷ []) (Pruned (leaf_hash (9 ∷ [])))) (Fork (Labeled (10 ∷ 200 ∷ []) (Pruned (leaf_hash (5 ∷ [])))) (Labeled (40 ∷ []) (Pruned (leaf_hash (8 ∷ [])))))) (Pruned (fork_hash (labeled_hash (50 ∷ []) (leaf_hash (4 ∷ []))) (fork_hash (fork_hash (labeled_hash (50 ∷ 200 ∷ []) (leaf_hash (10 ∷ []))) (fork_hash (labeled_hash (70 ∷ 100 ∷ []) (leaf_hash (2 ∷ []))) (labeled_hash (100 ∷ []) (leaf_hash (11 ∷ []))))) (fork_hash (labeled_hash (100 ∷ 200 ∷ []) (leaf_hash (0 ∷ []))) (labeled_hash (120 ∷ 100 ∷ []) (leaf_hash (3 ∷ [])))))))))
    × (value_range (10 ∷ []) (30 ∷ []) t6 ≡ (Fork (Fork (Labeled (0 ∷ 200 ∷ []) (Pruned (leaf_hash (9 ∷ [])))) (Fork (Labeled (10 ∷ 200 ∷ []) (Leaf (5 ∷ []))) (Labeled (40 ∷ []) (Pruned (leaf_hash (8 ∷ [])))))) (Pruned (fork_hash (labeled_hash (50 ∷ []) (leaf_hash (4 ∷ []))) (fork_hash (fork_hash (labeled_hash (50 ∷ 200 ∷ []) (leaf_hash (10 ∷ []))) (fork_hash (labeled_hash (70 ∷ 100 ∷ []) (leaf_hash (2 ∷ []))) (labeled_hash (100 ∷ []) (leaf_hash (11 ∷ []))))) (fork_hash (labeled_hash (100 ∷ 200 ∷ []) (leaf_hash (0 ∷ []))) (labeled_hash (120 ∷ 100 ∷ []) (leaf_hash (3 ∷ [])))))))))
    × (witness (10 ∷ []) t6 ≡ (Fork (Fork (Labeled (0 ∷ 200 ∷ []) (Pruned (leaf_hash (9 ∷ [])))) (Fork (Labeled (10 ∷ 200 ∷ []) (Pruned (leaf_hash (5 ∷ [])))) (Pruned (labeled_hash (40 ∷ []) (leaf_hash (8 ∷ [])))))) (Pruned (fork_hash (labeled_hash (50 ∷ []) (leaf_hash (4 ∷ []))) (fork_hash (fork_hash (labeled_hash (50 ∷ 200 ∷ []) (leaf_hash (10 ∷ []))) (fork_hash (labeled_hash (70 ∷ 100 ∷ []) (leaf_hash (2 ∷ []))) (labeled_hash (100 ∷ []) (leaf_hash (11 ∷ []))))) (fork_hash (labeled_hash (100 ∷ 200 ∷ []) (leaf_hash (0 ∷ []))) (labeled_hash (120 ∷ 100 ∷ []) (leaf_hash (3 ∷ [])))))))))
    × (keys_with_prefix (30 ∷ []) t6 ≡ (Fork (Fork (Pruned (labeled_hash (0 ∷ 200 ∷ []) (leaf_hash (9 ∷ [])))) (Fork (Labeled (10 ∷ 200 ∷ []) (Pruned (leaf_hash (5 ∷ [])))) (Labeled (40 ∷ []) (Pruned (leaf_hash (8 ∷ [])))))) (Pruned (fork_hash (labeled_hash (50 ∷ []) (leaf_hash (4 ∷ []))) (fork_hash (fork_hash (labeled_hash (50 ∷ 200 ∷ []) (leaf_hash (10 ∷ []))) (fork_hash (labeled_hash (70 ∷ 100 ∷ []) (leaf_hash (2 ∷ []))) (labeled_hash (100 ∷ []) (leaf_hash (11 ∷ []))))) (fork_hash (labeled_hash (100 ∷ 200 ∷ []) (leaf_hash (0 ∷ []))) (labeled_hash (120 ∷ 100 ∷ []) (leaf_hash (3 ∷ [])))))))))
    × (root_hash t6 ≡ (fork_hash (fork_hash (labeled_hash (0 ∷ 200 ∷ []) (leaf_hash (9 ∷ []))) (fork_hash (labeled_hash (10 ∷ 200 ∷ []) (leaf_hash (5 ∷ []))) (labeled_hash (40 ∷ []) (leaf_hash (8 ∷ []))))) (fork_hash (labeled_hash (50 ∷ []) (leaf_hash (4 ∷ []))) (fork_hash (fork_hash (labeled_hash (50 ∷ 200 ∷ []) (leaf_hash (10 ∷ []))) (fork_hash (labeled_hash (70 ∷ 100 ∷ []) (leaf_hash (2 ∷ []))) (labeled_hash (100 ∷ []) (leaf_hash (11 ∷ []))))) (fork_hash (labeled_hash (100 ∷ 200 ∷ []) (leaf_hash (0 ∷ []))) (labeled_hash (120 ∷ 100 ∷ []) (leaf_hash (3 ∷ []))))))))
unfolding as_hash_tree keys key_range value_range keys_with_prefix witness range_witness lookup_and_build_witness full_witness_tree witness_range_above witness_range_below witness_range_between lower_bound upper_bound right_prefix_neighbor is_prefix_of three_way_fork subtree_digest run insert delete modify get size ready delete_go delete_min insert_go cmp balance ready_left ready_right lean_right
case6 = (refl, refl, refl, refl, refl, refl, refl, refl, refl, refl, refl, refl, refl, refl, refl, refl, refl, refl, refl)

abbrev t7 : Tree
t7 = run (modifying (30 ∷ []) (15 ∷ []) ∷ put 9 (30 ∷ []) (14 ∷ []) ∷ deleting (90 ∷ []) ∷ deleting (120 ∷ 100 ∷ []) ∷ put 8 (10 ∷ 200 ∷ []) (11 ∷ []) ∷ put 7 (100 ∷ 200 ∷ []) (10 ∷ []) ∷ put 7 (80 ∷ []) (9 ∷ []) ∷ deleting (80 ∷ 200 ∷ []) ∷ put 7 (80 ∷ []) (7 ∷ []) ∷ put 6 (70 ∷ 100 ∷ []) (6 ∷ []) ∷ put 5 (80 ∷ []) (5 ∷ []) ∷ put 4 (40 ∷ 100 ∷ []) (4 ∷ []) ∷ deleting (70 ∷ []) ∷ put 3 (60 ∷ 100 ∷ []) (2 ∷ []) ∷ put 2 (50 ∷ []) (1 ∷ []) ∷ put 1 ([]) (0 ∷ []) ∷ [])

case7 : (as_hash_tree t7 ≡ (Fork (Fork (Labeled ([]) (Leaf (0 ∷ []))) (Fork (Labeled (10 ∷ 200 ∷ []) (Leaf (11 ∷ []))) (Fork (Labeled (30 ∷ []) (Leaf (15 ∷ []))) (Labeled (40 ∷ 100 ∷ []) (Leaf (4 ∷ [])))))) (Fork (Labeled (50 ∷ []) (Leaf (1 ∷ []))) (Fork (Labeled (60 ∷ 100 ∷ []) (Leaf (2 ∷ []))) (Fork (Labeled (70 ∷ 100 ∷ []) (Leaf (6 ∷ []))) (Fork (Labeled (80 ∷ []) (Leaf (9 ∷ []))) (Labeled (100 ∷ 200 ∷ []) (Leaf (10 ∷ [])))))))))
    × (keys t7 ≡ (Fork (Fork (Labeled ([]) (Pruned (leaf_hash (0 ∷ [])))) (Fork (Labeled (10 ∷ 200 ∷ []) (Pruned (leaf_hash (11 ∷ [])))) (Fork (Labeled (30 ∷ []) (Pruned (leaf_hash (15 ∷ [])))) (Labeled (40 ∷ 100 ∷ []) (Pruned (leaf_hash (4 ∷ []))))))) (Fork (Labeled (50 ∷ []) (Pruned (leaf_hash (1 ∷ [])))) (Fork (Labeled (60 ∷ 100 ∷ []) (Pruned (leaf_hash (2 ∷ [])))) (Fork (Labeled (70 ∷ 100 ∷ []) (Pruned (leaf_hash (6 ∷ [])))) (Fork (Labeled (80 ∷ []) (Pruned (leaf_hash (9 ∷ [])))) (Labeled (100 ∷ 200 ∷ []) (Pruned (leaf_hash (10 ∷ []))))))))))
    × (key_range (20 ∷ 200 ∷ []) (90 ∷ []) t7 ≡ (Fork (Fork (Pruned (labeled_hash ([]) (leaf_hash (0 ∷ [])))) (Fork (Labeled (10 ∷ 200 ∷ []) (Pruned (leaf_hash (11 ∷ [])))) (Fork (Labeled (30 ∷ []) (Pruned (leaf_hash (15 ∷ [])))) (Labeled (40 ∷ 100 ∷ []) (Pruned (leaf_hash (4 ∷ []))))))) (Fork (Labeled (50 ∷ []) (Pruned (leaf_hash (1 ∷ [])))) (Fork (Labeled (60 ∷ 100 ∷ []) (Pruned (leaf_hash (2 ∷ [])))) (Fork (Labeled (70 ∷ 100 ∷ []) (Pruned (leaf_hash (6 ∷ [])))) (Fork (Labeled (80 ∷ []) (Pruned (leaf_hash (9 ∷ [])))) (Labeled (100 ∷ 200 ∷ []) (Pruned (leaf_hash (10 ∷ []))))))))))
    × (value_range (20 ∷ 200 ∷ []) (90 ∷ []) t7 ≡ (Fork (Fork (Pruned (labeled_hash ([]) (leaf_hash (0 ∷ [])))) (Fork (Labeled (10 ∷ 200 ∷ []) (Pruned (leaf_hash (11 ∷ [])))) (Fork (Labeled (30 ∷ []) (Leaf (15 ∷ []))) (Labeled (40 ∷ 100 ∷ []) (Leaf (4 ∷ [])))))) (Fork (Labeled (50 ∷ []) (Leaf (1 ∷ []))) (Fork (Labeled (60 ∷ 100 ∷ []) (Leaf (2 ∷ []))) (Fork (Labeled (70 ∷ 100 ∷ []) (Leaf (6 ∷ []))) (Fork (Labeled (80 ∷ []) (Leaf (9 ∷ []))) (Labeled (100 ∷ 200 ∷ []) (Pruned (leaf_hash (10 ∷ []))))))))))
    × (witness (20 ∷ 200 ∷ []) t7 ≡ (Fork (Fork (Pruned (labeled_hash ([]) (leaf_hash (0 ∷ [])))) (Fork (Labeled (10 ∷ 200 ∷ []) (Pruned (leaf_hash (11 ∷ [])))) (Fork (Labeled (30 ∷ []) (Pruned (leaf_hash (15 ∷ [])))) (Pruned (labeled_hash (40 ∷ 100 ∷ []) (leaf_hash (4 ∷ []))))))) (Pruned (fork_hash (labeled_hash (50 ∷ []) (leaf_hash (1 ∷ []))) (fork_hash (labeled_hash (60 ∷ 100 ∷ []) (leaf_hash (2 ∷ []))) (fork_hash (labeled_hash (70 ∷ 100 ∷ []) (leaf_hash (6 ∷ []))) (fork_hash (labeled_hash (80 ∷ []) (leaf_hash (9 ∷ []))) (labeled_hash (100 ∷ 200 ∷ []) (leaf_hash (10 ∷ []))))))))))
    × (keys_with_prefix (90 ∷ []) t7 ≡ (Fork (Pruned (fork_hash (labeled_hash ([]) (leaf_hash (0 ∷ []))) (fork_hash (labeled_hash (10 ∷ 200 ∷ []) (leaf_hash (11 ∷ []))) (fork_hash (labeled_hash (30 ∷ []) (leaf_hash (15 ∷ []))) (labeled_hash (40 ∷ 100 ∷ []) (leaf_hash (4 ∷ []))))))) (Fork (Pruned (labeled_hash (50 ∷ []) (leaf_hash (1 ∷ [])))) (Fork (Pruned (labeled_hash (60 ∷ 100 ∷ []) (leaf_hash (2 ∷ [])))) (Fork (Pruned (labeled_hash (70 ∷ 100 ∷ []) (leaf_hash (6 ∷ [])))) (Fork (Labeled (80 ∷ []) (Pruned (leaf_hash (9 ∷ [])))) (Labeled (100 ∷ 200 ∷ []) (Pruned (leaf_hash (10 ∷ []))))))))))
    × (key_range (70 ∷ 100 ∷ []) (90 ∷ 100 ∷ []) t7 ≡ (Fork (Pruned (fork_hash (labeled_hash ([]) (leaf_hash (0 ∷ []))) (fork_hash (labeled_hash (10 ∷ 200 ∷ []) (leaf_hash (11 ∷ []))) (fork_hash (labeled_hash (30 ∷ []) (leaf_hash (15 ∷ []))) (labeled_hash (40 ∷ 100 ∷ []) (leaf_hash (4 ∷ []))))))) (Fork (Pruned (labeled_hash (50 ∷ []) (leaf_hash (1 ∷ [])))) (Fork (Pruned (labeled_hash (60 ∷ 100 ∷ []) (leaf_hash (2 ∷ [])))) (Fork (Labeled (70 ∷ 100 ∷ []) (Pruned (leaf_hash (6 ∷ [])))) (Fork (Labeled (80 ∷ []) (Pruned (leaf_hash (9 ∷ [])))) (Labeled (100 ∷ 200 ∷ []) (Pruned (leaf_hash (10 ∷ []))))))))))
    × (value_range (70 ∷ 100 ∷ []) (90 ∷ 100 ∷ []) t7 ≡ (Fork (Pruned (fork_hash (labeled_hash ([]) (leaf_hash (0 ∷ []))) (fork_hash (labeled_hash (10 ∷ 200 ∷ []) (leaf_hash (11 ∷ []))) (fork_hash (labeled_hash (30 ∷ []) (leaf_hash (15 ∷ []))) (labeled_hash (40 ∷ 100 ∷ []) (leaf_hash (4 ∷ []))))))) (Fork (Pruned (labeled_hash (50 ∷ []) (leaf_hash (1 ∷ [])))) (Fork (Pruned (labeled_hash (60 ∷ 100 ∷ []) (leaf_hash (2 ∷ [])))) (Fork (Labeled (70 ∷ 100 ∷ []) (Leaf (6 ∷ []))) (Fork (Labeled (80 ∷ []) (Leaf (9 ∷ []))) (Labeled (100 ∷ 200 ∷ []) (Pruned (leaf_hash (10 ∷ []))))))))))
    × (witness (70 ∷ 100 ∷ []) t7 ≡ (Fork (Pruned (fork_hash (labeled_hash ([]) (leaf_hash (0 ∷ []))) (fork_hash (labeled_hash (10 ∷ 200 ∷ []) (leaf_hash (11 ∷ []))) (fork_hash (labeled_hash (30 ∷ []) (leaf_hash (15 ∷ []))) (labeled_hash (40 ∷ 100 ∷ []) (leaf_hash (4 ∷ []))))))) (Fork (Pruned (labeled_hash (50 ∷ []) (leaf_hash (1 ∷ [])))) (Fork (Pruned (labeled_hash (60 ∷ 100 ∷ []) (leaf_hash (2 ∷ [])))) (Fork (Labeled (70 ∷ 100 ∷ []) (Leaf (6 ∷ []))) (Pruned (fork_hash (labeled_hash (80 ∷ []) (leaf_hash (9 ∷ []))) (labeled_hash (100 ∷ 200 ∷ []) (leaf_hash (10 ∷ []))))))))))
    × (keys_with_prefix (90 ∷ 100 ∷ []) t7 ≡ (Fork (Pruned (fork_hash (labeled_hash ([]) (leaf_hash (0 ∷ []))) (fork_hash (labeled_hash (10 ∷ 200 ∷ []) (leaf_hash (11 ∷ []))) (fork_hash (labeled_hash (30 ∷ []) (leaf_hash (15 ∷ []))) (labeled_hash (40 ∷ 100 ∷ []) (leaf_hash (4 ∷ []))))))) (Fork (Pruned (labeled_hash (50 ∷ []) (leaf_hash (1 ∷ [])))) (Fork (Pruned (labeled_hash (60 ∷ 100 ∷ []) (leaf_hash (2 ∷ [])))) (Fork (Pruned (labeled_hash (70 ∷ 100 ∷ []) (leaf_hash (6 ∷ [])))) (Fork (Labeled (80 ∷ []) (Pruned (leaf_hash (9 ∷ [])))) (Labeled (100 ∷ 200 ∷ []) (Pruned (leaf_hash (10 ∷ []))))))))))
    × (key_range (40 ∷ 200 ∷ []) (90 ∷ 100 ∷ []) t7 ≡ (Fork (Fork (Pruned (labeled_hash ([]) (leaf_hash (0 ∷ [])))) (Fork (Pruned (labeled_hash (10 ∷ 200 ∷ []) (leaf_hash (11 ∷ [])))) (Fork (Pruned (labeled_hash (30 ∷ []) (leaf_hash (15 ∷ [])))) (Labeled (40 ∷ 100 ∷ []) (Pruned (leaf_hash (4 ∷ []))))))) (Fork (Labeled (50 ∷ []) (Pruned (leaf_hash (1 ∷ [])))) (Fork (Labeled (60 ∷ 100 ∷ []) (Pruned (leaf_hash (2 ∷ [])))) (Fork (Labeled (70 ∷ 100 ∷ []) (Pruned (leaf_hash (6 ∷ [])))) (Fork (Labeled (80 ∷ []) (Pruned (leaf_hash (9 ∷ [])))) (Labeled (100 ∷ 200 ∷ []) (Pruned (leaf_hash (10 ∷ []))))))))))
    × (value_range (40 ∷ 200 ∷ []) (90 ∷ 100 ∷ []) t7 ≡ (Fork (Fork (Pruned (labeled_hash ([]) (leaf_hash (0 ∷ [])))) (Fork (Pruned (labeled_hash (10 ∷ 200 ∷ []) (leaf_hash (11 ∷ [])))) (Fork (Pruned (labeled_hash (30 ∷ []) (leaf_hash (15 ∷ [])))) (Labeled (40 ∷ 100 ∷ []) (Pruned (leaf_hash (4 ∷ []))))))) (Fork (Labeled (50 ∷ []) (Leaf (1 ∷ []))) (Fork (Labeled (60 ∷ 100 ∷ []) (Leaf (2 ∷ []))) (Fork (Labeled (70 ∷ 100 ∷ []) (Leaf (6 ∷ []))) (Fork (Labeled (80 ∷ []) (Leaf (9 ∷ []))) (Labeled (100 ∷ 200 ∷ []) (Pruned (leaf_hash (10 ∷ []))))))))))
    × (witness (40 ∷ 200 ∷ []) t7 ≡ (Fork (Fork (Pruned (labeled_hash ([]) (leaf_hash (0 ∷ [])))) (Fork (Pruned (labeled_hash (10 ∷ 200 ∷ []) (leaf_hash (11 ∷ [])))) (Fork (Pruned (labeled_hash (30 ∷ []) (leaf_hash (15 ∷ [])))) (Labeled (40 ∷ 100 ∷ []) (Pruned (leaf_hash (4 ∷ []))))))) (Fork (Labeled (50 ∷ []) (Pruned (leaf_hash (1 ∷ [])))) (Pruned (fork_hash (labeled_hash (60 ∷ 100 ∷ []) (leaf_hash (2 ∷ []))) (fork_hash (labeled_hash (70 ∷ 100 ∷ []) (leaf_hash (6 ∷ []))) (fork_hash (labeled_hash (80 ∷ []) (leaf_hash (9 ∷ []))) (labeled_hash (100 ∷ 200 ∷ []) (leaf_hash (10 ∷ []))))))))))
    × (keys_with_prefix (90 ∷ 100 ∷ []) t7 ≡ (Fork (Pruned (fork_hash (labeled_hash ([]) (leaf_hash (0 ∷ []))) (fork_hash (labeled_hash (10 ∷ 200 ∷ []) (leaf_hash (11 ∷ []))) (fork_hash (labeled_hash (30 ∷ []) (leaf_hash (15 ∷ []))) (labeled_hash (40 ∷ 100 ∷ []) (leaf_hash (4 ∷ []))))))) (Fork (Pruned (labeled_hash (50 ∷ []) (leaf_hash (1 ∷ [])))) (Fork (Pruned (labeled_hash (60 ∷ 100 ∷ []) (leaf_hash (2 ∷ [])))) (Fork (Pruned (labeled_hash (70 ∷ 100 ∷ []) (leaf_hash (6 ∷ [])))) (Fork (Labeled (80 ∷ []) (Pruned (leaf_hash (9 ∷ [])))) (Labeled (100 ∷ 200 ∷ []) (Pruned (leaf_hash (10 ∷ []))))))))))
    × (key_range (10 ∷ 200 ∷ []) (100 ∷ 200 ∷ []) t7 ≡ (Fork (Fork (Pruned (labeled_hash ([]) (leaf_hash (0 ∷ [])))) (Fork (Labeled (10 ∷ 200 ∷ []) (Pruned (leaf_hash (11 ∷ [])))) (Fork (Labeled (30 ∷ []) (Pruned (leaf_hash (15 ∷ [])))) (Labeled (40 ∷ 100 ∷ []) (Pruned (leaf_hash (4 ∷ []))))))) (Fork (Labeled (50 ∷ []) (Pruned (leaf_hash (1 ∷ [])))) (Fork (Labeled (60 ∷ 100 ∷ []) (Pruned (leaf_hash (2 ∷ [])))) (Fork (Labeled (70 ∷ 100 ∷ []) (Pruned (leaf_hash (6 ∷ [])))) (Fork (Labeled (80 ∷ []) (Pruned (leaf_hash (9 ∷ [])))) (Labeled (100 ∷ 200 ∷ []) (Pruned (leaf_hash (10 ∷ []))))))))))
    × (value_range (10 ∷ 200 ∷ []) (100 ∷ 200 ∷ []) t7 ≡ (Fork (Fork (Pruned (labeled_hash ([]) (leaf_hash (0 ∷ [])))) (Fork (Labeled (10 ∷ 200 ∷ []) (Leaf (11 ∷ []))) (Fork (Labeled (30 ∷ []) (Leaf (15 ∷ []))) (Labeled (40 ∷ 100 ∷ []) (Leaf (4 ∷ [])))))) (Fork (Labeled (50 ∷ []) (Leaf (1 ∷ []))) (Fork (Labeled (60 ∷ 100 ∷ []) (Leaf (2 ∷ []))) (Fork (Labeled (70 ∷ 100 ∷ []) (Leaf (6 ∷ []))) (Fork (Labeled (80 ∷ []) (Leaf (9 ∷ []))) (Labeled (100 ∷ 200 ∷ []) (Leaf (10 ∷ [])))))))))
    × (witness (10 ∷ 200 ∷ []) t7 ≡ (Fork (Fork (Pruned (labeled_hash ([]) (leaf_hash (0 ∷ [])))) (Fork (Labeled (10 ∷ 200 ∷ []) (Leaf (11 ∷ []))) (Pruned (fork_hash (labeled_hash (30 ∷ []) (leaf_hash (15 ∷ []))) (labeled_hash (40 ∷ 100 ∷ []) (leaf_hash (4 ∷ []))))))) (Pruned (fork_hash (labeled_hash (50 ∷ []) (leaf_hash (1 ∷ []))) (fork_hash (labeled_hash (60 ∷ 100 ∷ []) (leaf_hash (2 ∷ []))) (fork_hash (labeled_hash (70 ∷ 100 ∷ []) (leaf_hash (6 ∷ []))) (fork_hash (labeled_hash (80 ∷ []) (leaf_hash (9 ∷ []))) (labeled_hash (100 ∷ 200 ∷ []) (leaf_hash (10 ∷ []))))))))))
    × (keys_with_prefix (100 ∷ 200 ∷ []) t7 ≡ (Fork (Pruned (fork_hash (labeled_hash ([]) (leaf_hash (0 ∷ []))) (fork_hash (labeled_hash (10 ∷ 200 ∷ []) (leaf_hash (11 ∷ []))) (fork_hash (labeled_hash (30 ∷ []) (leaf_hash (15 ∷ []))) (labeled_hash (40 ∷ 100 ∷ []) (leaf_hash (4 ∷ []))))))) (Fork (Pruned (labeled_hash (50 ∷ []) (leaf_hash (1 ∷ [])))) (Fork (Pruned (labeled_hash (60 ∷ 100 ∷ []) (leaf_hash (2 ∷ [])))) (Fork (Pruned (labeled_hash (70 ∷ 100 ∷ []) (leaf_hash (6 ∷ [])))) (Fork (Pruned (labeled_hash (80 ∷ []) (leaf_hash (9 ∷ [])))) (Labeled (100 ∷ 200 ∷ []) (Pruned (leaf_hash (10 ∷ []))))))))))
    × (root_hash t7 ≡ (fork_hash (fork_hash (labeled_hash ([]) (leaf_hash (0 ∷ []))) (fork_hash (labeled_hash (10 ∷ 200 ∷ []) (leaf_hash (11 ∷ []))) (fork_hash (labeled_hash (30 ∷ []) (leaf_hash (15 ∷ []))) (labeled_hash (40 ∷ 100 ∷ []) (leaf_hash (4 ∷ [])))))) (fork_hash (labeled_hash (50 ∷ []) (leaf_hash (1 ∷ []))) (fork_hash (labeled_hash (60 ∷ 100 ∷ []) (leaf_hash (2 ∷ []))) (fork_hash (labeled_hash (70 ∷ 100 ∷ []) (leaf_hash (6 ∷ []))) (fork_hash (labeled_hash (80 ∷ []) (leaf_hash (9 ∷ []))) (labeled_hash (100 ∷ 200 ∷ []) (leaf_hash (10 ∷ [])))))))))
unfolding as_hash_tree keys key_range value_range keys_with_prefix witness range_witness lookup_and_build_witness full_witness_tree witness_range_above witness_range_below witness_range_between lower_bound upper_bound right_prefix_neighbor is_prefix_of three_way_fork subtree_digest run insert delete modify get size ready delete_go delete_min insert_go cmp balance ready_left ready_right lean_right
case7 = (refl, refl, refl, refl, refl, refl, refl, refl, refl, refl, refl, refl, refl, refl, refl, refl, refl, refl, refl)

abbrev t8 : Tree
t8 = run (deleting (50 ∷ 200 ∷ []) ∷ put 6 (40 ∷ 100 ∷ []) (18 ∷ []) ∷ deleting (100 ∷ 100 ∷ []) ∷ deleting (70 ∷ []) ∷ deleting (130 ∷ []) ∷ deleting (40 ∷ []) ∷ deleting (10 ∷ 200 ∷ []) ∷ put 8 (10 ∷ 200 ∷ []) (12 ∷ []) ∷ put 7 (10 ∷ 200 ∷ []) (11 ∷ []) ∷ deleting (40 ∷ 200 ∷ []) ∷ deleting (40 ∷ []) ∷ put 6 (70 ∷ []) (8 ∷ []) ∷ deleting (90 ∷ []) ∷ put 5 (90 ∷ 100 ∷ []) (6 ∷ []) ∷ deleting (80 ∷ 100 ∷ []) ∷ put 4 (0 ∷ 200 ∷ []) (4 ∷ []) ∷ put 3 (30 ∷ 100 ∷ []) (3 ∷ []) ∷ put 3 (120 ∷ 200 ∷ []) (2 ∷ []) ∷ put 2 (120 ∷ 200 ∷ []) (1 ∷ []) ∷ put 1 (110 ∷ 100 ∷ []) (0 ∷ []) ∷ [])

case8 : (as_hash_tree t8 ≡ (Fork (Fork (Labeled (0 ∷ 200 ∷ []) (Leaf (4 ∷ []))) (Fork (Labeled (30 ∷ 100 ∷ []) (Leaf (3 ∷ []))) (Fork (Labeled (40 ∷ 100 ∷ []) (Leaf (18 ∷ []))) (Labeled (90 ∷ 100 ∷ []) (Leaf (6 ∷ [])))))) (Fork (Labeled (110 ∷ 100 ∷ []) (Leaf (0 ∷ []))) (Labeled (120 ∷ 200 ∷ []) (Leaf (2 ∷ []))))))
    × (keys t8 ≡ (Fork (Fork (Labeled (0 ∷ 200 ∷ []) (Pruned (leaf_hash (4 ∷ [])))) (Fork (Labeled (30 ∷ 100 ∷ []) (Pruned (leaf_hash (3 ∷ [])))) (Fork (Labeled (40 ∷ 100 ∷ []) (Pruned (leaf_hash (18 ∷ [])))) (Labeled (90 ∷ 100 ∷ []) (Pruned (leaf_hash (6 ∷ []))))))) (Fork (Labeled (110 ∷ 100 ∷ []) (Pruned (leaf_hash (0 ∷ [])))) (Labeled (120 ∷ 200 ∷ []) (Pruned (leaf_hash (2 ∷ [])))))))
    × (key_range (0 ∷ 100 ∷ []) (120 ∷ []) t8 ≡ (Fork (Fork (Labeled (0 ∷ 200 ∷ []) (Pruned (leaf_hash (4 ∷ [])))) (Fork (Labeled (30 ∷ 100 ∷ []) (Pruned (leaf_hash (3 ∷ [])))) (Fork (Labeled (40 ∷ 100 ∷ []) (Pruned (leaf_hash (18 ∷ [])))) (Labeled (90 ∷ 100 ∷ []) (Pruned (leaf_hash (6 ∷ []))))))) (Fork (Labeled (110 ∷ 100 ∷ []) (Pruned (leaf_hash (0 ∷ [])))) (Labeled (120 ∷ 200 ∷ []) (Pruned (leaf_hash (2 ∷ [])))))))
    × (value_range (0 ∷ 100 ∷ []) (120 ∷ []) t8 ≡ (Fork (Fork (Labeled (0 ∷ 200 ∷ []) (Leaf (4 ∷ []))) (Fork (Labeled (30 ∷ 100 ∷ []) (Leaf (3 ∷ []))) (Fork (Labeled (40 ∷ 100 ∷ []) (Leaf (18 ∷ []))) (Labeled (90 ∷ 100 ∷ []) (Leaf (6 ∷ [])))))) (Fork (Labeled (110 ∷ 100 ∷ []) (Leaf (0 ∷ []))) (Labeled (120 ∷ 200 ∷ []) (Pruned (leaf_hash (2 ∷ [])))))))
    × (witness (0 ∷ 100 ∷ []) t8 ≡ (Fork (Fork (Labeled (0 ∷ 200 ∷ []) (Pruned (leaf_hash (4 ∷ [])))) (Pruned (fork_hash (labeled_hash (30 ∷ 100 ∷ []) (leaf_hash (3 ∷ []))) (fork_hash (labeled_hash (40 ∷ 100 ∷ []) (leaf_hash (18 ∷ []))) (labeled_hash (90 ∷ 100 ∷ []) (leaf_hash (6 ∷ []))))))) (Pruned (fork_hash (labeled_hash (110 ∷ 100 ∷ []) (leaf_hash (0 ∷ []))) (labeled_hash (120 ∷ 200 ∷ []) (leaf_hash (2 ∷ [])))))))
    × (keys_with_prefix (120 ∷ []) t8 ≡ (Fork (Pruned (fork_hash (labeled_hash (0 ∷ 200 ∷ []) (leaf_hash (4 ∷ []))) (fork_hash (labeled_hash (30 ∷ 100 ∷ []) (leaf_hash (3 ∷ []))) (fork_hash (labeled_hash (40 ∷ 100 ∷ []) (leaf_hash (18 ∷ []))) (labeled_hash (90 ∷ 100 ∷ []) (leaf_hash (6 ∷ []))))))) (Fork (Labeled (110 ∷ 100 ∷ []) (Pruned (leaf_hash (0 ∷ [])))) (Labeled (120 ∷ 200 ∷ []) (Pruned (leaf_hash (2 ∷ [])))))))
    × (key_range (100 ∷ 100 ∷ []) (110 ∷ 100 ∷ []) t8 ≡ (Fork (Fork (Pruned (labeled_hash (0 ∷ 200 ∷ []) (leaf_hash (4 ∷ [])))) (Fork (Pruned (labeled_hash (30 ∷ 100 ∷ []) (leaf_hash (3 ∷ [])))) (Fork (Pruned (labeled_hash (40 ∷ 100 ∷ []) (leaf_hash (18 ∷ [])))) (Labeled (90 ∷ 100 ∷ []) (Pruned (leaf_hash (6 ∷ []))))))) (Fork (Labeled (110 ∷ 100 ∷ []) (Pruned (leaf_hash (0 ∷ [])))) (Pruned (labeled_hash (120 ∷ 200 ∷ []) (leaf_hash (2 ∷ [])))))))
    × (value_range (100 ∷ 100 ∷ []) (110 ∷ 100 ∷ []) t8 ≡ (Fork (Fork (Pruned (labeled_hash (0 ∷ 200 ∷ []) (leaf_hash (4 ∷ [])))) (Fork (Pruned (labeled_hash (30 ∷ 100 ∷ []) (leaf_hash (3 ∷ [])))) (Fork (Pruned (labeled_hash (40 ∷ 100 ∷ []) (leaf_hash (18 ∷ [])))) (Labeled (90 ∷ 100 ∷ []) (Pruned (leaf_hash (6 ∷ []))))))) (Fork (Labeled (110 ∷ 100 ∷ []) (Leaf (0 ∷ []))) (Pruned (labeled_hash (120 ∷ 200 ∷ []) (leaf_hash (2 ∷ [])))))))
    × (witness (100 ∷ 100 ∷ []) t8 ≡ (Fork (Fork (Pruned (labeled_hash (0 ∷ 200 ∷ []) (leaf_hash (4 ∷ [])))) (Fork (Pruned (labeled_hash (30 ∷ 100 ∷ []) (leaf_hash (3 ∷ [])))) (Fork (Pruned (labeled_hash (40 ∷ 100 ∷ []) (leaf_hash (18 ∷ [])))) (Labeled (90 ∷ 100 ∷ []) (Pruned (leaf_hash (6 ∷ []))))))) (Fork (Labeled (110 ∷ 100 ∷ []) (Pruned (leaf_hash (0 ∷ [])))) (Pruned (labeled_hash (120 ∷ 200 ∷ []) (leaf_hash (2 ∷ [])))))))
    × (keys_with_prefix (110 ∷ 100 ∷ []) t8 ≡ (Fork (Pruned (fork_hash (labeled_hash (0 ∷ 200 ∷ []) (leaf_hash (4 ∷ []))) (fork_hash (labeled_hash (30 ∷ 100 ∷ []) (leaf_hash (3 ∷ []))) (fork_hash (labeled_hash (40 ∷ 100 ∷ []) (leaf_hash (18 ∷ []))) (labeled_hash (90 ∷ 100 ∷ []) (leaf_hash (6 ∷ []))))))) (Fork (Labeled (110 ∷ 100 ∷ []) (Pruned (leaf_hash (0 ∷ [])))) (Labeled (120 ∷ 200 ∷ []) (Pruned (leaf_hash (2 ∷ [])))))))
    × (key_range (10 ∷ 100 ∷ []) (80 ∷ 200 ∷ []) t8 ≡ (Fork (Fork (Labeled (0 ∷ 200 ∷ []) (Pruned (leaf_hash (4 ∷ [])))) (Fork (Labeled (30 ∷ 100 ∷ []) (Pruned (leaf_hash (3 ∷ [])))) (Fork (Labeled (40 ∷ 100 ∷ []) (Pruned (leaf_hash (18 ∷ [])))) (Labeled (90 ∷ 100 ∷ []) (Pruned (leaf_hash (6 ∷ []))))))) (Pruned (fork_hash (labeled_hash (110 ∷ 100 ∷ []) (leaf_hash (0 ∷ []))) (labeled_hash (120 ∷ 200 ∷ []) (leaf_hash (2 ∷ [])))))))
    × (value_range (10 ∷ 100 ∷ []) (80 ∷ 200 ∷ []) t8 ≡ (Fork (Fork (Labeled (0 ∷ 200 ∷ []) (Pruned (leaf_hash (4 ∷ [])))) (Fork (Labeled (30 ∷ 100 ∷ []) (Leaf (3 ∷ []))) (Fork (Labeled (40 ∷ 100 ∷ []) (Leaf (18 ∷ []))) (Labeled (90 ∷ 100 ∷ []) (Pruned (leaf_hash (6 ∷ []))))))) (Pruned (fork_hash (labeled_hash (110 ∷ 100 ∷ []) (leaf_hash (0 ∷ []))) (labeled_hash (120 ∷ 200 ∷ []) (leaf_hash (2 ∷ [])))))))
    × (witness (10 ∷ 100 ∷ []) t8 ≡ (Fork (Fork (Labeled (0 ∷ 200 ∷ []) (Pruned (leaf_hash (4 ∷ [])))) (Fork (Labeled (30 ∷ 100 ∷ []) (Pruned (leaf_hash (3 ∷ [])))) (Pruned (fork_hash (labeled_hash (40 ∷ 100 ∷ []) (leaf_hash (18 ∷ []))) (labeled_hash (90 ∷ 100 ∷ []) (leaf_hash (6 ∷ []))))))) (Pruned (fork_hash (labeled_hash (110 ∷ 100 ∷ []) (leaf_hash (0 ∷ []))) (labeled_hash (120 ∷ 200 ∷ []) (leaf_hash (2 ∷ [])))))))
    × (keys_with_prefix (80 ∷ 200 ∷ []) t8 ≡ (Fork (Fork (Pruned (labeled_hash (0 ∷ 200 ∷ []) (leaf_hash (4 ∷ [])))) (Fork (Pruned (labeled_hash (30 ∷ 100 ∷ []) (leaf_hash (3 ∷ [])))) (Fork (Labeled (40 ∷ 100 ∷ []) (Pruned (leaf_hash (18 ∷ [])))) (Labeled (90 ∷ 100 ∷ []) (Pruned (leaf_hash (6 ∷ []))))))) (Pruned (fork_hash (labeled_hash (110 ∷ 100 ∷ []) (leaf_hash (0 ∷ []))) (labeled_hash (120 ∷ 200 ∷ []) (leaf_hash (2 ∷ [])))))))
    × (key_range (20 ∷ []) (50 ∷ []) t8 ≡ (Fork (Fork (Labeled (0 ∷ 200 ∷ []) (Pruned (leaf_hash (4 ∷ [])))) (Fork (Labeled (30 ∷ 100 ∷ []) (Pruned (leaf_hash (3 ∷ [])))) (Fork (Labeled (40 ∷ 100 ∷ []) (Pruned (leaf_hash (18 ∷ [])))) (Labeled (90 ∷ 100 ∷ []) (Pruned (leaf_hash (6 ∷ []))))))) (Pruned (fork_hash (labeled_hash (110 ∷ 100 ∷ []) (leaf_hash (0 ∷ []))) (labeled_hash (120 ∷ 200 ∷ []) (leaf_hash (2 ∷ [])))))))
    × (value_range (20 ∷ []) (50 ∷ []) t8 ≡ (Fork (Fork (Labeled (0 ∷ 200 ∷ []) (Pruned (leaf_hash (4 ∷ [])))) (Fork (Labeled (30 ∷ 100 ∷ []) (Leaf (3 ∷ []))) (Fork (Labeled (40 ∷ 100 ∷ []) (Leaf (18 ∷ []))) (Labeled (90 ∷ 100 ∷ []) (Pruned (leaf_hash (6 ∷ []))))))) (Pruned (fork_hash (labeled_hash (110 ∷ 100 ∷ []) (leaf_hash (0 ∷ []))) (labeled_hash (120 ∷ 200 ∷ []) (leaf_hash (2 ∷ [])))))))
    × (witness (20 ∷ []) t8 ≡ (Fork (Fork (Labeled (0 ∷ 200 ∷ []) (Pruned (leaf_hash (4 ∷ [])))) (Fork (Labeled (30 ∷ 100 ∷ []) (Pruned (leaf_hash (3 ∷ [])))) (Pruned (fork_hash (labeled_hash (40 ∷ 100 ∷ []) (leaf_hash (18 ∷ []))) (labeled_hash (90 ∷ 100 ∷ []) (leaf_hash (6 ∷ []))))))) (Pruned (fork_hash (labeled_hash (110 ∷ 100 ∷ []) (leaf_hash (0 ∷ []))) (labeled_hash (120 ∷ 200 ∷ []) (leaf_hash (2 ∷ [])))))))
    × (keys_with_prefix (50 ∷ []) t8 ≡ (Fork (Fork (Pruned (labeled_hash (0 ∷ 200 ∷ []) (leaf_hash (4 ∷ [])))) (Fork (Pruned (labeled_hash (30 ∷ 100 ∷ []) (leaf_hash (3 ∷ [])))) (Fork (Labeled (40 ∷ 100 ∷ []) (Pruned (leaf_hash (18 ∷ [])))) (Labeled (90 ∷ 100 ∷ []) (Pruned (leaf_hash (6 ∷ []))))))) (Pruned (fork_hash (labeled_hash (110 ∷ 100 ∷ []) (leaf_hash (0 ∷ []))) (labeled_hash (120 ∷ 200 ∷ []) (leaf_hash (2 ∷ [])))))))
    × (root_hash t8 ≡ (fork_hash (fork_hash (labeled_hash (0 ∷ 200 ∷ []) (leaf_hash (4 ∷ []))) (fork_hash (labeled_hash (30 ∷ 100 ∷ []) (leaf_hash (3 ∷ []))) (fork_hash (labeled_hash (40 ∷ 100 ∷ []) (leaf_hash (18 ∷ []))) (labeled_hash (90 ∷ 100 ∷ []) (leaf_hash (6 ∷ [])))))) (fork_hash (labeled_hash (110 ∷ 100 ∷ []) (leaf_hash (0 ∷ []))) (labeled_hash (120 ∷ 200 ∷ []) (leaf_hash (2 ∷ []))))))
unfolding as_hash_tree keys key_range value_range keys_with_prefix witness range_witness lookup_and_build_witness full_witness_tree witness_range_above witness_range_below witness_range_between lower_bound upper_bound right_prefix_neighbor is_prefix_of three_way_fork subtree_digest run insert delete modify get size ready delete_go delete_min insert_go cmp balance ready_left ready_right lean_right
case8 = (refl, refl, refl, refl, refl, refl, refl, refl, refl, refl, refl, refl, refl, refl, refl, refl, refl, refl, refl)

abbrev t9 : Tree
t9 = run (modifying (40 ∷ 100 ∷ []) (23 ∷ []) ∷ put 11 (120 ∷ 100 ∷ []) (22 ∷ []) ∷ put 11 (10 ∷ 200 ∷ []) (21 ∷ []) ∷ deleting (60 ∷ 100 ∷ []) ∷ deleting (110 ∷ 200 ∷ []) ∷ deleting (100 ∷ 100 ∷ []) ∷ put 13 (90 ∷ 200 ∷ []) (17 ∷ []) ∷ deleting (90 ∷ []) ∷ put 12 (10 ∷ 200 ∷ []) (15 ∷ []) ∷ put 11 (120 ∷ []) (14 ∷ []) ∷ deleting (70 ∷ 100 ∷ []) ∷ deleting (40 ∷ 100 ∷ []) ∷ put 10 (70 ∷ 200 ∷ []) (11 ∷ []) ∷ deleting (0 ∷ 100 ∷ []) ∷ put 9 (90 ∷ 200 ∷ []) (9 ∷ []) ∷ put 8 (30 ∷ []) (8 ∷ []) ∷ put 7 (100 ∷ 100 ∷ []) (7 ∷ []) ∷ put 6 (50 ∷ []) (6 ∷ []) ∷ put 5 (20 ∷ []) (5 ∷ []) ∷ modifying (90 ∷ 100 ∷ []) (4 ∷ []) ∷ put 4 (60 ∷ 200 ∷ []) (3 ∷ []) ∷ put 3 (120 ∷ 100 ∷ []) (2 ∷ []) ∷ put 2 (10 ∷ 100 ∷ []) (1 ∷ []) ∷ put 1 (20 ∷ 100 ∷ []) (0 ∷ []) ∷ [])

case9 : (as_hash_tree t9 ≡ (Fork (Fork (Labeled (10 ∷ 100 ∷ []) (Leaf (1 ∷ []))) (Fork (Labeled (10 ∷ 200 ∷ []) (Leaf (21 ∷ []))) (Labeled (20 ∷ []) (Leaf (5 ∷ []))))) (Fork (Labeled (20 ∷ 100 ∷ []) (Leaf (0 ∷ []))) (Fork (Fork (Fork (Labeled (30 ∷ []) (Leaf (8 ∷ []))) (Labeled (50 ∷ []) (Leaf (6 ∷ [])))) (Fork (Labeled (60 ∷ 200 ∷ []) (Leaf (3 ∷ []))) (Fork (Labeled (70 ∷ 200 ∷ []) (Leaf (11 ∷ []))) (Labeled (90 ∷ 200 ∷ []) (Leaf (17 ∷ [])))))) (Fork (Labeled (120 ∷ []) (Leaf (14 ∷ []))) (Labeled (120 ∷ 100 ∷ []) (Leaf (22 ∷ []))))))))
    × (keys t9 ≡ (Fork (Fork (Labeled (10 ∷ 100 ∷ []) (Pruned (leaf_hash (1 ∷ [])))) (Fork (Labeled (10 ∷ 200 ∷ []) (Pruned (leaf_hash (21 ∷ [])))) (Labeled (20 ∷ []) (Pruned (leaf_hash (5 ∷ [])))))) (Fork (Labeled (20 ∷ 100 ∷ []) (Pruned (leaf_hash (0 ∷ [])))) (Fork (Fork (Fork (Labeled (30 ∷ []) (Pruned (leaf_hash (8 ∷ [])))) (Labeled (50 ∷ []) (Pruned (leaf_hash (6 ∷ []))))) (Fork (Labeled (60 ∷ 200 ∷ []) (Pruned (leaf_hash (3 ∷ [])))) (Fork (Labeled (70 ∷ 200 ∷ []) (Pruned (leaf_hash (11 ∷ [])))) (Labeled (90 ∷ 200 ∷ []) (Pruned (leaf_hash (17 ∷ []))))))) (Fork (Labeled (120 ∷ []) (Pruned (leaf_hash (14 ∷ [])))) (Labeled (120 ∷ 100 ∷ []) (Pruned (leaf_hash (22 ∷ [])))))))))
    × (key_range (0 ∷ 100 ∷ []) (100 ∷ []) t9 ≡ (Fork (Fork (Labeled (10 ∷ 100 ∷ []) (Pruned (leaf_hash (1 ∷ [])))) (Fork (Labeled (10 ∷ 200 ∷ []) (Pruned (leaf_hash (21 ∷ [])))) (Labeled (20 ∷ []) (Pruned (leaf_hash (5 ∷ [])))))) (Fork (Labeled (20 ∷ 100 ∷ []) (Pruned (leaf_hash (0 ∷ [])))) (Fork (Fork (Fork (Labeled (30 ∷ []) (Pruned (leaf_hash (8 ∷ [])))) (Labeled (50 ∷ []) (Pruned (leaf_hash (6 ∷ []))))) (Fork (Labeled (60 ∷ 200 ∷ []) (Pruned (leaf_hash (3 ∷ [])))) (Fork (Labeled (70 ∷ 200 ∷ []) (Pruned (leaf_hash (11 ∷ [])))) (Labeled (90 ∷ 200 ∷ []) (Pruned (leaf_hash (17 ∷ []))))))) (Fork (Labeled (120 ∷ []) (Pruned (leaf_hash (14 ∷ [])))) (Pruned (labeled_hash (120 ∷ 100 ∷ []) (leaf_hash (22 ∷ [])))))))))
    × (value_range (0 ∷ 100 ∷ []) (100 ∷ []) t9 ≡ (Fork (Fork (Labeled (10 ∷ 100 ∷ []) (Leaf (1 ∷ []))) (Fork (Labeled (10 ∷ 200 ∷ []) (Leaf (21 ∷ []))) (Labeled (20 ∷ []) (Leaf (5 ∷ []))))) (Fork (Labeled (20 ∷ 100 ∷ []) (Leaf (0 ∷ []))) (Fork (Fork (Fork (Labeled (30 ∷ []) (Leaf (8 ∷ []))) (Labeled (50 ∷ []) (Leaf (6 ∷ [])))) (Fork (Labeled (60 ∷ 200 ∷ []) (Leaf (3 ∷ []))) (Fork (Labeled (70 ∷ 200 ∷ []) (Leaf (11 ∷ []))) (Labeled (90 ∷ 200 ∷ []) (Leaf (17 ∷ [])))))) (Fork (Labeled (120 ∷ []) (Pruned (leaf_hash (14 ∷ [])))) (Pruned (labeled_hash (120 ∷ 100 ∷ []) (leaf_hash (22 ∷ [])))))))))
    × (witness (0 ∷ 100 ∷ []) t9 ≡ (Fork (Fork (Labeled (10 ∷ 100 ∷ []) (Pruned (leaf_hash (1 ∷ [])))) (Pruned (fork_hash (labeled_hash (10 ∷ 200 ∷ []) (leaf_hash (21 ∷ []))) (labeled_hash (20 ∷ []) (leaf_hash (5 ∷ [])))))) (Pruned (fork_hash (labeled_hash (20 ∷ 100 ∷ []) (leaf_hash (0 ∷ []))) (fork_hash (fork_hash (fork_hash (labeled_hash (30 ∷ []) (leaf_hash (8 ∷ []))) (labeled_hash (50 ∷ []) (leaf_hash (6 ∷ [])))) (fork_hash (labeled_hash (60 ∷ 200 ∷ []) (leaf_hash (3 ∷ []))) (fork_hash (labeled_hash (70 ∷ 200 ∷ []) (leaf_hash (11 ∷ []))) (labeled_hash (90 ∷ 200 ∷ []) (leaf_hash (17 ∷ [])))))) (fork_hash (labeled_hash (120 ∷ []) (leaf_hash (14 ∷ []))) (labeled_hash (120 ∷ 100 ∷ []) (leaf_hash (22 ∷ [])))))))))
    × (keys_with_prefix (100 ∷ []) t9 ≡ (Fork (Pruned (fork_hash (labeled_hash (10 ∷ 100 ∷ []) (leaf_hash (1 ∷ []))) (fork_hash (labeled_hash (10 ∷ 200 ∷ []) (leaf_hash (21 ∷ []))) (labeled_hash (20 ∷ []) (leaf_hash (5 ∷ [])))))) (Fork (Pruned (labeled_hash (20 ∷ 100 ∷ []) (leaf_hash (0 ∷ [])))) (Fork (Fork (Pruned (fork_hash (labeled_hash (30 ∷ []) (leaf_hash (8 ∷ []))) (labeled_hash (50 ∷ []) (leaf_hash (6 ∷ []))))) (Fork (Pruned (labeled_hash (60 ∷ 200 ∷ []) (leaf_hash (3 ∷ [])))) (Fork (Pruned (labeled_hash (70 ∷ 200 ∷ []) (leaf_hash (11 ∷ [])))) (Labeled (90 ∷ 200 ∷ []) (Pruned (leaf_hash (17 ∷ []))))))) (Fork (Labeled (120 ∷ []) (Pruned (leaf_hash (14 ∷ [])))) (Pruned (labeled_hash (120 ∷ 100 ∷ []) (leaf_hash (22 ∷ [])))))))))
    × (key_range (30 ∷ 100 ∷ []) (50 ∷ []) t9 ≡ (Fork (Pruned (fork_hash (labeled_hash (10 ∷ 100 ∷ []) (leaf_hash (1 ∷ []))) (fork_hash (labeled_hash (10 ∷ 200 ∷ []) (leaf_hash (21 ∷ []))) (labeled_hash (20 ∷ []) (leaf_hash (5 ∷ [])))))) (Fork (Pruned (labeled_hash (20 ∷ 100 ∷ []) (leaf_hash (0 ∷ [])))) (Fork (Fork (Fork (Labeled (30 ∷ []) (Pruned (leaf_hash (8 ∷ [])))) (Labeled (50 ∷ []) (Pruned (leaf_hash (6 ∷ []))))) (Pruned (fork_hash (labeled_hash (60 ∷ 200 ∷ []) (leaf_hash (3 ∷ []))) (fork_hash (labeled_hash (70 ∷ 200 ∷ []) (leaf_hash (11 ∷ []))) (labeled_hash (90 ∷ 200 ∷ []) (leaf_hash (17 ∷ []))))))) (Pruned (fork_hash (labeled_hash (120 ∷ []) (leaf_hash (14 ∷ []))) (labeled_hash (120 ∷ 100 ∷ []) (leaf_hash (22 ∷ [])))))))))
    × (value_range (30 ∷ 100 ∷ []) (50 ∷ []) t9 ≡ (Fork (Pruned (fork_hash (labeled_hash (10 ∷ 100 ∷ []) (leaf_hash (1 ∷ []))) (fork_hash (labeled_hash (10 ∷ 200 ∷ []) (leaf_hash (21 ∷ []))) (labeled_hash (20 ∷ []) (leaf_hash (5 ∷ [])))))) (Fork (Pruned (labeled_hash (20 ∷ 100 ∷ []) (leaf_hash (0 ∷ [])))) (Fork (Fork (Fork (Labeled (30 ∷ []) (Pruned (leaf_hash (8 ∷ [])))) (Labeled (50 ∷ []) (Leaf (6 ∷ [])))) (Pruned (fork_hash (labeled_hash (60 ∷ 200 ∷ []) (leaf_hash (3 ∷ []))) (fork_hash (labeled_hash (70 ∷ 200 ∷ []) (leaf_hash (11 ∷ []))) (labeled_hash (90 ∷ 200 ∷ []) (leaf_hash (17 ∷ []))))))) (Pruned (fork_hash (labeled_hash (120 ∷ []) (leaf_hash (14 ∷ []))) (labeled_hash (120 ∷ 100 ∷ []) (leaf_hash (22 ∷ [])))))))))
    × (witness (30 ∷ 100 ∷ []) t9 ≡ (Fork (Pruned (fork_hash (labeled_hash (10 ∷ 100 ∷ []) (leaf_hash (1 ∷ []))) (fork_hash (labeled_hash (10 ∷ 200 ∷ []) (leaf_hash (21 ∷ []))) (labeled_hash (20 ∷ []) (leaf_hash (5 ∷ [])))))) (Fork (Pruned (labeled_hash (20 ∷ 100 ∷ []) (leaf_hash (0 ∷ [])))) (Fork (Fork (Fork (Labeled (30 ∷ []) (Pruned (leaf_hash (8 ∷ [])))) (Labeled (50 ∷ []) (Pruned (leaf_hash (6 ∷ []))))) (Pruned (fork_hash (labeled_hash (60 ∷ 200 ∷ []) (leaf_hash (3 ∷ []))) (fork_hash (labeled_hash (70 ∷ 200 ∷ []) (leaf_hash (11 ∷ []))) (labeled_hash (90 ∷ 200 ∷ []) (leaf_hash (17 ∷ []))))))) (Pruned (fork_hash (labeled_hash (120 ∷ []) (leaf_hash (14 ∷ []))) (labeled_hash (120 ∷ 100 ∷ []) (leaf_hash (22 ∷ [])))))))))
    × (keys_with_prefix (50 ∷ []) t9 ≡ (Fork (Pruned (fork_hash (labeled_hash (10 ∷ 100 ∷ []) (leaf_hash (1 ∷ []))) (fork_hash (labeled_hash (10 ∷ 200 ∷ []) (leaf_hash (21 ∷ []))) (labeled_hash (20 ∷ []) (leaf_hash (5 ∷ [])))))) (Fork (Pruned (labeled_hash (20 ∷ 100 ∷ []) (leaf_hash (0 ∷ [])))) (Fork (Fork (Fork (Pruned (labeled_hash (30 ∷ []) (leaf_hash (8 ∷ [])))) (Labeled (50 ∷ []) (Pruned (leaf_hash (6 ∷ []))))) (Fork (Labeled (60 ∷ 200 ∷ []) (Pruned (leaf_hash (3 ∷ [])))) (Pruned (fork_hash (labeled_hash (70 ∷ 200 ∷ []) (leaf_hash (11 ∷ []))) (labeled_hash (90 ∷ 200 ∷ []) (leaf_hash (17 ∷ []))))))) (Pruned (fork_hash (labeled_hash (120 ∷ []) (leaf_hash (14 ∷ []))) (labeled_hash (120 ∷ 100 ∷ []) (leaf_hash (22 ∷ [])))))))))
    × (key_range (20 ∷ 200 ∷ []) (20 ∷ 200 ∷ []) t9 ≡ (Fork (Pruned (fork_hash (labeled_hash (10 ∷ 100 ∷ []) (leaf_hash (1 ∷ []))) (fork_hash (labeled_hash (10 ∷ 200 ∷ []) (leaf_hash (21 ∷ []))) (labeled_hash (20 ∷ []) (leaf_hash (5 ∷ [])))))) (Fork (Labeled (20 ∷ 100 ∷ []) (Pruned (leaf_hash (0 ∷ [])))) (Fork (Fork (Fork (Labeled (30 ∷ []) (Pruned (leaf_hash (8 ∷ [])))) (Pruned (labeled_hash (50 ∷ []) (leaf_hash (6 ∷ []))))) (Pruned (fork_hash (labeled_hash (60 ∷ 200 ∷ []) (leaf_hash (3 ∷ []))) (fork_hash (labeled_hash (70 ∷ 200 ∷ []) (leaf_hash (11 ∷ []))) (labeled_hash (90 ∷ 200 ∷ []) (leaf_hash (17 ∷ []))))))) (Pruned (fork_hash (labeled_hash (120 ∷ []) (leaf_hash (14 ∷ []))) (labeled_hash (120 ∷ 100 ∷ []) (leaf_hash (22 ∷ [])))))))))
    × (value_range (20 ∷ 200 ∷ []) (20 ∷ 200 ∷ []) t9 ≡ (Fork (Pruned (fork_hash (labeled_hash (10 ∷ 100 ∷ []) (leaf_hash (1 ∷ []))) (fork_hash (labeled_hash (10 ∷ 200 ∷ []) (leaf_hash (21 ∷ []))) (labeled_hash (20 ∷ []) (leaf_hash (5 ∷ [])))))) (Fork (Labeled (20 ∷ 100 ∷ []) (Pruned (leaf_hash (0 ∷ [])))) (Fork (Fork (Fork (Labeled (30 ∷ []) (Pruned (leaf_hash (8 ∷ [])))) (Pruned (labeled_hash (50 ∷ []) (leaf_hash (6 ∷ []))))) (Pruned (fork_hash (labeled_hash (60 ∷ 200 ∷ []) (leaf_hash (3 ∷ []))) (fork_hash (labeled_hash (70 ∷ 200 ∷ []) (leaf_hash (11 ∷ []))) (labeled_hash (90 ∷ 200 ∷ []) (leaf_hash (17 ∷ []))))))) (Pruned (fork_hash (labeled_hash (120 ∷ []) (leaf_hash (14 ∷ []))) (labeled_hash (120 ∷ 100 ∷ []) (leaf_hash (22 ∷ [])))))))))
    × (witness (20 ∷ 200 ∷ []) t9 ≡ (Fork (Pruned (fork_hash (labeled_hash (10 ∷ 100 ∷ []) (leaf_hash (1 ∷ []))) (fork_hash (labeled_hash (10 ∷ 200 ∷ []) (leaf_hash (21 ∷ []))) (labeled_hash (20 ∷ []) (leaf_hash (5 ∷ [])))))) (Fork (Labeled (20 ∷ 100 ∷ []) (Pruned (leaf_hash (0 ∷ [])))) (Fork (Fork (Fork (Labeled (30 ∷ []) (Pruned (leaf_hash (8 ∷ [])))) (Pruned (labeled_hash (50 ∷ []) (leaf_hash (6 ∷ []))))) (Pruned (fork_hash (labeled_hash (60 ∷ 200 ∷ []) (leaf_hash (3 ∷ []))) (fork_hash (labeled_hash (70 ∷ 200 ∷ []) (leaf_hash (11 ∷ []))) (labeled_hash (90 ∷ 200 ∷ []) (leaf_hash (17 ∷ []))))))) (Pruned (fork_hash (labeled_hash (120 ∷ []) (leaf_hash (14 ∷ []))) (labeled_hash (120 ∷ 100 ∷ []) (leaf_hash (22 ∷ [])))))))))
    × (keys_with_prefix (20 ∷ 200 ∷ []) t9 ≡ (Fork (Pruned (fork_hash (labeled_hash (10 ∷ 100 ∷ []) (leaf_hash (1 ∷ []))) (fork_hash (labeled_hash (10 ∷ 200 ∷ []) (leaf_hash (21 ∷ []))) (labeled_hash (20 ∷ []) (leaf_hash (5 ∷ [])))))) (Fork (Labeled (20 ∷ 100 ∷ []) (Pruned (leaf_hash (0 ∷ [])))) (Fork (Fork (Fork (Labeled (30 ∷ []) (Pruned (leaf_hash (8 ∷ [])))) (Pruned (labeled_hash (50 ∷ []) (leaf_hash (6 ∷ []))))) (Pruned (fork_hash (labeled_hash (60 ∷ 200 ∷ []) (leaf_hash (3 ∷ []))) (fork_hash (labeled_hash (70 ∷ 200 ∷ []) (leaf_hash (11 ∷ []))) (labeled_hash (90 ∷ 200 ∷ []) (leaf_hash (17 ∷ []))))))) (Pruned (fork_hash (labeled_hash (120 ∷ []) (leaf_hash (14 ∷ []))) (labeled_hash (120 ∷ 100 ∷ []) (leaf_hash (22 ∷ [])))))))))
    × (key_range (30 ∷ []) (120 ∷ []) t9 ≡ (Fork (Pruned (fork_hash (labeled_hash (10 ∷ 100 ∷ []) (leaf_hash (1 ∷ []))) (fork_hash (labeled_hash (10 ∷ 200 ∷ []) (leaf_hash (21 ∷ []))) (labeled_hash (20 ∷ []) (leaf_hash (5 ∷ [])))))) (Fork (Pruned (labeled_hash (20 ∷ 100 ∷ []) (leaf_hash (0 ∷ [])))) (Fork (Fork (Fork (Labeled (30 ∷ []) (Pruned (leaf_hash (8 ∷ [])))) (Labeled (50 ∷ []) (Pruned (leaf_hash (6 ∷ []))))) (Fork (Labeled (60 ∷ 200 ∷ []) (Pruned (leaf_hash (3 ∷ [])))) (Fork (Labeled (70 ∷ 200 ∷ []) (Pruned (leaf_hash (11 ∷ [])))) (Labeled (90 ∷ 200 ∷ []) (Pruned (leaf_hash (17 ∷ []))))))) (Fork (Labeled (120 ∷ []) (Pruned (leaf_hash (14 ∷ [])))) (Pruned (labeled_hash (120 ∷ 100 ∷ []) (leaf_hash (22 ∷ [])))))))))
    × (value_range (30 ∷ []) (120 ∷ []) t9 ≡ (Fork (Pruned (fork_hash (labeled_hash (10 ∷ 100 ∷ []) (leaf_hash (1 ∷ []))) (fork_hash (labeled_hash (10 ∷ 200 ∷ []) (leaf_hash (21 ∷ []))) (labeled_hash (20 ∷ []) (leaf_hash (5 ∷ [])))))) (Fork (Pruned (labeled_hash (20 ∷ 100 ∷ []) (leaf_hash (0 ∷ [])))) (Fork (Fork (Fork (Labeled (30 ∷ []) (Leaf (8 ∷ []))) (Labeled (50 ∷ []) (Leaf (6 ∷ [])))) (Fork (Labeled (60 ∷ 200 ∷ []) (Leaf (3 ∷ []))) (Fork (Labeled (70 ∷ 200 ∷ []) (Leaf (11 ∷ []))) (Labeled (90 ∷ 200 ∷ []) (Leaf (17 ∷ [])))))) (Fork (Labeled (120 ∷ []) (Leaf (14 ∷ []))) (Pruned (labeled_hash (120 ∷ 100 ∷ []) (leaf_hash (22 ∷ [])))))))))
    × (witness (30 ∷ []) t9 ≡ (Fork (Pruned (fork_hash (labeled_hash (10 ∷ 100 ∷ []) (leaf_hash (1 ∷ []))) (fork_hash (labeled_hash (10 ∷ 200 ∷ []) (leaf_hash (21 ∷ []))) (labeled_hash (20 ∷ []) (leaf_hash (5 ∷ [])))))) (Fork (Pruned (labeled_hash (20 ∷ 100 ∷ []) (leaf_hash (0 ∷ [])))) (Fork (Fork (Fork (Labeled (30 ∷ []) (Leaf (8 ∷ []))) (Pruned (labeled_hash (50 ∷ []) (leaf_hash (6 ∷ []))))) (Pruned (fork_hash (labeled_hash (60 ∷ 200 ∷ []) (leaf_hash (3 ∷ []))) (fork_hash (labeled_hash (70 ∷ 200 ∷ []) (leaf_hash (11 ∷ []))) (labeled_hash (90 ∷ 200 ∷ []) (leaf_hash (17 ∷ []))))))) (Pruned (fork_hash (labeled_hash (120 ∷ []) (leaf_hash (14 ∷ []))) (labeled_hash (120 ∷ 100 ∷ []) (leaf_hash (22 ∷ [])))))))))
    × (keys_with_prefix (120 ∷ []) t9 ≡ (Fork (Pruned (fork_hash (labeled_hash (10 ∷ 100 ∷ []) (leaf_hash (1 ∷ []))) (fork_hash (labeled_hash (10 ∷ 200 ∷ []) (leaf_hash (21 ∷ []))) (labeled_hash (20 ∷ []) (leaf_hash (5 ∷ [])))))) (Fork (Pruned (labeled_hash (20 ∷ 100 ∷ []) (leaf_hash (0 ∷ [])))) (Fork (Pruned (fork_hash (fork_hash (labeled_hash (30 ∷ []) (leaf_hash (8 ∷ []))) (labeled_hash (50 ∷ []) (leaf_hash (6 ∷ [])))) (fork_hash (labeled_hash (60 ∷ 200 ∷ []) (leaf_hash (3 ∷ []))) (fork_hash (labeled_hash (70 ∷ 200 ∷ []) (leaf_hash (11 ∷ []))) (labeled_hash (90 ∷ 200 ∷ []) (leaf_hash (17 ∷ []))))))) (Fork (Labeled (120 ∷ []) (Pruned (leaf_hash (14 ∷ [])))) (Labeled (120 ∷ 100 ∷ []) (Pruned (leaf_hash (22 ∷ [])))))))))
    × (root_hash t9 ≡ (fork_hash (fork_hash (labeled_hash (10 ∷ 100 ∷ []) (leaf_hash (1 ∷ []))) (fork_hash (labeled_hash (10 ∷ 200 ∷ []) (leaf_hash (21 ∷ []))) (labeled_hash (20 ∷ []) (leaf_hash (5 ∷ []))))) (fork_hash (labeled_hash (20 ∷ 100 ∷ []) (leaf_hash (0 ∷ []))) (fork_hash (fork_hash (fork_hash (labeled_hash (30 ∷ []) (leaf_hash (8 ∷ []))) (labeled_hash (50 ∷ []) (leaf_hash (6 ∷ [])))) (fork_hash (labeled_hash (60 ∷ 200 ∷ []) (leaf_hash (3 ∷ []))) (fork_hash (labeled_hash (70 ∷ 200 ∷ []) (leaf_hash (11 ∷ []))) (labeled_hash (90 ∷ 200 ∷ []) (leaf_hash (17 ∷ [])))))) (fork_hash (labeled_hash (120 ∷ []) (leaf_hash (14 ∷ []))) (labeled_hash (120 ∷ 100 ∷ []) (leaf_hash (22 ∷ []))))))))
unfolding as_hash_tree keys key_range value_range keys_with_prefix witness range_witness lookup_and_build_witness full_witness_tree witness_range_above witness_range_below witness_range_between lower_bound upper_bound right_prefix_neighbor is_prefix_of three_way_fork subtree_digest run insert delete modify get size ready delete_go delete_min insert_go cmp balance ready_left ready_right lean_right
case9 = (refl, refl, refl, refl, refl, refl, refl, refl, refl, refl, refl, refl, refl, refl, refl, refl, refl, refl, refl)
