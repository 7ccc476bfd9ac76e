-- The longest witness. Of n entries with n at least 1 what is shown has at most 118 n - 2 bytes: 116 for an entry, 2 for a Fork.
use mathlib.Core.Path.{◌≡◌, refl, sym, ◌∙◌}
use mathlib.Core.Bool.{Bool, true, false, true≢false}
use mathlib.Core.List.{List, ◌∷◌, ◌++◌}
use Prim.Native.Nat.{ℕ, suc, ◌+◌, ◌*◌, ◌≤◌}
use native.Mathlib.Omega.{arith}
use lib.ListN.{length, length-append}
use borrow.Author.Tests.{le-ltb}
use Rattle.key_order.specs.Order.{Key, cmp}
use Rattle.std.specs.declared.cmp.Ordering.TheVariants.{Less}
use Rattle.key_order.proofs.Laws.{lt-gt}
use Rattle.hash_tree.specs.HashTree.{HashTree, digest, fork_hash, leaf_hash}
use Rattle.hash_tree.specs.Written.{write, size}
use Rattle.hash_tree.proofs.ParseLaws.{length-write}
use Rattle.hash_tree.proofs.DigestLaws.{fork_hash-length, labeled_hash-length, leaf_hash-length}
use Rattle.llrb.specs.Tree as tree
use Rattle.llrb.specs.Tree.{Entry, Tree, nil, node, entries}
use Rattle.llrb.specs.Digests.{is_nil}
use Rattle.llrb.specs.Sorted.{Sorted}
use Rattle.witness_trees.specs.Shown.{What, Hide, Label, Show, item, three_way_fork, shown}
use Rattle.witness_trees.specs.Witness.{lower_bound, upper_bound, last_arm, keys_only, values, as_hash_tree, keys, key_range, value_range, keys_with_prefix, witness}
use Rattle.witness_trees.specs.Rules.{keys_of, range_rule, prefix_rule, InOrder, crossed}
use Rattle.witness_trees.proofs.Shown.{join-cases, node-cases, shown-nil, empty-shown}
use Rattle.witness_trees.proofs.Calls.{as-hash-tree-is, keys-is, witness-is, keys-with-prefix-is, range-by, join-same}
use Rattle.witness_trees.proofs.Reversed.{not-crossed, crossed-above}
use Rattle.store.specs.Numbers.{Outcome, done}
use Rattle.store.specs.Model.{Model}
use Rattle.store.specs.Sound.{Short, Lawful, Represents}
use Rattle.store.specs.Calls.{reversed, crossed_range, of_key, of_range, witnessed, as_hash_tree_answer, keys_answer, witness_answer, keys_with_prefix_answer, key_range_answer, value_range_answer}
use Rattle.store.specs.Longest.{longest_witness, RoomForAny}
use Rattle.store.proofs.Decoding.{live-and-free, decoded}
use Rattle.store.proofs.Encoding.{subtree-digest-length, short-left, short-right}
use Rattle.store.proofs.Witnessing.{has_room}

-- ---- the bytes of what is shown

item-size : (w : What) (e : Entry) → length e.key ≤ 48 → length e.value ≤ 64 → size (item w e) ≤ 116
item-size Hide e p q = omega (arith, labeled_hash-length e.key (leaf_hash e.value))
item-size Label e p q = omega (arith, leaf_hash-length e.value)
item-size Show e p q = omega arith

shown-size : (f : Entry → What) (t : Tree) → Short (entries t) → is_nil t ≡ false → size (shown f t) + 2 ≤ 118 * length (entries t)
shown-size f nil a h = absurd (true≢false h)
shown-size f (node c e l r) a h =
    let b = short-right (entries l) (e ∷ entries r) a in
    let n : length (entries l ++ (e ∷ entries r)) ≡ length (entries l) + suc (length (entries r)) = length-append (entries l) (e ∷ entries r) in
    let k = item-size (f e) e b.0 b.1 in
    let p : is_nil l ≡ false → size (shown f l) + 2 ≤ 118 * length (entries l) = shown-size f l (short-left (entries l) (e ∷ entries r) a) in
    let q : is_nil r ≡ false → size (shown f r) + 2 ≤ 118 * length (entries r) = shown-size f r b.2 in
    node-cases (λ u. size u + 2 ≤ 118 * length (entries l ++ (e ∷ entries r))) f c e l r
    (λ x. omega (arith, n, subtree-digest-length (node c e l r)))
    (λ x. join-cases (λ u. size u + 2 ≤ 118 * length (entries l ++ (e ∷ entries r))) (shown f l) (item (f e) e) (shown f r)
    (λ y z. omega (arith, n, k))
    (λ y z. omega (arith, n, k, p (sym (empty-shown f l) ∙ y)))
    (λ y z. omega (arith, n, k, q (sym (empty-shown f r) ∙ z)))
    (λ y z u. omega (arith, n, fork_hash-length (digest (shown f l)) (fork_hash (digest (item (f e) e)) (digest (shown f r)))))
    (λ y z u. omega (arith, n, p (sym (empty-shown f l) ∙ y), fork_hash-length (digest (item (f e) e)) (digest (shown f r))))
    (λ y z u. omega (arith, n, k, p (sym (empty-shown f l) ∙ y), q (sym (empty-shown f r) ∙ z))))

module _ {m : Model} (g : Lawful m) where
  -- no witness of a lawful model is longer
  pub longest : (f : Entry → What) → length (write (shown f m.tree)) ≤ longest_witness
  unfolding tree.size
  longest f = rw (length-write (shown f m.tree)) (at m.tree g.short (omega (arith, live-and-free g, g.most)))
    where
      at : (t : Tree) → Short (entries t) → length (entries t) ≤ 1024 → size (shown f t) ≤ 120830
      at nil a p = rw (shown-nil f) (omega arith)
      at (node c e l r) a p = omega (arith, shown-size f (node c e l r) a refl)

-- ---- of the calls

-- bounds that the call accepts are in order
in_order : (first last : Key) (t : Tree) → Sorted (entries t) → crossed_range first last t ≡ false → InOrder (lower_bound first t) (upper_bound last t)
in_order first last t s h = at (crossed (lower_bound first t) (upper_bound last t)) refl
  where
    above : cmp last first ≡ Less → reversed first last ≡ true
    above l = rw (lt-gt last first l)

    at : (b : Bool) → crossed (lower_bound first t) (upper_bound last t) ≡ b → InOrder (lower_bound first t) (upper_bound last t)
    at false e = not-crossed (lower_bound first t) (upper_bound last t) e
    at true e = absurd (true≢false (sym (rw (above (crossed-above first last t s e), e)) ∙ h))

module _ {s : List ℕ} {m : Model} (a : Represents s m) (out : List ℕ) (r : longest_witness ≤ length out) where
  fine : (make : Model → Outcome HashTree) (u : HashTree) (f : Entry → What) → u ≡ shown f m.tree → make m ≡ done u → (witnessed make s out).number ≡ 0
  fine make u f e h =
      let p : length (write u) ≤ longest_witness = rw e (longest a.lawful f) in
      rw (has_room make u out a h (omega (arith, p, r)))

  pub room-for-any : RoomForAny s out
  unfolding as_hash_tree_answer keys_answer witness_answer keys_with_prefix_answer key_range_answer value_range_answer of_key of_range key_range value_range
  room-for-any =
      let t = m.tree in
      let g = a.lawful.ordered in
      let ks = keys_of (entries t) in
      record {
        as_hash_tree = fine (λ m. done (as_hash_tree m.tree)) (as_hash_tree t) (λ e. Show) (as-hash-tree-is t) refl;
        keys = fine (λ m. done (keys m.tree)) (keys t) (λ e. Label) (keys-is t) refl;
        witness = λ key p. fine (of_key witness key) (witness key t) (range_rule key key ks values) (witness-is key t g) (rw (le-ltb 48 (length key) p));
        keys_with_prefix = λ prefix p. fine (of_key keys_with_prefix prefix) (keys_with_prefix prefix t) (prefix_rule prefix ks) (keys-with-prefix-is prefix t g) (rw (le-ltb 48 (length prefix) p));
        key_range = λ first last p q h.
            let x = rw (decoded a) at h in
            fine (of_range key_range first last) (key_range first last t) _ (range-by three_way_fork last_arm join-same first last keys_only t g (in_order first last t g x)) (rw (le-ltb 48 (length first) p, le-ltb 48 (length last) q, x));
        value_range = λ first last p q h.
            let x = rw (decoded a) at h in
            fine (of_range value_range first last) (value_range first last t) _ (range-by three_way_fork last_arm join-same first last values t g (in_order first last t g x)) (rw (le-ltb 48 (length first) p, le-ltb 48 (length last) q, x));
      }
