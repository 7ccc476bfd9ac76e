-- The digest and the count of a subtree by its slot: the four cases, that they are right where those stored of the children are, and that a digest is 32 bytes.
use mathlib.Core.Path.{◌≡◌, refl, sym, ap, ◌∙◌}
use mathlib.Core.Bool.{Bool, true, false}
use mathlib.Core.List.{List}
use Prim.Native.Nat.{ℕ, zero, suc, ◌+◌}
use native.Mathlib.Omega.{arith}
use lib.Dec.{eqb}
use lib.ListN.{length}
use borrow.Author.Tests.{eq-eqb, ne_eqb}
use Rattle.sha256.proofs.Length.{sha256-bytes}
use Rattle.hash_tree.specs.HashTree.{Digest, fork_hash, labeled_hash, leaf_hash}
use Rattle.hash_tree.proofs.DigestLaws.{fork_hash-length, labeled_hash-length}
use Rattle.slots.specs.Bits.{Bytes}
use Rattle.slots.specs.Layout.{count_in, slot, key_of, value_of, count_of, digest_of}
use Rattle.llrb.specs.Tree.{Entry, Tree, nil, node, size}
use Rattle.llrb.specs.Digests.{data_digest, is_nil, node_digest, subtree_digest}
use Rattle.llrb.proofs.Height.{size-node}
use Rattle.entries.specs.Digests.{value_digest, data_digest_in, compute_subtree_hash, count_below, linked_count}

-- ---- the four cases, in the order of the code

module _ (l r : ℕ) (dl d dr : Digest) where
  pub fork-none : l ≡ 0 → r ≡ 0 → d ≡ node_digest (eqb l 0) (eqb r 0) dl d dr
  fork-none a b = rw (eq-eqb l 0 a, eq-eqb r 0 b)

  pub fork-right : l ≡ 0 → (r ≡ 0 → ⊥) → {x : Digest} → x ≡ fork_hash d dr → x ≡ node_digest (eqb l 0) (eqb r 0) dl d dr
  fork-right a b e = rw (eq-eqb l 0 a, ne_eqb r 0 b) e

  pub fork-left : (l ≡ 0 → ⊥) → r ≡ 0 → {x : Digest} → x ≡ fork_hash dl d → x ≡ node_digest (eqb l 0) (eqb r 0) dl d dr
  fork-left a b e = rw (ne_eqb l 0 a, eq-eqb r 0 b) e

  pub fork-both : (l ≡ 0 → ⊥) → (r ≡ 0 → ⊥) → {x f : Digest} → f ≡ fork_hash d dr → x ≡ fork_hash dl f → x ≡ node_digest (eqb l 0) (eqb r 0) dl d dr
  fork-both a b ef e = rw (ne_eqb l 0 a, ne_eqb r 0 b) (e ∙ ap (fork_hash dl) ef)

-- ---- it is the digest of the subtree

pub digest-node : (c : Bool) (e : Entry) (l r : Tree) → subtree_digest (node c e l r) ≡ node_digest (is_nil l) (is_nil r) (subtree_digest l) (data_digest e) (subtree_digest r)
unfolding subtree_digest
digest-node c e l r = refl

-- the stored digests of the children count only where there are children
same-digests : (l r : Tree) (x d y : Digest) → (is_nil l ≡ false → x ≡ subtree_digest l) → (is_nil r ≡ false → y ≡ subtree_digest r)
    → node_digest (is_nil l) (is_nil r) x d y ≡ node_digest (is_nil l) (is_nil r) (subtree_digest l) d (subtree_digest r)
same-digests nil nil x d y p q = refl
same-digests (node c e l r) nil x d y p q = ap (λ (z : Digest). fork_hash z d) (p refl)
same-digests nil (node c e l r) x d y p q = ap (fork_hash d) (q refl)
same-digests (node c e l r) (node b g m n) x d y p q = λ i. fork_hash (p refl i) (fork_hash d (q refl i))

-- slot h holds the entry e, and each of its links names a child whose stored digest is right, or none
module _ (s : List ℕ) (h : ℕ) (c : Bool) (e : Entry) (l r : Tree) (ek : key_of (slot s h) ≡ e.key) (ev : value_of (slot s h) ≡ e.value)
    (nl : eqb (slot s h).left 0 ≡ is_nil l) (nr : eqb (slot s h).right 0 ≡ is_nil r)
    (dl : is_nil l ≡ false → digest_of s (slot s h).left ≡ subtree_digest l) (dr : is_nil r ≡ false → digest_of s (slot s h).right ≡ subtree_digest r) where
  pub subtree-right : compute_subtree_hash s h ≡ subtree_digest (node c e l r)
  unfolding compute_subtree_hash
  subtree-right =
      (λ i. node_digest (nl i) (nr i) (digest_of s (slot s h).left) (labeled_hash (ek i) (leaf_hash (ev i))) (digest_of s (slot s h).right))
      ∙ same-digests l r (digest_of s (slot s h).left) (data_digest e) (digest_of s (slot s h).right) dl dr
      ∙ sym (digest-node c e l r)

-- ---- it is the count of the subtree

-- the same of counts, in any edition
module _ (d : ℕ) (s : List ℕ) where
  below-is : (l : ℕ) (t : Tree) → eqb l 0 ≡ is_nil t → (is_nil t ≡ false → count_of s l ≡ size t) → count_below s l ≡ size t
  below-is l nil n f = unfold size in rw n
  below-is l (node c e t u) n f = rw n (f refl)

  pub count-right : (h : ℕ) (c : Bool) (e : Entry) (l r : Tree) → eqb (slot s h).left 0 ≡ is_nil l → eqb (slot s h).right 0 ≡ is_nil r
      → (is_nil l ≡ false → count_of s (slot s h).left ≡ count_in d (size l)) → (is_nil r ≡ false → count_of s (slot s h).right ≡ count_in d (size r))
      → count_in d (linked_count s h) ≡ count_in d (size (node c e l r))
  count-right h c e l r nl nr dl dr = go d dl dr
    where
      go : (d : ℕ) → (is_nil l ≡ false → count_of s (slot s h).left ≡ count_in d (size l)) → (is_nil r ≡ false → count_of s (slot s h).right ≡ count_in d (size r))
          → count_in d (linked_count s h) ≡ count_in d (size (node c e l r))
      go zero x y = refl
      go (suc zero) x y = refl
      go (suc (suc d)) x y =
          let n : linked_count s h ≡ 1 + (count_below s (slot s h).left + count_below s (slot s h).right) = unfold linked_count in refl in
          omega (arith, n, below-is (slot s h).left l nl x, below-is (slot s h).right r nr y, size-node c e l r)

pub below_none : (s : List ℕ) (l : ℕ) → l ≡ 0 → 0 ≡ count_below s l
below_none s l e = rw (eq-eqb l 0 e)

pub below-some : (s : List ℕ) (l : ℕ) → (l ≡ 0 → ⊥) → {n : ℕ} → n ≡ count_of s l → n ≡ count_below s l
below-some s l ne e = rw (ne_eqb l 0 ne) e

-- ---- 32 bytes

fork-bytes : (a b : Digest) → Bytes (fork_hash a b)
unfolding fork_hash
fork-bytes a b = sha256-bytes _

labeled-bytes : (a : List ℕ) (b : Digest) → Bytes (labeled_hash a b)
unfolding labeled_hash
labeled-bytes a b = sha256-bytes _

node-length : (p q : Bool) (l d r : Digest) → length d ≡ 32 → length (node_digest p q l d r) ≡ 32
node-length true true l d r e = e
node-length false true l d r e = fork_hash-length l d
node-length true false l d r e = fork_hash-length d r
node-length false false l d r e = fork_hash-length l (fork_hash d r)

node-bytes : (p q : Bool) (l d r : Digest) → Bytes d → Bytes (node_digest p q l d r)
node-bytes true true l d r e = e
node-bytes false true l d r e = fork-bytes l d
node-bytes true false l d r e = fork-bytes d r
node-bytes false false l d r e = fork-bytes l (fork_hash d r)

pub subtree-length : (s : List ℕ) (i : ℕ) → length (compute_subtree_hash s i) ≡ 32
unfolding compute_subtree_hash
subtree-length s i =
    node-length (eqb (slot s i).left 0) (eqb (slot s i).right 0) (digest_of s (slot s i).left) (data_digest_in s i) (digest_of s (slot s i).right)
    (labeled_hash-length (key_of (slot s i)) (value_digest s i))

pub subtree-bytes : (s : List ℕ) (i : ℕ) → Bytes (compute_subtree_hash s i)
unfolding compute_subtree_hash
subtree-bytes s i =
    node-bytes (eqb (slot s i).left 0) (eqb (slot s i).right 0) (digest_of s (slot s i).left) (data_digest_in s i) (digest_of s (slot s i).right)
    (labeled-bytes (key_of (slot s i)) (value_digest s i))
