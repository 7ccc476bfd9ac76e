-- The mark of the entry in a slot: its digests (document 01, "Digests"), from the slot's own bytes and the stored digests of the slots that its links
-- name; and the count of its subtree, from their stored counts (document 02, Q-5).
use Rattle.std.specs.Prelude.{◌≡◌, cond, List, ℕ, ◌+◌, ◌≤◌, eqb, length}
use Rattle.hash_tree.specs.HashTree.{Digest, labeled_hash, leaf_hash}
use Rattle.slots.specs.Layout.{HasSlot, slot, key_of, value_of, count_of, digest_of}
use Rattle.llrb.specs.Digests.{node_digest}

-- Leaf(value)
abbrev pub value_digest : List ℕ → ℕ → Digest
value_digest s i = leaf_hash (value_of (slot s i))

-- Labeled(key, Leaf(value))
abbrev pub data_digest_in : List ℕ → ℕ → Digest
data_digest_in s i = labeled_hash (key_of (slot s i)) (value_digest s i)

-- the four cases, from a data digest and the stored digests of the slots that two links name; a link 0 names nothing
abbrev pub forked : List ℕ → (left right : ℕ) → Digest → Digest
forked s l r d = node_digest (eqb l 0) (eqb r 0) (digest_of s l) d (digest_of s r)

-- `compute_subtree_hash`: of the subtree whose top is in slot i
unfoldable pub compute_subtree_hash : List ℕ → ℕ → Digest
compute_subtree_hash s i = forked s (slot s i).left (slot s i).right (data_digest_in s i)

-- the stored count of the slot that a link names; a link 0 names nothing
abbrev pub count_below : List ℕ → ℕ → ℕ
count_below s l = cond (eqb l 0) 0 (count_of s l)

-- the entry itself, and what its links count
unfoldable pub linked_count : List ℕ → ℕ → ℕ
linked_count s i = 1 + (count_below s (slot s i).left + count_below s (slot s i).right)

-- a link names a slot of the store, or none
abbrev pub Link : List ℕ → ℕ → Type 0
Link s l = (l ≡ 0 → ⊥) → HasSlot (length s) l

-- slot i is one of an entry, and its links name slots or none
pub record LinksIn (s : List ℕ) (i : ℕ) : Type 0 where
  pub here : HasSlot (length s) i
  pub left : Link s (slot s i).left
  pub right : Link s (slot s i).right
  pub key : (slot s i).key_length ≤ 48
  pub value : (slot s i).value_length ≤ 64
