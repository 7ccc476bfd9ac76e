-- The bytes of an entry, piece by piece, and their lengths.
use Prim.Native.Nat.{ℕ, ◌+◌, ◌≤◌}
use mathlib.Core.Path.{◌≡◌, refl, sym}
use mathlib.Core.Bool.{Bool, true, false, cond}
use mathlib.Core.List.{List, [], ◌++◌}
use native.Mathlib.Omega.{arith}
use lib.ListN.{length, length-take}
use Rattle.hash_tree.specs.HashTree.{fork_hash, leaf_hash}
use Rattle.hash_tree.specs.Written.{piece, write}
use Rattle.hash_tree.proofs.ParseLaws.{length-piece, length-write}
use Rattle.hash_tree.proofs.DigestLaws.{fork_hash-length, labeled_hash-length, leaf_hash-length}
use Rattle.llrb.specs.Digests.{data_digest}
use Rattle.slots.specs.Layout.{HasSlot, slot, digest_of, key_of, value_of}
use Rattle.slots.proofs.Lenses.{digest-length}
use Rattle.witness_trees.specs.Shown.{item}
use Rattle.witness_walks.specs.declared.What.TheVariants.{Hide, Label, Show}
use Rattle.witness_walks.specs.declared.Middle.TheVariants.{Both}
use Rattle.search.specs.Search.{EntryAt}
use Rattle.witness_walks.specs.Walked.{what_of}
use Rattle.witness_walks.specs.InStore.{entry_in, shown_in, middle_in}

module _ (s : List ℕ) (n : ℕ) where
  pub key-short : EntryAt s n → length (key_of (slot s n)) ≤ 48
  key-short a = omega (arith, length-take (slot s n).key_length (slot s n).key_room, a.key)

  pub value-short : EntryAt s n → length (value_of (slot s n)) ≤ 64
  value-short a = omega (arith, length-take (slot s n).value_length (slot s n).value_room, a.value)

  pub hide-bytes : shown_in s n Hide ≡ piece 4 (data_digest (entry_in s n))
  unfolding write
  hide-bytes = refl

  pub label-bytes : shown_in s n Label ≡ piece 2 (key_of (slot s n)) ++ piece 4 (leaf_hash (value_of (slot s n)))
  unfolding write
  label-bytes = refl

  pub show-bytes : shown_in s n Show ≡ piece 2 (key_of (slot s n)) ++ piece 3 (value_of (slot s n))
  unfolding write
  show-bytes = refl

  pub data-length : length (data_digest (entry_in s n)) ≡ 32
  data-length = labeled_hash-length (key_of (slot s n)) (leaf_hash (value_of (slot s n)))

  pub hide-length : 34 ≡ length (shown_in s n Hide)
  hide-length = omega (arith, length-write (item (what_of Hide) (entry_in s n)), data-length)

  pub label-length : 36 + length (key_of (slot s n)) ≡ length (shown_in s n Label)
  label-length = omega (arith, length-write (item (what_of Label) (entry_in s n)), leaf_hash-length (value_of (slot s n)))

  pub show-length : 4 + length (key_of (slot s n)) + length (value_of (slot s n)) ≡ length (shown_in s n Show)
  show-length = omega (arith, length-write (item (what_of Show) (entry_in s n)))

  pub both-digest : length (fork_hash (data_digest (entry_in s n)) (digest_of s (slot s n).right)) ≡ 32
  both-digest = fork_hash-length (data_digest (entry_in s n)) (digest_of s (slot s n).right)

  pub both-length : 34 ≡ length (middle_in s n Both)
  both-length = omega (arith, length-piece 4 (fork_hash (data_digest (entry_in s n)) (digest_of s (slot s n).right)), both-digest)

-- Empty, or Pruned to a stored digest
pub hidden-length : (s : List ℕ) (n : ℕ) → (b : Bool) → (b ≡ false → HasSlot (length s) n) → cond b 2 34 ≡ length (cond b (piece 0 []) (piece 4 (digest_of s n)))
hidden-length s n true h = sym (length-piece 0 [])
hidden-length s n false h = omega (arith, length-piece 4 (digest_of s n), digest-length s n (h refl))
