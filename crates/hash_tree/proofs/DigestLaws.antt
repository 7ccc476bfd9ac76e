-- Digests are 32 bytes.
use Prim.Native.Nat.{ℕ}
use mathlib.Core.Path.{◌≡◌}
use mathlib.Core.List.{List}
use lib.ListN.{length}
use Rattle.sha256.proofs.Length.{sha256-length}
use Rattle.hash_tree.specs.HashTree.{HashTree, Empty, Fork, Labeled, Leaf, Pruned, Digest, empty_hash, fork_hash, labeled_hash, leaf_hash, digest}
use Rattle.hash_tree.specs.Written.{Lengths, digest_len}

pub empty_hash-length : length empty_hash ≡ digest_len
unfolding empty_hash
empty_hash-length = sha256-length _

pub fork_hash-length : (l r : Digest) → length (fork_hash l r) ≡ digest_len
unfolding fork_hash
fork_hash-length l r = sha256-length _

pub labeled_hash-length : (label : List ℕ) (child : Digest) → length (labeled_hash label child) ≡ digest_len
unfolding labeled_hash
labeled_hash-length label child = sha256-length _

pub leaf_hash-length : (value : List ℕ) → length (leaf_hash value) ≡ digest_len
unfolding leaf_hash
leaf_hash-length value = sha256-length _

pub digest-length : (t : HashTree) → Lengths t → length (digest t) ≡ digest_len
digest-length Empty h = empty_hash-length
digest-length (Fork l r) h = fork_hash-length (digest l) (digest r)
digest-length (Labeled label t) h = labeled_hash-length label (digest t)
digest-length (Leaf value) h = leaf_hash-length value
digest-length (Pruned d) h = h
