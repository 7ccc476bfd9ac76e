-- Hash trees and their digests, from the Internet Computer Interface Specification ("Hash trees in certificates").
use Rattle.std.specs.Prelude.{List, [], ◌∷◌, ◌++◌, ℕ, length}
use Rattle.sha256.specs.Hash.{sha256}

abbrev pub Digest : Type 0
Digest = List ℕ

pub data HashTree : Type 0 where
  Empty : HashTree
  Fork : HashTree → HashTree → HashTree
  Labeled : List ℕ → HashTree → HashTree
  Leaf : List ℕ → HashTree
  Pruned : Digest → HashTree

-- a tag is one length byte and then the text
abbrev pub tag : List ℕ → List ℕ
tag text = length text ∷ text

-- the text `ic-hashtree-`, and what follows it in each tag
abbrev pub ic_hashtree : List ℕ → List ℕ
ic_hashtree kind = (105 ∷ 99 ∷ 45 ∷ 104 ∷ 97 ∷ 115 ∷ 104 ∷ 116 ∷ 114 ∷ 101 ∷ 101 ∷ 45 ∷ []) ++ kind

-- `ic-hashtree-empty`
abbrev pub empty_tag : List ℕ
empty_tag = tag (ic_hashtree (101 ∷ 109 ∷ 112 ∷ 116 ∷ 121 ∷ []))

-- `ic-hashtree-fork`
abbrev pub fork_tag : List ℕ
fork_tag = tag (ic_hashtree (102 ∷ 111 ∷ 114 ∷ 107 ∷ []))

-- `ic-hashtree-labeled`
abbrev pub labeled_tag : List ℕ
labeled_tag = tag (ic_hashtree (108 ∷ 97 ∷ 98 ∷ 101 ∷ 108 ∷ 101 ∷ 100 ∷ []))

-- `ic-hashtree-leaf`
abbrev pub leaf_tag : List ℕ
leaf_tag = tag (ic_hashtree (108 ∷ 101 ∷ 97 ∷ 102 ∷ []))

unfoldable pub empty_hash : Digest
empty_hash = sha256 empty_tag

unfoldable pub fork_hash : Digest → Digest → Digest
fork_hash l r = sha256 (fork_tag ++ (l ++ r))

unfoldable pub labeled_hash : List ℕ → Digest → Digest
labeled_hash label child = sha256 (labeled_tag ++ (label ++ child))

unfoldable pub leaf_hash : List ℕ → Digest
leaf_hash value = sha256 (leaf_tag ++ value)

-- the document's reconstruct; a Pruned is its own digest
abbrev pub digest : HashTree → Digest
digest Empty = empty_hash
digest (Fork l r) = fork_hash (digest l) (digest r)
digest (Labeled label t) = labeled_hash label (digest t)
digest (Leaf value) = leaf_hash value
digest (Pruned d) = d
