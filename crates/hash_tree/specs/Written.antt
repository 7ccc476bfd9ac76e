-- The written form of a hash tree, and which trees may be written: document 01, "Witness trees".
use Rattle.std.specs.Prelude.{ℕ, suc, ◌+◌, ◌*◌, ◌/◌, ◌%◌, ◌≤◌, max, ◌≡◌, List, [], ◌∷◌, ◌++◌, length}
use Rattle.hash_tree.specs.HashTree.{HashTree, Empty, Fork, Labeled, Leaf, Pruned}

-- how many records deep a witness may be nested, the outermost counted
abbrev pub max_depth : ℕ
max_depth = 64

-- the longest label, the longest value, and the length of a digest
abbrev pub max_label : ℕ
max_label = 48

abbrev pub max_value : ℕ
max_value = 64

abbrev pub digest_len : ℕ
digest_len = 32

-- records on the longest way down, the outermost counted
abbrev pub depth : HashTree → ℕ
depth Empty = 1
depth (Fork l r) = suc (max (depth l) (depth r))
depth (Labeled label t) = suc (depth t)
depth (Leaf value) = 1
depth (Pruned d) = 1

-- each part has a length that the format allows
abbrev pub Lengths : HashTree → Type 0
Lengths Empty = Unit
Lengths (Fork l r) = Lengths l × Lengths r
Lengths (Labeled label t) = (length label ≤ max_label) × Lengths t
Lengths (Leaf value) = length value ≤ max_value
Lengths (Pruned d) = length d ≡ digest_len

-- a tree that the format allows, at most d records deep
abbrev pub Lawful : ℕ → HashTree → Type 0
Lawful d t = Lengths t × (depth t ≤ d)

-- the 16 bits that open a record of the kind k with n bytes: 3 bits of kind, 13 of length, most significant first
abbrev pub head : ℕ → ℕ → List ℕ
head k n = (k * 32 + n / 256) ∷ n % 256 ∷ []

-- a record of the kind k and its bytes, without its children
unfoldable pub piece : ℕ → List ℕ → List ℕ
piece k b = head k (length b) ++ b

-- parent first, then the children from left to right
unfoldable pub write : HashTree → List ℕ
write Empty = piece 0 []
write (Fork l r) = piece 1 [] ++ (write l ++ write r)
write (Labeled label t) = piece 2 label ++ write t
write (Leaf value) = piece 3 value
write (Pruned d) = piece 4 d

-- how many bytes the written form has
abbrev pub size : HashTree → ℕ
size Empty = 2
size (Fork l r) = 2 + (size l + size r)
size (Labeled label t) = 2 + (length label + size t)
size (Leaf value) = 2 + length value
size (Pruned d) = 2 + length d
