-- Worked examples of the CBOR form, as tables; proofs/Examples has the claims, which antt computes.
use Rattle.std.specs.Prelude.{ℕ, ◌≡◌, List, [], ◌∷◌, ◌++◌, replicate}
use Rattle.hash_tree.specs.HashTree.{HashTree, Empty, Fork, Labeled, Leaf, Pruned}
use Rattle.hash_tree.specs.Parse.{Got, Bad}
use Rattle.hash_tree.specs.Form.{parse_by}
use Rattle.cbor.specs.Cbor.{cbor_form, cbor}

pub record Example : Type 0 where
  pub tree : HashTree
  pub bytes : List ℕ

-- written it is the bytes, and they are read back
abbrev pub Holds : Example → Type 0
Holds e = (cbor e.tree ≡ e.bytes) × (parse_by cbor_form 64 e.bytes ≡ Got e.tree [])

-- the witness of a in the map with only a → 07; an empty label; strings of 23, 24 and 48 bytes; a Pruned
unfoldable pub examples : List Example
examples =
    record { tree = Labeled (0x61 ∷ []) (Leaf (0x07 ∷ [])); bytes = 0x83 ∷ 0x02 ∷ 0x41 ∷ 0x61 ∷ 0x82 ∷ 0x03 ∷ 0x41 ∷ 0x07 ∷ [] }
    ∷ record { tree = Labeled [] Empty; bytes = 0x83 ∷ 0x02 ∷ 0x40 ∷ 0x81 ∷ 0x00 ∷ [] }
    ∷ record { tree = Leaf (replicate 23 5); bytes = 0x82 ∷ 0x03 ∷ 0x57 ∷ replicate 23 5 }
    ∷ record { tree = Leaf (replicate 24 5); bytes = 0x82 ∷ 0x03 ∷ 0x58 ∷ 24 ∷ replicate 24 5 }
    ∷ record { tree = Labeled (replicate 48 5) Empty; bytes = (0x83 ∷ 0x02 ∷ 0x58 ∷ 48 ∷ replicate 48 5) ++ (0x81 ∷ 0x00 ∷ []) }
    ∷ record { tree = Fork Empty (Pruned (replicate 32 7)); bytes = 0x83 ∷ 0x01 ∷ 0x81 ∷ 0x00 ∷ 0x82 ∷ 0x04 ∷ 0x58 ∷ 32 ∷ replicate 32 7 }
    ∷ []

-- no record: a tag in front; an array without its length; strings of 5, 23 and 24 bytes in a head too long; an Empty of three; a digest of
-- 31; a value of 65
unfoldable pub faulty : List (List ℕ)
faulty =
    (0xd9 ∷ 0xd9 ∷ 0xf7 ∷ 0x81 ∷ 0x00 ∷ [])
    ∷ (0x9f ∷ 0x00 ∷ 0xff ∷ [])
    ∷ (0x82 ∷ 0x03 ∷ 0x58 ∷ 0x05 ∷ 1 ∷ 2 ∷ 3 ∷ 4 ∷ 5 ∷ [])
    ∷ (0x82 ∷ 0x03 ∷ 0x58 ∷ 23 ∷ replicate 23 5)
    ∷ (0x82 ∷ 0x03 ∷ 0x59 ∷ 0x00 ∷ 0x18 ∷ replicate 24 5)
    ∷ (0x83 ∷ 0x00 ∷ [])
    ∷ (0x82 ∷ 0x04 ∷ 0x58 ∷ 31 ∷ replicate 31 7)
    ∷ (0x82 ∷ 0x03 ∷ 0x58 ∷ 65 ∷ replicate 65 5)
    ∷ []

abbrev pub Refused : List ℕ → Type 0
Refused bytes = parse_by cbor_form 64 bytes ≡ Bad
