-- Worked examples of the written form, as tables; proofs/Examples has the claims, which antt computes.
use Rattle.std.specs.Prelude.{ℕ, zero, suc, ◌≡◌, List, [], ◌∷◌, replicate}
use Rattle.hash_tree.specs.HashTree.{HashTree, Empty, Fork, Labeled, Leaf, Pruned, digest}
use Rattle.hash_tree.specs.Written.{write}
use Rattle.hash_tree.specs.Whole.{rebuilt, accepted}

-- a claim at each entry of a table
abbrev pub Each : {A : Type 0} → (A → Type 0) → List A → Type 0
Each P [] = Unit {0}
Each P (x ∷ xs) = P x × Each P xs

-- a tree, and its bytes
pub record Example : Type 0 where
  pub tree : HashTree
  pub bytes : List ℕ

-- written it is the bytes, and the bytes are rebuilt to its digest
abbrev pub Holds : Example → Type 0
Holds e = (write e.tree ≡ e.bytes) × (rebuilt e.bytes ≡ accepted (digest e.tree))

unfoldable pub examples : List Example
examples =
    record { tree = Empty; bytes = 0 ∷ 0 ∷ [] }
    ∷ record { tree = Leaf (104 ∷ 105 ∷ []); bytes = 96 ∷ 2 ∷ 104 ∷ 105 ∷ [] }
    ∷ record { tree = Fork Empty Empty; bytes = 32 ∷ 0 ∷ 0 ∷ 0 ∷ 0 ∷ 0 ∷ [] }
    ∷ record { tree = Labeled (97 ∷ []) (Leaf []); bytes = 64 ∷ 1 ∷ 97 ∷ 96 ∷ 0 ∷ [] }
    ∷ record { tree = Pruned (replicate 32 7); bytes = 128 ∷ 32 ∷ replicate 32 7 }
    ∷ record { tree = Fork (Labeled (97 ∷ []) (Leaf (1 ∷ []))) (Pruned (replicate 32 9)); bytes = 32 ∷ 0 ∷ 64 ∷ 1 ∷ 97 ∷ 96 ∷ 1 ∷ 1 ∷ 128 ∷ 32 ∷ replicate 32 9 }
    ∷ []

-- bytes that are refused: nothing; a cut header; a kind past 4; a leaf that is cut; a byte too many; an empty record with a length; a pruned record of 31 bytes; a fork with one child
unfoldable pub faulty : List (List ℕ)
faulty =
    []
    ∷ (0 ∷ [])
    ∷ (160 ∷ 0 ∷ [])
    ∷ (96 ∷ 2 ∷ 104 ∷ [])
    ∷ (0 ∷ 0 ∷ 0 ∷ [])
    ∷ (0 ∷ 1 ∷ 0 ∷ [])
    ∷ (128 ∷ 31 ∷ replicate 31 7)
    ∷ (32 ∷ 0 ∷ 0 ∷ 0 ∷ [])
    ∷ []

-- n labels, one within the other
unfoldable pub deep : ℕ → HashTree
deep zero = Empty
deep (suc n) = Labeled (1 ∷ []) (deep n)
