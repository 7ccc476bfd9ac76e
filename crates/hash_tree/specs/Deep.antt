-- Where a record stands in the bytes of a tree, by how many records are above it.
use Rattle.std.specs.Prelude.{ℕ, zero, suc, ◌≤◌, List, [], ◌++◌, length}
use Rattle.hash_tree.specs.HashTree.{HashTree}
use Rattle.hash_tree.specs.Written.{write, piece, Lengths, max_label}

-- Reaches n xs ys: in reading a tree at xs one comes to a record at ys, with n records above it
pub data Reaches : ℕ → List ℕ → List ℕ → Type 0 where
  here : (xs : List ℕ) → Reaches zero xs xs
  below : {n : ℕ} {xs ys : List ℕ} (b : List ℕ) → length b ≤ max_label → Reaches n xs ys → Reaches (suc n) (piece 2 b ++ xs) ys
  on_left : {n : ℕ} {xs ys : List ℕ} → Reaches n xs ys → Reaches (suc n) (piece 1 [] ++ xs) ys
  on_right : {n : ℕ} {xs ys : List ℕ} (l : HashTree) → Lengths l → Reaches n xs ys → Reaches (suc n) (piece 1 [] ++ (write l ++ xs)) ys
