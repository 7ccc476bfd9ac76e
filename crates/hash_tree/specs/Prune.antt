-- A tree with some of its parts pruned.
use Rattle.std.specs.Prelude.{ℕ, List}
use Rattle.hash_tree.specs.HashTree.{HashTree, Fork, Labeled, Pruned, digest}

-- u is t with some of its parts pruned
pub data Prunes : HashTree → HashTree → Type 0 where
  cut : (t : HashTree) → Prunes (Pruned (digest t)) t
  same : (t : HashTree) → Prunes t t
  fork : {l r l' r' : HashTree} → Prunes l' l → Prunes r' r → Prunes (Fork l' r') (Fork l r)
  labeled : (b : List ℕ) {t t' : HashTree} → Prunes t' t → Prunes (Labeled b t') (Labeled b t)
