-- The order of keys (document 01): byte by byte as unsigned numbers, a proper prefix smaller; where two keys part; the prefix test.
use Rattle.std.specs.Prelude.{ℕ, suc, Bool, true, false, cond, ◌&&◌, List, [], ◌∷◌, ◌==◌, nat_lt}
use Rattle.key_order.specs.declared.Compared.{Compared}
use Rattle.std.specs.declared.cmp.Ordering.{Ordering}
use Rattle.std.specs.declared.cmp.Ordering.TheVariants.{Less, Equal, Greater}

abbrev pub Key : Type 0
Key = List ℕ

-- a choice by an answer: for less, for equal, for greater
abbrev pub pick {ℓ} : {X : Type ℓ} → Ordering → X → X → X → X
pick Less a b c = a
pick Equal a b c = b
pick Greater a b c = c

unfoldable pub cmp : Key → Key → Ordering
cmp [] [] = Equal
cmp [] (y ∷ ys) = Less
cmp (x ∷ xs) [] = Greater
cmp (x ∷ xs) (y ∷ ys) = cond (nat_lt x y) Less (cond (nat_lt y x) Greater (cmp xs ys))

-- p stands at the front of x
unfoldable pub is_prefix_of : Key → Key → Bool
is_prefix_of [] x = true
is_prefix_of (a ∷ p) [] = false
is_prefix_of (a ∷ p) (b ∷ x) = a == b && is_prefix_of p x

-- how many leading bytes agree
unfoldable pub common : Key → Key → ℕ
common [] y = 0
common (a ∷ x) [] = 0
common (a ∷ x) (b ∷ y) = cond (a == b) (suc (common x y)) 0

-- the order of two keys, and where they part
abbrev pub compared : Key → Key → Compared
compared a b = record { order = cmp a b; agree = common a b }

-- the two tests that callers ask for
abbrev pub is_same : Key → Key → Bool
is_same a b = pick (cmp a b) false true false

abbrev pub is_below : Key → Key → Bool
is_below a b = pick (cmp a b) true false false
