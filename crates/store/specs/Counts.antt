-- How often a number stands in a list, and the numbers 1 to n: "each slot exactly once" is said with these.
use Rattle.std.specs.Prelude.{Bool, true, false, List, [], ◌∷◌, ℕ, zero, suc, ◌+◌, eqb}

abbrev pub one : Bool → ℕ
one true = 1
one false = 0

-- 1 where x is y, else 0
unfoldable pub is : ℕ → ℕ → ℕ
is x y = one (eqb x y)

abbrev pub occurs : ℕ → List ℕ → ℕ
occurs x [] = 0
occurs x (y ∷ ys) = is x y + occurs x ys

-- n numbers from a on
abbrev pub numbers_from : ℕ → ℕ → List ℕ
numbers_from a zero = []
numbers_from a (suc n) = a ∷ numbers_from (suc a) n

-- 1, 2, up to n
abbrev pub numbers_to : ℕ → List ℕ
numbers_to n = numbers_from 1 n
