-- What a test decides, and zeros told by their sum.
use mathlib.Core.Path.{◌≡◌, refl, sym, ap, ◌∙◌}
use mathlib.Core.Bool.{Bool, true, false}
use mathlib.Core.List.{List, [], ◌∷◌, ◌++◌}
use Prim.Native.Nat.{ℕ, zero, suc, ◌+◌, ◌≤◌, ◌<◌}
use native.Mathlib.Numerals.{add-one}
use native.Mathlib.Omega.{arith}
use borrow.Author.Tests.{eqb-true, eqb-false}
use lib.Dec.{eqb}
use lib.ListN.{length, get_or, take}
use lib.Seq.{take-suc, take_all}
use Rattle.runs.specs.Runs.{zeros, Decides}

-- ---- decisions

pub decides-via : {P Q : Type 0} (b : Bool) → (P → Q) → (Q → P) → Decides b P → Decides b Q
decides-via true f g d = f d
decides-via false f g d = λ q. d (g q)

pub decides-yes : {P : Type 0} (b : Bool) → b ≡ true → Decides b P → P
decides-yes true e d = d
decides-yes false e d = let z : ◌≡◌ {A = ℕ} 0 1 = cc in absurd (omega arith)

pub decides-no : {P : Type 0} (b : Bool) → b ≡ false → Decides b P → P → ⊥
decides-no false e d = d
decides-no true e d = let z : ◌≡◌ {A = ℕ} 0 1 = cc in absurd (omega arith)

pub clash : {b : Bool} → b ≡ true → b ≡ false → ⊥
clash p q = let z : ◌≡◌ {A = ℕ} 0 1 = cc in omega arith

-- ---- zeros, by their sum

abbrev pub sum_of : List ℕ → ℕ
sum_of [] = 0
sum_of (x ∷ xs) = x + sum_of xs

sum-append : (x y : List ℕ) → sum_of (x ++ y) ≡ sum_of x + sum_of y
sum-append [] y = sym (omega arith)
sum-append (a ∷ x) y = ap (λ (n : ℕ). a + n) (sum-append x y) ∙ omega arith

pub sum-next : (xs : List ℕ) (i : ℕ) → i < length xs → sum_of (take (i + 1) xs) ≡ sum_of (take i xs) + get_or xs i 0
sum-next xs i p =
    rw (add-one, take-suc xs i 0 p) (sum-append (take i xs) (get_or xs i 0 ∷ []) ∙ omega arith)

sum_zeros : (n : ℕ) → sum_of (zeros n) ≡ 0
unfolding zeros
sum_zeros zero = refl
sum_zeros (suc n) = omega (arith, sum_zeros n)

zeros-sum : (xs : List ℕ) → sum_of xs ≡ 0 → xs ≡ zeros (length xs)
unfolding zeros
zeros-sum [] e = refl
zeros-sum (x ∷ xs) e = let z : x ≡ 0 = omega arith in let r = zeros-sum xs (omega arith) in λ i. z i ∷ r i

pub zero_test : (xs : List ℕ) (i n sum : ℕ) → length xs ≡ n → length xs ≤ i → sum ≡ sum_of (take i xs) → Decides (eqb sum 0) (xs ≡ zeros n)
zero_test xs i n sum q o e = go (eqb sum 0) refl
  where
    l : sum ≡ sum_of xs
    l = e ∙ ap sum_of (take_all i xs o)

    go : (b : Bool) → eqb sum 0 ≡ b → Decides b (xs ≡ zeros n)
    go true h = zeros-sum xs (sym l ∙ eqb-true sum 0 h) ∙ ap zeros q
    go false h = λ z. eqb-false sum 0 h (l ∙ ap sum_of z ∙ sum_zeros n)
