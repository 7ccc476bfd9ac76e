-- Runs of bytes: their parts, the numbers in them, and what the code's loops leave of them.
use mathlib.Core.Path.{◌≡◌, refl, sym, ap, ◌∙◌}
use mathlib.Core.List.{List, [], ◌∷◌, ◌++◌}
use Prim.Native.Nat.{ℕ, zero, suc, ◌+◌, ◌-◌, ◌≤◌, ◌<◌}
use native.Mathlib.Omega.{arith}
use native.Mathlib.Nat.{add-sub_cancel_left}
use borrow.Rule.Slice.PartMut.{put_mid}
use Rattle.std.specs.Int.{w64, from_be_bytes}
use Rattle.std.proofs.lemmas.Slice.{put_mid-paste}
use lib.ListN.{length, get_or, set, take, length-take, length-drop}
use lib.Seq.{paste, sets, sets-eq, take-length, drop-cons, get_or-set_other}
use Rattle.runs.specs.Bits.{joined}
use Rattle.runs.specs.Runs.{part, zeros, padded, number_at}

-- ---- parts

pub part_length : (a n : ℕ) (s : List ℕ) → a + n ≤ length s → length (part a n s) ≡ n
part_length a n s p = simp (length-take, length-drop) (omega arith)

-- a byte that is not written
pub get_d-out : (s : List ℕ) (a : ℕ) (xs : List ℕ) (k : ℕ) → (a ≤ k → k < a + length xs → ⊥) → get_or (sets s a xs) k 0 ≡ get_or s k 0
get_d-out s a [] k p = refl
get_d-out s a (x ∷ xs) k p =
    get_d-out (set s a x) (suc a) xs k (λ y z. p (omega arith) (omega arith)) ∙ get_or-set_other s a k x 0 (λ e. p (omega arith) (omega arith))

-- ---- numbers in bytes

abbrev run : ℕ → ℕ → List ℕ → List ℕ
run zero a s = []
run (suc n) a s = get_or s a 0 ∷ run n (suc a) s

part-run : (n a : ℕ) (s : List ℕ) → a + n ≤ length s → part a n s ≡ run n a s
part-run zero a s p = refl
part-run (suc n) a s p =
    ap (take (suc n)) (drop-cons s a 0 (omega arith)) ∙ ap (λ (z : List ℕ). get_or s a 0 ∷ z) (part-run n (suc a) s (omega arith))

pub six-is : (s : List ℕ) (a : ℕ) → a + 6 ≤ length s
    → from_be_bytes w64 (0 ∷ 0 ∷ get_or s a 0 ∷ get_or s (a + 1) 0 ∷ get_or s (a + 2) 0 ∷ get_or s (a + 3) 0 ∷ get_or s (a + 4) 0 ∷ get_or s (a + 5) 0 ∷ []) ≡ number_at 6 s a
unfolding number_at joined
six-is s a p =
    let e1 : suc a ≡ a + 1 = omega arith in
    let e2 : suc (suc a) ≡ a + 2 = omega arith in
    let e3 : suc (suc (suc a)) ≡ a + 3 = omega arith in
    let e4 : suc (suc (suc (suc a))) ≡ a + 4 = omega arith in
    let e5 : suc (suc (suc (suc (suc a)))) ≡ a + 5 = omega arith in
    rw (part-run 6 a s p, e5, e4, e3, e2, e1) (omega arith)

pub eight_is : (s : List ℕ) → 8 ≤ length s → from_be_bytes w64 (take 8 s) ≡ number_at 8 s 0
unfolding number_at joined
eight_is s p = rw (part-run 8 0 s (omega arith)) (omega arith)

-- ---- runs

pub sets-append : (s : List ℕ) (a : ℕ) (x y : List ℕ) → sets s a (x ++ y) ≡ sets (sets s a x) (a + length x) y
sets-append s a [] y = let e : a + 0 ≡ a = omega arith in ap (λ (k : ℕ). sets s k y) (sym e)
sets-append s a (c ∷ x) y = let e : suc a + length x ≡ a + suc (length x) = omega arith in sets-append (set s a c) (suc a) x y ∙ ap (λ (k : ℕ). sets (sets (set s a c) (suc a) x) k y) e

-- one more byte
next : (s : List ℕ) (a : ℕ) (x : List ℕ) (n v : ℕ) → length x ≡ n → set (sets s a x) (a + n) v ≡ sets s a (x ++ (v ∷ []))
next s a x n v e = sym (sets-append s a x (v ∷ []) ∙ ap (λ (k : ℕ). set (sets s a x) (a + k) v) e)

-- what is left of the whole where a lent part was filled
pub filled : (s d ys : List ℕ) (a n : ℕ) → a + n ≤ length s → length d ≡ n → ys ≡ d → put_mid a ((a + n) - a) s ys ≡ sets s a d
filled s d ys a n p e y =
    put_mid-paste a ((a + n) - a) s ys d n y (sym (add-sub_cancel_left a n)) (sym e)
    ∙ ap (λ (k : ℕ). paste s a d k) (sym e) ∙ rw take-length (sym (sets-eq d s a (omega arith)))

pub filled-32 : (s d ys : List ℕ) (a : ℕ) → a + 32 ≤ length s → length d ≡ 32 → ys ≡ d → put_mid a ((a + 32) - a) s ys ≡ sets s a d
filled-32 s d ys a = filled s d ys a 32

-- a string and then zeros
pub padded-set : (s t u x : List ℕ) (a n : ℕ) → t ≡ sets s a x → u ≡ sets t (a + length x) (zeros (n - length x)) → u ≡ sets s a (padded n x)
unfolding padded
padded-set s t u x a n e f = f ∙ ap (λ (z : List ℕ). sets z (a + length x) (zeros (n - length x))) e ∙ sym (sets-append s a x (zeros (n - length x)))
