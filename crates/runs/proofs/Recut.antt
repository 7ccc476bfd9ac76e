-- Runs of bits: what is joined is cut up again, over every list of widths.
use mathlib.Core.Path.{◌≡◌, refl, sym, ap, subst, ◌∙◌}
use mathlib.Core.Bool.{Bool, true, false}
use mathlib.Core.List.{List, [], ◌∷◌}
use Prim.Native.Nat.{ℕ, zero, suc, ◌+◌, ◌*◌, ◌/◌, ◌%◌, ◌^◌, ◌<◌}
use native.Mathlib.Nat.{mod-lt, mod-mod, mod-eq_of_lt}
use native.Mathlib.Omega.{arith}
use lib.Arith.{digits_lt}
use lib.Dec.{lit<}
use lib.ListN.{length}
use lib.Pow.{pow-add, pow_pos, high, low, field, mod-mod-pow, mod-pow-add}
use Rattle.runs.specs.Bits.{total, joined, fields, recut, Fit, octets, Bytes, bit, flag}

pub joined-lt : (ws vs : List ℕ) → Fit ws vs → joined ws vs < 2 ^ total ws
unfolding joined
joined-lt [] [] f = lit< tt
joined-lt [] (v ∷ vs) f = absurd f
joined-lt (w ∷ ws) [] f = absurd f
joined-lt (w ∷ ws) (v ∷ vs) f = rw (pow-add 2 w (total ws)) (digits_lt f.0 (joined-lt ws vs f.1))

-- only the low bits count
fields-mod : (ws : List ℕ) (h : ℕ) → fields ws (h % 2 ^ total ws) ≡ fields ws h
unfolding fields
fields-mod [] h = refl
fields-mod (w ∷ ws) h =
    let top : h % 2 ^ (w + total ws) / 2 ^ total ws % 2 ^ w ≡ h / 2 ^ total ws % 2 ^ w = ap (λ (n : ℕ). n % 2 ^ w) (field h w (total ws)) ∙ mod-mod (h / 2 ^ total ws) (2 ^ w) in
    let rest : fields ws (h % 2 ^ (w + total ws)) ≡ fields ws h = sym (fields-mod ws (h % 2 ^ (w + total ws))) ∙ ap (fields ws) (mod-mod-pow h w (total ws)) ∙ fields-mod ws h in
    λ i. top i ∷ rest i

pub fields-joined : (ws vs : List ℕ) → Fit ws vs → fields ws (joined ws vs) ≡ vs
unfolding fields joined
fields-joined [] [] f = refl
fields-joined [] (v ∷ vs) f = absurd f
fields-joined (w ∷ ws) [] f = absurd f
fields-joined (w ∷ ws) (v ∷ vs) f =
    let l : joined ws vs < 2 ^ total ws = joined-lt ws vs f.1 in
    let top : (v * 2 ^ total ws + joined ws vs) / 2 ^ total ws % 2 ^ w ≡ v = ap (λ (n : ℕ). n % 2 ^ w) (high v (total ws) l) ∙ mod-eq_of_lt f.0 in
    let rest : fields ws (v * 2 ^ total ws + joined ws vs) ≡ vs = sym (fields-mod ws (v * 2 ^ total ws + joined ws vs)) ∙ ap (fields ws) (low v (total ws) l) ∙ fields-joined ws vs f.1 in
    λ i. top i ∷ rest i

joined-fields : (ws : List ℕ) (h : ℕ) → joined ws (fields ws h) ≡ h % 2 ^ total ws
unfolding fields joined
joined-fields [] h = sym (omega arith)
joined-fields (w ∷ ws) h = ap (λ (n : ℕ). h / 2 ^ total ws % 2 ^ w * 2 ^ total ws + n) (joined-fields ws h) ∙ sym (mod-pow-add h w (total ws))

pub fields_fit : (ws : List ℕ) (h : ℕ) → Fit ws (fields ws h)
unfolding fields
fields_fit [] h = tt
fields_fit (w ∷ ws) h = (mod-lt (h / 2 ^ total ws) (pow_pos w), fields_fit ws h)

pub recut-fit : (ws us vs : List ℕ) → Fit us (recut ws us vs)
unfolding recut
recut-fit ws us vs = fields_fit us (joined ws vs)

-- cut by other widths and back again
pub recut-back : (ws us vs : List ℕ) → total ws ≡ total us → Fit ws vs → recut us ws (recut ws us vs) ≡ vs
unfolding recut
recut-back ws us vs e f =
    let l : joined ws vs < 2 ^ total us = subst (λ (n : ℕ). joined ws vs < 2 ^ n) e (joined-lt ws vs f) in
    ap (fields ws) (joined-fields us (joined ws vs) ∙ mod-eq_of_lt l) ∙ fields-joined ws vs f

-- ---- bytes

pub fit-bytes : (n : ℕ) (xs : List ℕ) → length xs ≡ n → Bytes xs → Fit (octets n) xs
fit-bytes zero [] e b = tt
fit-bytes zero (x ∷ xs) e b = absurd (omega arith)
fit-bytes (suc n) [] e b = absurd (omega arith)
fit-bytes (suc n) (x ∷ xs) e b = (b 0, fit-bytes n xs (omega arith) (λ k. b (suc k)))

pub fit_length : (ws xs : List ℕ) → Fit ws xs → length xs ≡ length ws
fit_length [] [] f = refl
fit_length [] (x ∷ xs) f = absurd f
fit_length (w ∷ ws) [] f = absurd f
fit_length (w ∷ ws) (x ∷ xs) f = ap suc (fit_length ws xs f.1)

pub bytes_fit : (n : ℕ) (xs : List ℕ) → Fit (octets n) xs → Bytes xs
bytes_fit zero [] f k = lit< tt
bytes_fit zero (x ∷ xs) f k = absurd f
bytes_fit (suc n) [] f k = absurd f
bytes_fit (suc n) (x ∷ xs) f zero = f.0
bytes_fit (suc n) (x ∷ xs) f (suc k) = bytes_fit n xs f.1 k

-- ---- one bit

pub flag-bit : (b : Bool) → flag (bit b) ≡ b
flag-bit true = refl
flag-bit false = refl

pub bit-flag : (n : ℕ) → n < 2 → bit (flag n) ≡ n
bit-flag zero p = refl
bit-flag (suc zero) p = refl
bit-flag (suc (suc n)) p = absurd (omega arith)

pub bit-lt : (b : Bool) → bit b < 2
bit-lt true = lit< tt
bit-lt false = lit< tt
