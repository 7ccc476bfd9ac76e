-- Bytes compared many at a time, as one number.
use Rattle.std.proofs.Common.{◌≡◌, ℕ, nat_cmp, zero, suc, ◌+◌, ◌-◌, ◌*◌, ◌/◌, ◌^◌, ◌<◌, ◌≤◌, ◌⊎◌, List, length, get_or, sym, refl, ap, ◌∙◌, subst, inl, inr, add-zero, add-suc, div-lt_iff_lt-mul, eq-zero-or-pos, pow-suc, le-div_iff_mul-le, add-one, arith, pow_pos, pow_mono, pow-add}
use native.Mathlib.Decide.{dec_lt}
use lib.Bits.{bit_xor, xor_add_and, and_le_l, and_le_r, xor_self, xor_shr, xor_lt}
use lib.Count.{count_leading_zeros, leading_top}
use Rattle.std.specs.declared.cmp.Ordering.TheVariants.{Less, Greater}
use Rattle.key_order.specs.Order.{cmp, common}
use Rattle.key_order.specs.Words.{word}
use Rattle.key_order.proofs.Comparing.{Upto, ranked, at_less, at_more, at_same, parts_at}

-- ---- eight bytes, spelled out

pub word-eight : (s : List ℕ) (i : ℕ)
    → word s i 8
    ≡ get_or s i 0 * 0x100_0000_0000_0000 + get_or s (i + 1) 0 * 0x1_0000_0000_0000 + get_or s (i + 2) 0 * 0x100_0000_0000
    + get_or s (i + 3) 0 * 0x1_0000_0000 + get_or s (i + 4) 0 * 0x100_0000 + get_or s (i + 5) 0 * 0x1_0000 + get_or s (i + 6) 0 * 0x100
    + get_or s (i + 7) 0
unfolding word
word-eight s i = let e : get_or s (i + 0) 0 ≡ get_or s i 0 = ap (λ (j : ℕ). get_or s j 0) (add-zero i) in omega (arith, e)

-- ---- two unlike numbers part in the byte where their difference has its first one

bytes_bits : (n : ℕ) → 256 ^ n ≡ 2 ^ (8 * n)
bytes_bits zero = refl
bytes_bits (suc n) =
    let e : 8 * n + 8 ≡ 8 * suc n = omega arith in
    pow-suc 256 n ∙ (ap (λ (x : ℕ). x * 256) (bytes_bits n) ∙ (sym (pow-add 2 (8 * n) 8) ∙ ap (λ (k : ℕ). 2 ^ k) e))

xor-none : (a b : ℕ) → bit_xor a b ≡ 0 → a ≡ b
xor-none a b e = omega (arith, e, xor_add_and a b, and_le_l a b, and_le_r a b)

pub parts_in : (p q : ℕ) → p < 2 ^ 64 → q < 2 ^ 64 → (p ≡ q → ⊥) → (r : ℕ) → r ≡ count_leading_zeros 64 (bit_xor p q) / 8
    → (r < 8) × (p / 256 ^ (8 - r) ≡ q / 256 ^ (8 - r)) × (p / 256 ^ (7 - r) ≡ q / 256 ^ (7 - r) → ⊥)
parts_in p q hp hq ne r er = (
  omega (arith, t.1),
  rw (bytes_bits (8 - r)) (xor-none _ _ (sym (xor_shr p q (8 * (8 - r))) ∙ above)),
  (λ e. below (xor_shr p q (8 * (7 - r)) ∙ (ap (λ (y : ℕ). bit_xor y (q / 2 ^ (8 * (7 - r)))) (rw (bytes_bits (7 - r)) at e) ∙ xor_self (q / 2 ^ (8 * (7 - r)))))),
)
  where
    x : ℕ
    x = bit_xor p q

    some : 0 < x
    some = at (eq-zero-or-pos x)
      where
        at : (x ≡ 0) ⊎ (0 < x) → 0 < x
        at (inl e) = absurd (ne (xor-none p q e))
        at (inr h) = h

    t : (j : ℕ) × (count_leading_zeros 64 x + suc j ≡ 64) × (2 ^ j ≤ x) × (x < 2 ^ suc j)
    t = leading_top 64 x some (xor_lt 64 p q hp hq)

    above : x / 2 ^ (8 * (8 - r)) ≡ 0
    above =
        let h : x < 1 * 2 ^ (8 * (8 - r)) = omega (arith, t.3, pow_mono {i = suc t.0} {j = 8 * (8 - r)} (omega (arith, t.1))) in
        omega (arith, (div-lt_iff_lt-mul {k = 2 ^ (8 * (8 - r))} {x = x} {y = 1} (pow_pos (8 * (8 - r)))).1 h)

    below : x / 2 ^ (8 * (7 - r)) ≡ 0 → ⊥
    below e =
        let h : 1 * 2 ^ (8 * (7 - r)) ≤ x = omega (arith, t.2, pow_mono {i = 8 * (7 - r)} {j = t.0} (omega (arith, t.1))) in
        omega (arith, e, (le-div_iff_mul-le {k = 2 ^ (8 * (7 - r))} {x = 1} {y = x} (pow_pos (8 * (7 - r)))).1 h)

-- ---- the first r bytes of eight, and the byte after them

front : (s : List ℕ) (i : ℕ) → ((j : ℕ) → get_or s j 0 < 256) → (r : ℕ) → r ≤ 8 → word s i 8 / 256 ^ (8 - r) ≡ word s i r
unfolding word
front s i f zero h = omega (arith, f (i + 0), f (i + 1), f (i + 2), f (i + 3), f (i + 4), f (i + 5), f (i + 6), f (i + 7))
front s i f (suc zero) h = omega (arith, f (i + 0), f (i + 1), f (i + 2), f (i + 3), f (i + 4), f (i + 5), f (i + 6), f (i + 7))
front s i f (suc (suc zero)) h = omega (arith, f (i + 0), f (i + 1), f (i + 2), f (i + 3), f (i + 4), f (i + 5), f (i + 6), f (i + 7))
front s i f (suc (suc (suc zero))) h = omega (arith, f (i + 0), f (i + 1), f (i + 2), f (i + 3), f (i + 4), f (i + 5), f (i + 6), f (i + 7))
front s i f (suc (suc (suc (suc zero)))) h = omega (arith, f (i + 0), f (i + 1), f (i + 2), f (i + 3), f (i + 4), f (i + 5), f (i + 6), f (i + 7))
front s i f (suc (suc (suc (suc (suc zero))))) h = omega (arith, f (i + 0), f (i + 1), f (i + 2), f (i + 3), f (i + 4), f (i + 5), f (i + 6), f (i + 7))
front s i f (suc (suc (suc (suc (suc (suc zero)))))) h = omega (arith, f (i + 0), f (i + 1), f (i + 2), f (i + 3), f (i + 4), f (i + 5), f (i + 6), f (i + 7))
front s i f (suc (suc (suc (suc (suc (suc (suc zero))))))) h = omega (arith, f (i + 0), f (i + 1), f (i + 2), f (i + 3), f (i + 4), f (i + 5), f (i + 6), f (i + 7))
front s i f (suc (suc (suc (suc (suc (suc (suc (suc zero)))))))) h = omega (arith, f (i + 0), f (i + 1), f (i + 2), f (i + 3), f (i + 4), f (i + 5), f (i + 6), f (i + 7))
front s i f (suc (suc (suc (suc (suc (suc (suc (suc (suc r))))))))) h = absurd (omega arith)

next-byte : (a b : List ℕ) (i r : ℕ) → word a i r ≡ word b i r → get_or a (i + r) 0 ≡ get_or b (i + r) 0 → word a i (suc r) ≡ word b i (suc r)
unfolding word
next-byte a b i r e g = omega (arith, e, g)

pub parting : (a b : List ℕ) (fa : (k : ℕ) → get_or a k 0 < 256) (fb : (k : ℕ) → get_or b k 0 < 256) (i r : ℕ) → r < 8
    → word a i 8 / 256 ^ (8 - r) ≡ word b i 8 / 256 ^ (8 - r) → (word a i 8 / 256 ^ (7 - r) ≡ word b i 8 / 256 ^ (7 - r) → ⊥)
    → (word a i r ≡ word b i r) × (get_or a (i + r) 0 ≡ get_or b (i + r) 0 → ⊥)
parting a b fa fb i r l h n =
    let e : word a i r ≡ word b i r = sym (front a i fa r (omega arith)) ∙ (h ∙ front b i fb r (omega arith)) in
    let u : 8 - suc r ≡ 7 - r = omega arith in (
      e,
      (λ g. n (ap (λ (k : ℕ). word a i 8 / 256 ^ k) (sym u) ∙ (front a i fa (suc r) (omega arith) ∙ (next-byte a b i r e g ∙ (sym (front b i fb (suc r) (omega arith)) ∙ ap (λ (k : ℕ). word b i 8 / 256 ^ k) u))))),
    )

-- ---- n bytes that are less, more or the same

pub record Says (a b : List ℕ) (i n : ℕ) : Type 0 where
  pub less : word a i n < word b i n → Less ≡ cmp a b
  pub more : word b i n < word a i n → Greater ≡ cmp a b
  pub same : word a i n ≡ word b i n → Upto a b (i + n)

module _ (a b : List ℕ) (fa : (k : ℕ) → get_or a k 0 < 256) (fb : (k : ℕ) → get_or b k 0 < 256) (i : ℕ) (p : Upto a b i) where
  module _ (n : ℕ) (la : i + n < length a) (lb : i + n < length b) (q : Says a b i n) where
    next-less : Dec (word a i n < word b i n) → word a i (suc n) < word b i (suc n) → Less ≡ cmp a b
    unfolding word
    next-less (yes d) h = q.less d
    next-less (no d) h =
        let e : word a i n ≡ word b i n = omega (arith, h, d, fa (i + n), fb (i + n)) in
        at_less (q.same e) la lb (omega (arith, h, e))

    next_more : Dec (word b i n < word a i n) → word b i (suc n) < word a i (suc n) → Greater ≡ cmp a b
    unfolding word
    next_more (yes d) h = q.more d
    next_more (no d) h =
        let e : word a i n ≡ word b i n = omega (arith, h, d, fa (i + n), fb (i + n)) in
        at_more (q.same e) la lb (omega (arith, h, e))

    next-same : word a i (suc n) ≡ word b i (suc n) → Upto a b (i + suc n)
    unfolding word
    next-same h =
        let e : word a i n ≡ word b i n = omega (arith, h, fa (i + n), fb (i + n)) in
        let r : (i + n) + 1 ≡ i + suc n = add-one (i + n) ∙ sym (add-suc i n) in
        subst (Upto a b) r (at_same (q.same e) la lb (omega (arith, h, e)) (omega (arith, h, e)))

  pub says : (n : ℕ) → i + n ≤ length a → i + n ≤ length b → Says a b i n
  unfolding word
  says zero la lb =
      record { less = λ h. absurd (omega (arith, h)); more = λ h. absurd (omega (arith, h)); same = λ h. subst (Upto a b) (sym (add-zero i)) p }
  says (suc n) la lb =
      let la' : i + n < length a = omega arith in
      let lb' : i + n < length b = omega arith in
      let q = says n (omega arith) (omega arith) in
      record {
        less = next-less n la' lb' q (dec_lt (word a i n) (word b i n));
        more = next_more n la' lb' q (dec_lt (word b i n) (word a i n));
        same = next-same n la' lb' q;
      }

-- ---- eight bytes that are not the same

pub unlike : (a b : List ℕ) (fa : (k : ℕ) → get_or a k 0 < 256) (fb : (k : ℕ) → get_or b k 0 < 256) (i p q r : ℕ) → Upto a b i
    → i + 8 ≤ length a → i + 8 ≤ length b → p ≡ word a i 8 → q ≡ word b i 8
    → (r < 8) × (p / 256 ^ (8 - r) ≡ q / 256 ^ (8 - r)) × (p / 256 ^ (7 - r) ≡ q / 256 ^ (7 - r) → ⊥) → i + r ≡ common a b
unlike a b fa fb i p q r u la lb ea eb h =
    let l : r < 8 = h.0 in
    let at : (k : ℕ) → p / k ≡ word a i 8 / k = λ k. ap (λ (x : ℕ). x / k) ea in
    let bt : (k : ℕ) → q / k ≡ word b i 8 / k = λ k. ap (λ (x : ℕ). x / k) eb in
    let t = parting a b fa fb i r l (sym (at (256 ^ (8 - r))) ∙ (h.1 ∙ bt (256 ^ (8 - r)))) (λ e. h.2 (at (256 ^ (7 - r)) ∙ (e ∙ sym (bt (256 ^ (7 - r)))))) in
    parts_at ((says a b fa fb i u r (omega arith) (omega arith)).same t.0) (omega arith) (omega arith) t.1

pub unlike-order : (a b : List ℕ) (fa : (k : ℕ) → get_or a k 0 < 256) (fb : (k : ℕ) → get_or b k 0 < 256) (i p q : ℕ) → Upto a b i
    → i + 8 ≤ length a → i + 8 ≤ length b → p ≡ word a i 8 → q ≡ word b i 8 → (p ≡ q → ⊥) → nat_cmp p q ≡ cmp a b
unlike-order a b fa fb i p q u la lb ea eb ne =
    let s = says a b fa fb i u 8 la lb in
    ranked p q (dec_lt p q) (dec_lt q p) (λ l. s.less (omega (arith, ea, eb, l))) (λ e. absurd (ne e)) (λ g. s.more (omega (arith, ea, eb, g)))
