-- A comparison of two strings, as far as it has come.
use Rattle.std.proofs.Common.{◌≡◌, ℕ, nat_cmp, suc, ◌+◌, ◌<◌, ◌≤◌, List, [], length, get_or, drop, sym, refl, ap, ◌∙◌, ap₂, add-one, arith, drop-cons, le-ltb, lt-ltb}
use native.Mathlib.Decide.{dec_lt}
use lib.Seq.{drop-length}
use Rattle.std.specs.Cmp.{nat_cmp_is}
use Rattle.std.specs.declared.cmp.Ordering.TheVariants.{Less, Equal, Greater}
use Rattle.key_order.specs.Order.{cmp, common, compared}
use Rattle.std.specs.declared.cmp.Ordering.{Ordering}
use Rattle.key_order.specs.declared.Compared.{Compared}
use Rattle.key_order.proofs.Laws.{common-same, common-other, common-nil}

-- the first i bytes are the same
pub record Upto (a b : List ℕ) (i : ℕ) : Type 0 where
  pub in-a : i ≤ length a
  pub in_b : i ≤ length b
  pub rest : cmp a b ≡ cmp (drop i a) (drop i b)
  pub agree : common a b ≡ i + common (drop i a) (drop i b)

drop-end : (a : List ℕ) (i : ℕ) → i ≡ length a → drop i a ≡ []
drop-end a i e = ap (λ (n : ℕ). drop n a) e ∙ drop-length a

-- an order of two numbers, by cases
pub ranked : (x y : ℕ) {o : Ordering} → Dec (x < y) → Dec (y < x) → (x < y → Less ≡ o) → (x ≡ y → Equal ≡ o) → (y < x → Greater ≡ o) → nat_cmp x y ≡ o
ranked x y (yes d) t l e g = sym (nat_cmp_is x y Less d) ∙ l d
ranked x y (no d) (yes t) l e g = sym (nat_cmp_is x y Greater t) ∙ g t
ranked x y (no d) (no t) l e g = sym (nat_cmp_is x y Equal (omega arith)) ∙ e (omega arith)

module _ {a b : List ℕ} {i : ℕ} (p : Upto a b i) where
  pub ends-both : i ≡ length a → i ≡ length b → Equal ≡ cmp a b
  unfolding cmp
  ends-both ea eb = sym (p.rest ∙ rw (drop-end a i ea, drop-end b i eb) refl)

  pub ends-a : i ≡ length a → (i ≡ length b → ⊥) → Less ≡ cmp a b
  unfolding cmp
  ends-a ea nb =
      let lb : i < length b = omega (arith, p.in_b) in
      sym (p.rest ∙ rw (drop-end a i ea, drop-cons b i 0 lb) refl)

  pub ends-b : (i ≡ length a → ⊥) → i ≡ length b → Greater ≡ cmp a b
  unfolding cmp
  ends-b na eb =
      let la : i < length a = omega (arith, p.in-a) in
      sym (p.rest ∙ rw (drop-end b i eb, drop-cons a i 0 la) refl)

  module _ (la : i < length a) (lb : i < length b) where
    pub at_less : get_or a i 0 < get_or b i 0 → Less ≡ cmp a b
    unfolding cmp
    at_less lt = sym (p.rest ∙ rw (drop-cons a i 0 la, drop-cons b i 0 lb, lt-ltb (get_or a i 0) (get_or b i 0) lt) refl)

    pub at_more : get_or b i 0 < get_or a i 0 → Greater ≡ cmp a b
    unfolding cmp
    at_more lt =
        let le : get_or b i 0 ≤ get_or a i 0 = omega arith in
        sym (p.rest ∙ rw (drop-cons a i 0 la, drop-cons b i 0 lb, le-ltb (get_or a i 0) (get_or b i 0) le, lt-ltb (get_or b i 0) (get_or a i 0) lt) refl)

    pub at_same : get_or b i 0 ≤ get_or a i 0 → get_or a i 0 ≤ get_or b i 0 → Upto a b (i + 1)
    unfolding cmp
    at_same le ge =
        let e : get_or a i 0 ≡ get_or b i 0 = omega arith in
        let d : common (drop i a) (drop i b) ≡ suc (common (drop (suc i) a) (drop (suc i) b)) =
        rw (drop-cons a i 0 la, drop-cons b i 0 lb) (common-same (get_or a i 0) (get_or b i 0) (drop (suc i) a) (drop (suc i) b) e) in
        let more : common a b ≡ (i + 1) + common (drop (i + 1) a) (drop (i + 1) b) = rw (add-one i) (omega (arith, p.agree, d)) in
        record {
          in-a = omega arith;
          in_b = omega arith;
          rest = p.rest ∙ rw (add-one i, drop-cons a i 0 la, drop-cons b i 0 lb, le-ltb (get_or a i 0) (get_or b i 0) le, le-ltb (get_or b i 0) (get_or a i 0) ge) refl;
          agree = more;
        }

    pub parts_at : (get_or a i 0 ≡ get_or b i 0 → ⊥) → i ≡ common a b
    parts_at ne =
        let d : common (drop i a) (drop i b) ≡ 0 =
        rw (drop-cons a i 0 la, drop-cons b i 0 lb) (common-other (get_or a i 0) (get_or b i 0) (drop (suc i) a) (drop (suc i) b) ne) in
        omega (arith, p.agree, d)

    pub parts_here : (get_or a i 0 ≡ get_or b i 0 → ⊥) → nat_cmp (get_or a i 0) (get_or b i 0) ≡ cmp a b
    parts_here ne =
        let x = get_or a i 0 in
        let y = get_or b i 0 in
        ranked x y (dec_lt x y) (dec_lt y x) at_less (λ e. absurd (ne e)) at_more

  pub parts-a : i ≡ length a → i ≡ common a b
  unfolding common
  parts-a ea =
      let d : common (drop i a) (drop i b) ≡ 0 = rw (drop-end a i ea) refl in
      omega (arith, p.agree, d)

  pub parts-b : i ≡ length b → i ≡ common a b
  parts-b eb =
      let d : common (drop i a) (drop i b) ≡ 0 = rw (drop-end b i eb) (common-nil (drop i a)) in
      omega (arith, p.agree, d)

-- where the shorter one ends and no byte differed
module _ {a b : List ℕ} {n : ℕ} (p : Upto a b n) (ea : (length a ≤ length b) → n ≡ length a) (eb : (length b ≤ length a) → n ≡ length b) where
  pub ends : nat_cmp (length a) (length b) ≡ cmp a b
  ends =
      ranked (length a) (length b) (dec_lt (length a) (length b)) (dec_lt (length b) (length a))
      (λ l. ends-a p (ea (omega arith)) (λ e. omega (arith, e, l, ea (omega arith))))
      (λ e. ends-both p (ea (omega arith)) (eb (omega arith)))
      (λ g. ends-b p (λ e. omega (arith, e, g, eb (omega arith))) (eb (omega arith)))

  pub ends-agree : n ≡ common a b
  ends-agree = by_end (dec_lt (length a) (length b))
    where
      by_end : Dec (length a < length b) → n ≡ common a b
      by_end (yes l) = parts-a p (ea (omega arith))
      by_end (no l) = parts-b p (eb (omega arith))

pub both : (a b : List ℕ) {o : Ordering} {n : ℕ} → o ≡ cmp a b → n ≡ common a b → ◌≡◌ {A = Compared} (record { order = o; agree = n }) (compared a b)
both a b p q = ap₂ {C = Compared} (λ o n. record { order = o; agree = n }) p q
