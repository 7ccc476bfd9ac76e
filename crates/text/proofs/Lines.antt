-- The steps of the functions on parts and words, over plain lists.
use mathlib.Core.Path.{◌≡◌, refl, sym, ap, ◌∙◌}
use mathlib.Core.Bool.{Bool, true, false, cond}
use mathlib.Core.List.{List}
use Prim.Native.Nat.{ℕ, zero, suc, ◌+◌, ◌-◌, ◌≤◌, ◌<◌}
use native.Mathlib.Numerals.{add-one}
use native.Mathlib.Omega.{arith}
use lib.Dec.{eqb}
use borrow.Author.Tests.{eq-eqb, ne_eqb, eqb-true, eqb-false}
use lib.ListN.{length, take, drop, length-drop}
use lib.Seq.{take_all}
use Rattle.std.proofs.Common.{◌≢◌}
use Rattle.std.proofs.lemmas.Iterator.{index_from_first}
use Rattle.std.specs.List.{AllWithin, HoldsAt}
use Rattle.std.specs.Option.{MatchOption, unwrap_or}
use Rattle.std.specs.Prelude.{Option, Some, None}
use Rattle.text.specs.Words.{same_bytes, zeros_before, index_of, index_after, place_of, skip_of, words_of, start_of, word_of, has_words, index_from}
use Rattle.text.proofs.Splitting.{word_split, ends_by, goes_on}

-- ---- places

pub from_on : (s : List ℕ) (from : ℕ) → take (length s - from) (drop from s) ≡ drop from s
from_on s from = take_all (length s - from) (drop from s) (simp length-drop (omega arith))

-- the first b, as `position` finds it
pub index_found : (b : ℕ) (xs : List ℕ) (r : Option ℕ) → MatchOption r (AllWithin (λ x. x ≢ b) xs 0 (length xs)) (λ i. (i < length xs) × HoldsAt (λ x. x ≡ b) xs i × AllWithin (λ x. x ≢ b) xs 0 i) → index_of b xs ≡ unwrap_or r (length xs)
unfolding index_of index_after
index_found b xs r h =
    index_from_first (index_of b) (λ x. x ≡ b) (λ x. x ≢ b) refl
    (λ x ys e. rw (eq-eqb x b e) refl)
    (λ x ys e. rw (ne_eqb x b e) (sym (add-one (index_of b ys))))
    xs r h

-- the first that is no zero
pub zeros_found : (xs : List ℕ) (r : Option ℕ) → MatchOption r (AllWithin (λ x. x ≡ 0) xs 0 (length xs)) (λ i. (i < length xs) × HoldsAt (λ x. x ≢ 0) xs i × AllWithin (λ x. x ≡ 0) xs 0 i) → zeros_before xs ≡ unwrap_or r (length xs)
unfolding zeros_before
zeros_found xs r h =
    index_from_first zeros_before (λ x. x ≢ 0) (λ x. x ≡ 0) refl
    (λ x ys e. rw (ne_eqb x 0 e) refl)
    (λ x ys e. rw (eq-eqb x 0 e) (sym (add-one (zeros_before ys))))
    xs r h

-- ---- words

module _ (line : List ℕ) (k : ℕ) where
  pub start_first : (r : ℕ) → r ≡ skip_of line 0 → r ≡ start_of line 0
  unfolding start_of
  start_first r h = h

  pub start-next : (at f r : ℕ) → at ≡ start_of line k → f ≡ place_of line at 0 → r ≡ skip_of line f → r ≡ start_of line (k + 1)
  unfolding start_of
  start-next at f r h hf hr =
      hr ∙ ap (skip_of line) (hf ∙ ap (λ (n : ℕ). place_of line n 0) h) ∙ sym (ap (start_of line) (add-one k))

  pub word_cut : (a e : ℕ) → a ≡ start_of line k → e ≡ place_of line a 0 → take (e - a) (drop a line) ≡ word_of line k
  word_cut a e h g =
      let n : e - a ≡ index_of 0 (drop a line) = omega arith in
      ap (λ (m : ℕ). take m (drop a line)) n ∙ ap (λ (b : ℕ). take (index_of 0 (drop b line)) (drop b line)) h ∙ word_split line k

same_test : (a b c d : ℕ) → (a ≡ b → c ≡ d) → ((a ≡ b → ⊥) → c ≡ d → ⊥) → eqb a b ≡ eqb c d
same_test a b c d f g = at (eqb a b) refl
  where
    at : (t : Bool) → eqb a b ≡ t → t ≡ eqb c d
    at true q = sym (eq-eqb c d (f (eqb-true a b q)))
    at false q = sym (ne_eqb c d (g (eqb-false a b q)))

module _ (line : List ℕ) (n : ℕ) where
  pub has-none : (r : ℕ) → n ≡ 0 → r ≡ start_of line 0 → eqb r (length line) ≡ has_words line n
  has-none r e h =
      same_test r (length line) (length (words_of line)) n
      (λ p. omega (arith, e, ends_by line 0 (sym h ∙ p)))
      (λ p q. omega (arith, e, q, goes_on line 0 (λ x. p (h ∙ x))))

  pub has-fewer : (r : ℕ) → (n ≡ 0 → ⊥) → r ≡ start_of line (n - 1) → r ≡ length line → false ≡ has_words line n
  has-fewer r ne h e =
      let l : length (words_of line) ≤ n - 1 = ends_by line (n - 1) (sym h ∙ e) in
      sym (ne_eqb (length (words_of line)) n (λ q. ne (omega (arith, l, q))))

  pub has-so-many : (r t : ℕ) → (n ≡ 0 → ⊥) → r ≡ start_of line (n - 1) → (r ≡ length line → ⊥) → t ≡ start_of line n → eqb t (length line) ≡ has_words line n
  has-so-many r t ne h e g =
      let l : n - 1 < length (words_of line) = goes_on line (n - 1) (λ x. e (h ∙ x)) in
      same_test t (length line) (length (words_of line)) n
      (λ p. omega (arith, l, ends_by line n (sym g ∙ p)))
      (λ p q. omega (arith, q, goes_on line n (λ x. p (g ∙ x))))

-- the first of n words from i on, as `find` finds it
pub index_first : (table name : List ℕ) (i n e : ℕ) → e ≡ i + n → (r : Option ℕ) → MatchOption r ((k : ℕ) → i ≤ k → k < e → same_bytes (word_of table k) name ≡ false) (λ j. (i ≤ j) × (j < e) × (same_bytes (word_of table j) name ≡ true) × ((k : ℕ) → i ≤ k → k < j → same_bytes (word_of table k) name ≡ false)) → r ≡ index_from table name i n
unfolding index_from
index_first table name i zero e z None h = refl
index_first table name i zero e z (Some j) h = absurd (omega (arith, h.0, h.1))
index_first table name i (suc n) e z None h =
    rw (h i (omega arith) (omega arith)) (index_first table name (suc i) n e (omega arith) None (λ k a b. h k (omega arith) (omega arith)))
index_first table name i (suc n) e z (Some j) h = at (eqb i j) refl (λ q l. index_first table name (suc i) n e (omega arith) (Some j) (l, omega (arith, h.1), h.2, λ k a b. h.3 k (omega arith) b))
  where
    at : (t : Bool) → eqb i j ≡ t → (i ≢ j → suc i ≤ j → Some j ≡ index_from table name (suc i) n) → Some j ≡ cond (same_bytes (word_of table i) name) (Some i) (index_from table name (suc i) n)
    at true t f = let q : i ≡ j = eqb-true i j t in rw (q, h.2) refl
    at false t f =
        let q : i ≢ j = eqb-false i j t in
        let l : suc i ≤ j = omega (arith, q, h.0) in
        rw (h.3 i (omega arith) l) (f q l)
