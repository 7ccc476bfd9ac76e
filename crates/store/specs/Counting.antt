-- Lists in which each number stands as often have the same length and the same numbers.
use Rattle.std.specs.Prelude.{◌≡◌, refl, Bool, true, false, ◌≢◌, ◌⊎◌, List, [], ◌∷◌, ◌++◌, ℕ, zero, suc, ◌+◌, ◌≤◌, ◌<◌, eqb, length}
use Rattle.std.proofs.Common.{sym, ap, ◌∙◌, inl, inr, not-suc-le-zero, arith, eq-eqb, ne_eqb, eqb-true}
use Rattle.store.specs.Counts.{one, is, occurs, numbers_from, numbers_to}
use Rattle.store.specs.Deciding.{told, le?}

pub is-self : (x : ℕ) → is x x ≡ 1
unfolding is
is-self x = rw (eq-eqb x x refl)

pub is-other : (x y : ℕ) → x ≢ y → is x y ≡ 0
unfolding is
is-other x y p = rw (ne_eqb x y p)

pub is_same : (x y : ℕ) → 1 ≤ is x y → x ≡ y
unfolding is
is_same x y p = go (eqb x y) refl p
  where
    go : (b : Bool) → eqb x y ≡ b → 1 ≤ one b → x ≡ y
    go true e q = eqb-true x y e
    go false e q = absurd (not-suc-le-zero q)

pub occurs-append : (x : ℕ) (L M : List ℕ) → occurs x (L ++ M) ≡ occurs x L + occurs x M
occurs-append x [] M = omega arith
occurs-append x (y ∷ L) M = omega (arith, occurs-append x L M)

-- one of two counts is there
pub either : (a b : ℕ) → 1 ≤ a + b → (1 ≤ a) ⊎ (1 ≤ b)
either zero b p = inr (omega arith)
either (suc a) b p = inl (omega arith)

-- ---- the numbers a, a + 1, ..

before : (x a n : ℕ) → x < a → occurs x (numbers_from a n) ≡ 0
before x a zero p = refl
before x a (suc n) p =
    let ne : x ≢ a = λ e. omega arith in
    let q : x < suc a = omega arith in
    omega (arith, is-other x a ne, before x (suc a) n q)

after : (x a n : ℕ) → a + n ≤ x → occurs x (numbers_from a n) ≡ 0
after x a zero p = refl
after x a (suc n) p =
    let ne : x ≢ a = λ e. omega arith in
    let q : suc a + n ≤ x = omega arith in
    omega (arith, is-other x a ne, after x (suc a) n q)

inside : (x a n : ℕ) → a ≤ x → x < a + n → occurs x (numbers_from a n) ≡ 1
inside x a zero p q = absurd (omega arith)
inside x a (suc n) p q = go (eqb x a) refl (inside x (suc a) n)
  where
    go : (b : Bool) → eqb x a ≡ b → (suc a ≤ x → x < suc a + n → occurs x (numbers_from (suc a) n) ≡ 1) → is x a + occurs x (numbers_from (suc a) n) ≡ 1
    go true e i = let g : x ≡ a = eqb-true x a e in omega (arith, ap (λ z. is z a) g, is-self a, before x (suc a) n (omega arith))
    go false e i =
        let ne : x ≢ a = λ g. absurd-true (sym e ∙ eq-eqb x a g) in
        omega (arith, is-other x a ne, i (omega arith) (omega arith))
      where
        absurd-true : false ≡ true → ⊥
        absurd-true h = let z : ◌≡◌ {A = ℕ} 0 1 = cc in omega arith

-- each of 1 to n stands there once, and no other
pub numbers-in : (x n : ℕ) → 1 ≤ x → x ≤ n → occurs x (numbers_to n) ≡ 1
numbers-in x n p q = inside x 1 n p (omega arith)

pub numbers-low : (n : ℕ) → occurs 0 (numbers_to n) ≡ 0
numbers-low n = before 0 1 n (omega arith)

pub numbers-high : (x n : ℕ) → n < x → occurs x (numbers_to n) ≡ 0
numbers-high x n p = after x 1 n (omega arith)

pub numbers-most : (x n : ℕ) → occurs x (numbers_to n) ≤ 1
numbers-most zero n = omega (arith, numbers-low n)
numbers-most (suc x) n = at (le? (suc x) n)
  where
    at : Dec (suc x ≤ n) → occurs (suc x) (numbers_to n) ≤ 1
    at (yes h) = omega (arith, numbers-in (suc x) n (omega arith) h)
    at (no h) = let q : n < suc x = omega arith in omega (arith, numbers-high (suc x) n q)

-- ---- as often, as long

record Rest (a : ℕ) (L : List ℕ) : Type 0 where
  rest : List ℕ
  long : length L ≡ suc (length rest)
  counts : (x : ℕ) → occurs x L ≡ is x a + occurs x rest

take_out : (a : ℕ) (L : List ℕ) → 1 ≤ occurs a L → Rest a L
take_out a [] p = absurd (not-suc-le-zero p)
take_out a (y ∷ L) p = go (either (is a y) (occurs a L) p) (take_out a L)
  where
    go : (1 ≤ is a y) ⊎ (1 ≤ occurs a L) → (1 ≤ occurs a L → Rest a L) → Rest a (y ∷ L)
    go (inl q) i = let e = is_same a y q in record { rest = L; long = refl; counts = λ x. ap (λ z. is x z + occurs x L) (sym e) }
    go (inr q) i = let r = i q in record { rest = y ∷ r.rest; long = ap suc r.long; counts = λ x. omega (arith, r.counts x) }

pub same_length : (L M : List ℕ) → ((x : ℕ) → occurs x L ≡ occurs x M) → length L ≡ length M
same_length [] [] h = refl
same_length [] (y ∷ M) h = absurd (omega (arith, h y, is-self y))
same_length (a ∷ L) M h =
    let r = take_out a M (omega (arith, h a, is-self a)) in
    ap suc (same_length L r.rest (λ x. omega (arith, h x, r.counts x))) ∙ sym r.long

pub numbers-length : (a n : ℕ) → length (numbers_from a n) ≡ n
numbers-length a zero = refl
numbers-length a (suc n) = ap suc (numbers-length (suc a) n)

-- whether each number stands as often in both can be told
same-empty : (y : ℕ) (M : List ℕ) → ((x : ℕ) → occurs x [] ≡ occurs x (y ∷ M)) → ⊥
same-empty y M h = omega (arith, h y, is-self y)

pub same? : (L M : List ℕ) → Dec ((x : ℕ) → occurs x L ≡ occurs x M)
same? [] [] = yes (λ x. refl)
same? [] (y ∷ M) = no (same-empty y M)
same? (a ∷ L) M = go (le? 1 (occurs a M)) (λ r. same? L r.rest)
  where
    go : Dec (1 ≤ occurs a M) → ((r : Rest a M) → Dec ((x : ℕ) → occurs x L ≡ occurs x r.rest)) → Dec ((x : ℕ) → occurs x (a ∷ L) ≡ occurs x M)
    go (yes p) i =
        let r = take_out a M p in
        told (i r) (λ h x. omega (arith, h x, r.counts x)) (λ h x. omega (arith, h x, r.counts x))
    go (no n) i = no (λ h. n (omega (arith, h a, is-self a)))
