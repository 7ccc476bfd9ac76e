-- The laws of the order of keys: total, transitive, equal only of the same string; a prefix and what begins with it.
use Rattle.std.proofs.Common.{◌≡◌, ℕ, suc, ◌<◌, ◌≤◌, Bool, true, false, ◌&&◌, eqb, ltb, List, [], ◌∷◌, ◌++◌, length, get_or, take, drop, sym, refl, ap, ◌∙◌, ap₂, arith, ltb-false, ltb-true, le-ltb, lt-ltb, eq-eqb, ne_eqb, eqb-true}
use lib.Dec.{eqb-suc-suc, eqb-zero-suc}
use Rattle.std.specs.declared.cmp.Ordering.{Ordering}
use Rattle.std.specs.declared.cmp.Ordering.TheVariants.{Less, Equal, Greater}
use Rattle.key_order.specs.Order.{Key, pick, cmp, is_prefix_of, common, is_same, is_below}

-- ---- answers

abbrev pub turn : Ordering → Ordering
turn Less = Greater
turn Equal = Equal
turn Greater = Less

pub lt≢eq : {o : Ordering} → o ≡ Less → o ≡ Equal → ⊥
lt≢eq h k = let z : ◌≡◌ {A = ℕ} 0 1 = cc in omega arith

pub lt≢gt : {o : Ordering} → o ≡ Less → o ≡ Greater → ⊥
lt≢gt h k = let z : ◌≡◌ {A = ℕ} 0 1 = cc in omega arith

pub gt≢eq : {o : Ordering} → o ≡ Greater → o ≡ Equal → ⊥
gt≢eq h k = let z : ◌≡◌ {A = ℕ} 0 1 = cc in omega arith

pub true≢false : true ≡ false → ⊥
true≢false h = let z : ◌≡◌ {A = ℕ} 0 1 = cc in omega arith

-- ---- the first bytes decide unless they are the same

pub data Heads (x y : ℕ) : Type 0 where
  below : x < y → Heads x y
  same : x ≡ y → Heads x y
  above : y < x → Heads x y

pub heads : (x y : ℕ) → Heads x y
heads x y = at (ltb x y) (ltb y x) refl refl
  where
    at : (a b : Bool) → ltb x y ≡ a → ltb y x ≡ b → Heads x y
    at true b p q = below (ltb-true x y p)
    at false true p q = above (ltb-true y x q)
    at false false p q = same (omega (arith, ltb-false x y p, ltb-false y x q))

pub head-below : (x y : ℕ) (xs ys : Key) → x < y → cmp (x ∷ xs) (y ∷ ys) ≡ Less
unfolding cmp
head-below x y xs ys h = rw (lt-ltb x y h)

pub head-above : (x y : ℕ) (xs ys : Key) → y < x → cmp (x ∷ xs) (y ∷ ys) ≡ Greater
unfolding cmp
head-above x y xs ys h = let le : y ≤ x = omega arith in rw (le-ltb x y le, lt-ltb y x h)

pub head-same : (x y : ℕ) (xs ys : Key) → x ≡ y → cmp (x ∷ xs) (y ∷ ys) ≡ cmp xs ys
unfolding cmp
head-same x y xs ys h = let le : y ≤ x = omega arith in let ge : x ≤ y = omega arith in rw (le-ltb x y le, le-ltb y x ge)

-- ---- the order

pub cmp-refl : (a : Key) → cmp a a ≡ Equal
unfolding cmp
cmp-refl [] = refl
cmp-refl (x ∷ xs) = head-same x x xs xs refl ∙ cmp-refl xs

pub cmp-eq : (a b : Key) → cmp a b ≡ Equal → a ≡ b
unfolding cmp
cmp-eq [] [] h = refl
cmp-eq [] (y ∷ ys) h = cc
cmp-eq (x ∷ xs) [] h = cc
cmp-eq (x ∷ xs) (y ∷ ys) h = at (heads x y) (cmp-eq xs ys)
  where
    at : Heads x y → (cmp xs ys ≡ Equal → xs ≡ ys) → x ∷ xs ≡ y ∷ ys
    at (below l) ih = absurd (lt≢eq (head-below x y xs ys l) h)
    at (same e) ih = ap₂ {C = List ℕ} ◌∷◌ e (ih (sym (head-same x y xs ys e) ∙ h))
    at (above g) ih = absurd (gt≢eq (head-above x y xs ys g) h)

pub cmp-turn : (a b : Key) → cmp b a ≡ turn (cmp a b)
unfolding cmp
cmp-turn [] [] = refl
cmp-turn [] (y ∷ ys) = refl
cmp-turn (x ∷ xs) [] = refl
cmp-turn (x ∷ xs) (y ∷ ys) = at (heads x y) (cmp-turn xs ys)
  where
    at : Heads x y → cmp ys xs ≡ turn (cmp xs ys) → cmp (y ∷ ys) (x ∷ xs) ≡ turn (cmp (x ∷ xs) (y ∷ ys))
    at (below l) ih = head-above y x ys xs l ∙ sym (ap turn (head-below x y xs ys l))
    at (same e) ih = head-same y x ys xs (sym e) ∙ (ih ∙ sym (ap turn (head-same x y xs ys e)))
    at (above g) ih = head-below y x ys xs g ∙ sym (ap turn (head-above x y xs ys g))

pub cmp-trans : (a b c : Key) → cmp a b ≡ Less → cmp b c ≡ Less → cmp a c ≡ Less
unfolding cmp
cmp-trans [] [] c h k = cc
cmp-trans (x ∷ xs) [] c h k = cc
cmp-trans a (y ∷ ys) [] h k = cc
cmp-trans [] (y ∷ ys) (z ∷ zs) h k = refl
cmp-trans (x ∷ xs) (y ∷ ys) (z ∷ zs) h k = at (heads x y) (heads y z) (cmp-trans xs ys zs)
  where
    at : Heads x y → Heads y z → (cmp xs ys ≡ Less → cmp ys zs ≡ Less → cmp xs zs ≡ Less) → cmp (x ∷ xs) (z ∷ zs) ≡ Less
    at (above g) q ih = absurd (lt≢gt h (head-above x y xs ys g))
    at (below l) (above g) ih = absurd (lt≢gt k (head-above y z ys zs g))
    at (same e) (above g) ih = absurd (lt≢gt k (head-above y z ys zs g))
    at (below l) (below m) ih = head-below x z xs zs (omega arith)
    at (below l) (same e) ih = head-below x z xs zs (omega arith)
    at (same e) (below m) ih = head-below x z xs zs (omega arith)
    at (same e) (same f) ih =
        head-same x z xs zs (e ∙ f) ∙ ih (sym (head-same x y xs ys e) ∙ h) (sym (head-same y z ys zs f) ∙ k)

pub gt-lt : (a b : Key) → cmp a b ≡ Greater → cmp b a ≡ Less
gt-lt a b h = cmp-turn a b ∙ ap turn h

pub lt-gt : (a b : Key) → cmp a b ≡ Less → cmp b a ≡ Greater
lt-gt a b h = cmp-turn a b ∙ ap turn h

-- not below
abbrev pub NotLt : Key → Key → Type 0
NotLt k j = cmp k j ≡ Less → ⊥

-- what is below a key that is not above `k` is below `k`
pub not_lt-gt : (k e x : Key) → NotLt k e → cmp x e ≡ Less → cmp k x ≡ Greater
not_lt-gt k e x h p = lt-gt x k (at (cmp k e) refl)
  where
    at : (o : Ordering) → cmp k e ≡ o → cmp x k ≡ Less
    at Less q = absurd (h q)
    at Equal q = rw (cmp-eq k e q) p
    at Greater q = cmp-trans x e k p (gt-lt k e q)

pub gt-not_lt : (k e : Key) → cmp k e ≡ Greater → NotLt k e
gt-not_lt k e h q = lt≢gt q h

pub eq-not_lt : (k e : Key) → cmp k e ≡ Equal → NotLt k e
eq-not_lt k e h q = lt≢eq q h

-- ---- prefixes: `is_prefix_of p x` says that x is p and then some string

pub both_true : (a b : Bool) → (a && b) ≡ true → (a ≡ true) × (b ≡ true)
both_true true b h = (refl, h)
both_true false b h = absurd (true≢false (sym h))

pub begins-front : (p y : Key) → is_prefix_of p (p ++ y) ≡ true
unfolding is_prefix_of
begins-front [] y = refl
begins-front (a ∷ p) y = rw (eq-eqb a a refl) (begins-front p y)

pub front-begins : (p x : Key) → is_prefix_of p x ≡ true → (y : Key) × (x ≡ p ++ y)
unfolding is_prefix_of
front-begins [] x h = (x, refl)
front-begins (a ∷ p) [] h = absurd (true≢false (sym h))
front-begins (a ∷ p) (b ∷ x) h =
    let k = both_true (eqb a b) (is_prefix_of p x) h in
    let r = front-begins p x k.1 in
    (r.0, ap₂ {C = List ℕ} ◌∷◌ (sym (eqb-true a b k.0)) r.1)

pub begins-refl : (p : Key) → is_prefix_of p p ≡ true
unfolding is_prefix_of
begins-refl [] = refl
begins-refl (a ∷ p) = rw (eq-eqb a a refl) (begins-refl p)

-- a prefix is not above what begins with it
pub begins-le : (p x : Key) → is_prefix_of p x ≡ true → NotLt x p
unfolding is_prefix_of cmp
begins-le [] [] h q = lt≢eq q refl
begins-le [] (b ∷ x) h q = lt≢gt q refl
begins-le (a ∷ p) [] h q = true≢false (sym h)
begins-le (a ∷ p) (b ∷ x) h q =
    let k = both_true (eqb a b) (is_prefix_of p x) h in
    begins-le p x k.1 (sym (head-same b a x p (sym (eqb-true a b k.0))) ∙ q)

-- what lies between a prefix and a key that begins with it begins with it
pub begins-between : (p x y : Key) → cmp p x ≡ Less → cmp x y ≡ Less → is_prefix_of p y ≡ true → is_prefix_of p x ≡ true
unfolding is_prefix_of cmp
begins-between [] x y h k b = refl
begins-between (a ∷ p) [] y h k b = absurd (lt≢gt h refl)
begins-between (a ∷ p) (c ∷ x) [] h k b = absurd (lt≢gt k refl)
begins-between (a ∷ p) (c ∷ x) (d ∷ y) h k b = at (heads a c) (both_true (eqb a d) (is_prefix_of p y) b) (begins-between p x y)
  where
    at : Heads a c → (eqb a d ≡ true) × (is_prefix_of p y ≡ true) → (cmp p x ≡ Less → cmp x y ≡ Less → is_prefix_of p y ≡ true → is_prefix_of p x ≡ true) → is_prefix_of (a ∷ p) (c ∷ x) ≡ true
    at (above g) w ih = absurd (lt≢gt h (head-above a c p x g))
    at (below l) w ih = let e : a ≡ d = eqb-true a d w.0 in absurd (lt≢gt k (head-above c d x y (omega arith)))
    at (same e) w ih =
        let f : a ≡ d = eqb-true a d w.0 in
        rw (eq-eqb a c e) (ih (sym (head-same a c p x e) ∙ h) (sym (head-same c d x y (sym e ∙ f)) ∙ k) w.1)

-- ---- where two keys part

pub common-same : (x y : ℕ) (xs ys : Key) → x ≡ y → common (x ∷ xs) (y ∷ ys) ≡ suc (common xs ys)
unfolding common
common-same x y xs ys h = rw (eq-eqb x y h)

pub common-other : (x y : ℕ) (xs ys : Key) → (x ≡ y → ⊥) → common (x ∷ xs) (y ∷ ys) ≡ 0
unfolding common
common-other x y xs ys h = rw (ne_eqb x y h)

pub common-nil : (a : Key) → common a [] ≡ 0
unfolding common
common-nil [] = refl
common-nil (x ∷ xs) = refl

-- the same in either order
pub common-turn : (a b : Key) → common a b ≡ common b a
unfolding common
common-turn [] [] = refl
common-turn [] (y ∷ ys) = refl
common-turn (x ∷ xs) [] = refl
common-turn (x ∷ xs) (y ∷ ys) = at (heads x y) (common-turn xs ys)
  where
    at : Heads x y → common xs ys ≡ common ys xs → common (x ∷ xs) (y ∷ ys) ≡ common (y ∷ ys) (x ∷ xs)
    at (below l) ih = common-other x y xs ys (λ e. omega arith) ∙ sym (common-other y x ys xs (λ e. omega arith))
    at (same e) ih = common-same x y xs ys e ∙ (ap suc ih ∙ sym (common-same y x ys xs (sym e)))
    at (above g) ih = common-other x y xs ys (λ e. omega arith) ∙ sym (common-other y x ys xs (λ e. omega arith))

-- at most either length
pub common-le : (a b : Key) → common a b ≤ length a
unfolding common
common-le [] b = omega arith
common-le (x ∷ xs) [] = omega arith
common-le (x ∷ xs) (y ∷ ys) = at (heads x y) (common-le xs ys)
  where
    at : Heads x y → common xs ys ≤ length xs → common (x ∷ xs) (y ∷ ys) ≤ suc (length xs)
    at (below l) ih = omega (arith, common-other x y xs ys (λ e. omega arith))
    at (same e) ih = omega (arith, common-same x y xs ys e)
    at (above g) ih = omega (arith, common-other x y xs ys (λ e. omega arith))

-- fronts of that length are equal
pub common-take : (a b : Key) → take (common a b) a ≡ take (common a b) b
unfolding common
common-take [] b = refl
common-take (x ∷ xs) [] = refl
common-take (x ∷ xs) (y ∷ ys) = at (heads x y) (common-take xs ys)
  where
    at : Heads x y → take (common xs ys) xs ≡ take (common xs ys) ys → take (common (x ∷ xs) (y ∷ ys)) (x ∷ xs) ≡ take (common (x ∷ xs) (y ∷ ys)) (y ∷ ys)
    at (below l) ih = rw (common-other x y xs ys (λ e. omega arith))
    at (same e) ih = rw (common-same x y xs ys e) (ap₂ {C = List ℕ} ◌∷◌ e ih)
    at (above g) ih = rw (common-other x y xs ys (λ e. omega arith))

-- what stands after them decides the order
pub common-rest : (a b : Key) → cmp a b ≡ cmp (drop (common a b) a) (drop (common a b) b)
unfolding common
common-rest [] b = refl
common-rest (x ∷ xs) [] = refl
common-rest (x ∷ xs) (y ∷ ys) = at (heads x y) (common-rest xs ys)
  where
    at : Heads x y → cmp xs ys ≡ cmp (drop (common xs ys) xs) (drop (common xs ys) ys)
        → cmp (x ∷ xs) (y ∷ ys) ≡ cmp (drop (common (x ∷ xs) (y ∷ ys)) (x ∷ xs)) (drop (common (x ∷ xs) (y ∷ ys)) (y ∷ ys))
    at (below l) ih = rw (common-other x y xs ys (λ e. omega arith))
    at (same e) ih = rw (common-same x y xs ys e) (head-same x y xs ys e ∙ ih)
    at (above g) ih = rw (common-other x y xs ys (λ e. omega arith))

-- equal keys agree in all of their bytes
pub common-equal : (a : Key) → common a a ≡ length a
unfolding common
common-equal [] = refl
common-equal (x ∷ xs) = common-same x x xs xs refl ∙ ap suc (common-equal xs)

-- to begin with p is to agree with p in all of its bytes
pub begins-common : (p x : Key) → is_prefix_of p x ≡ eqb (common x p) (length p)
unfolding is_prefix_of common
begins-common [] [] = refl
begins-common [] (b ∷ x) = refl
begins-common (a ∷ p) [] = sym (eqb-zero-suc (length p))
begins-common (a ∷ p) (b ∷ x) = at (heads a b) (begins-common p x)
  where
    at : Heads a b → is_prefix_of p x ≡ eqb (common x p) (length p) → is_prefix_of (a ∷ p) (b ∷ x) ≡ eqb (common (b ∷ x) (a ∷ p)) (suc (length p))
    at (below l) ih = rw (common-other b a x p (λ e. omega arith), ne_eqb a b (λ e. omega arith)) (sym (eqb-zero-suc (length p)))
    at (same e) ih = rw (common-same b a x p (sym e), eq-eqb a b e) (ih ∙ sym (eqb-suc-suc (common x p) (length p)))
    at (above g) ih = rw (common-other b a x p (λ e. omega arith), ne_eqb a b (λ e. omega arith)) (sym (eqb-zero-suc (length p)))

-- right after them one string ends or the bytes differ, and that alone decides the order
pub data Parts (a b : Key) (n : ℕ) : Type 0 where
  both_end : n ≡ length a → n ≡ length b → cmp a b ≡ Equal → Parts a b n
  first_ends : n ≡ length a → n < length b → cmp a b ≡ Less → Parts a b n
  second-ends : n < length a → n ≡ length b → cmp a b ≡ Greater → Parts a b n
  less : n < length a → n < length b → get_or a n 0 < get_or b n 0 → cmp a b ≡ Less → Parts a b n
  more : n < length a → n < length b → get_or b n 0 < get_or a n 0 → cmp a b ≡ Greater → Parts a b n

parts-later : {x y : ℕ} {xs ys : Key} {n : ℕ} → x ≡ y → Parts xs ys n → Parts (x ∷ xs) (y ∷ ys) (suc n)
parts-later {x} {y} {xs} {ys} e (both_end p q o) = both_end (ap suc p) (ap suc q) (head-same x y xs ys e ∙ o)
parts-later {x} {y} {xs} {ys} e (first_ends p q o) = first_ends (ap suc p) (omega arith) (head-same x y xs ys e ∙ o)
parts-later {x} {y} {xs} {ys} e (second-ends p q o) = second-ends (omega arith) (ap suc q) (head-same x y xs ys e ∙ o)
parts-later {x} {y} {xs} {ys} e (less p q h o) = less (omega arith) (omega arith) h (head-same x y xs ys e ∙ o)
parts-later {x} {y} {xs} {ys} e (more p q h o) = more (omega arith) (omega arith) h (head-same x y xs ys e ∙ o)

pub common-parts : (a b : Key) → Parts a b (common a b)
unfolding cmp common
common-parts [] [] = both_end refl refl refl
common-parts [] (y ∷ ys) = first_ends refl (omega arith) refl
common-parts (x ∷ xs) [] = second-ends (omega arith) refl refl
common-parts (x ∷ xs) (y ∷ ys) = at (heads x y) (common-parts xs ys)
  where
    at : Heads x y → Parts xs ys (common xs ys) → Parts (x ∷ xs) (y ∷ ys) (common (x ∷ xs) (y ∷ ys))
    at (below l) ih = rw (common-other x y xs ys (λ e. omega arith)) (less (omega arith) (omega arith) l (head-below x y xs ys l))
    at (same e) ih = rw (common-same x y xs ys e) (parts-later e ih)
    at (above g) ih = rw (common-other x y xs ys (λ e. omega arith)) (more (omega arith) (omega arith) g (head-above x y xs ys g))

-- ---- the two tests

pub same_refl : (a : Key) → is_same a a ≡ true
same_refl a = rw (cmp-refl a)

pub same-eq : (a b : Key) → is_same a b ≡ true → a ≡ b
same-eq a b h = cmp-eq a b (at (cmp a b) h)
  where
    at : (o : Ordering) → pick o false true false ≡ true → o ≡ Equal
    at Less e = absurd (true≢false (sym e))
    at Equal e = refl
    at Greater e = absurd (true≢false (sym e))

pub below_less : (a b : Key) → is_below a b ≡ true → cmp a b ≡ Less
below_less a b h = at (cmp a b) h
  where
    at : (o : Ordering) → pick o true false false ≡ true → o ≡ Less
    at Less e = refl
    at Equal e = absurd (true≢false (sym e))
    at Greater e = absurd (true≢false (sym e))

-- the second comes before the first
pub below-turn : (a b : Key) → is_below b a ≡ pick (cmp a b) false false true
below-turn a b = rw (cmp-turn a b) (at (cmp a b))
  where
    at : (o : Ordering) → pick (turn o) true false false ≡ pick o false false true
    at Less = refl
    at Equal = refl
    at Greater = refl
