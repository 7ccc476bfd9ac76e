-- The rule of the sixty-four round constants and the eight start values, by one test that antt computes over the table.
use mathlib.Core.Path.{◌≡◌, refl, sym}
use mathlib.Core.Bool.{Bool, true, false}
use mathlib.Core.List.{List, [], ◌∷◌}
use Prim.Native.Nat.{ℕ, zero, suc, ◌+◌, ◌-◌, ◌*◌, ◌%◌, ◌^◌, ◌≤◌, ◌<◌}
use lib.Dec.{T, leb, ltb, eqb, leb→le, le→leb, ltb→lt, eqb→eq}
use native.Mathlib.Omega.{arith}
use native.Mathlib.Decide.{ℕ_discrete}
use lib.Pow.{low as low-digits}
use lib.ListN.{length, get_or}
use Rattle.sha256_words.proofs.Table.{both-both, both_left, both_right, every, at}
use Rattle.sha256_words.specs.Constants.{K, H⁰}
use Rattle.sha256_words.specs.Roots.{Prime, both, unless, alone?, prime?, primes_below, Root}

-- the first sixty-four primes
abbrev pub primes : List ℕ
primes =
    2 ∷ 3 ∷ 5 ∷ 7 ∷ 11 ∷ 13 ∷ 17 ∷ 19 ∷ 23 ∷ 29 ∷ 31 ∷ 37 ∷ 41 ∷ 43 ∷ 47 ∷ 53 ∷ 59 ∷ 61 ∷ 67 ∷ 71 ∷ 73 ∷ 79 ∷ 83 ∷ 89 ∷ 97 ∷ 101 ∷ 103 ∷ 107 ∷ 109 ∷ 113 ∷ 127 ∷ 131 ∷ 137 ∷ 139 ∷ 149 ∷ 151 ∷ 157 ∷ 163 ∷ 167 ∷ 173 ∷ 179 ∷ 181 ∷ 191 ∷ 193 ∷ 197 ∷ 199 ∷ 211 ∷ 223 ∷ 227 ∷ 229 ∷ 233 ∷ 239 ∷ 241 ∷ 251 ∷ 257 ∷ 263 ∷ 269 ∷ 271 ∷ 277 ∷ 281 ∷ 283 ∷ 293 ∷ 307 ∷ 311 ∷ []

pub primes-are : primes ≡ primes_below 312
unfolding primes_below prime? alone?
primes-are = refl

-- the whole part of p's root of degree k, for p below 7 ^ k
abbrev whole : ℕ → ℕ → ℕ
whole k p = from 6
  where
    one : Bool → ℕ
    one true = 1
    one false = 0

    from : ℕ → ℕ
    from zero = 0
    from (suc n) = from n + one (leb (suc n ^ k) p)

-- the root of p that has the word c
abbrev root : ℕ → ℕ → ℕ → ℕ
root k p c = whole k p * 2 ^ 32 + c

abbrev rule? : ℕ → ℕ → ℕ → Bool
rule? k p c = both (ltb c (2 ^ 32)) (both (leb (root k p c ^ k) (p * 2 ^ (32 * k))) (ltb (p * 2 ^ (32 * k)) ((root k p c + 1) ^ k)))

-- the test passes at each word of a table and the prime at its place
abbrev right : ℕ → List ℕ → Bool
right k = every (λ i c. rule? k (get_or primes i 0) c) 0

rule-sound : (k p c : ℕ) → T (rule? k p c) → Root k p c
rule-sound k p c t =
    let C : ℕ = root k p c in
    let A : Bool = ltb c (2 ^ 32) in
    let L : Bool = leb (C ^ k) (p * 2 ^ (32 * k)) in
    let H : Bool = ltb (p * 2 ^ (32 * k)) ((C + 1) ^ k) in
    let u : T (both L H) = both_right A (both L H) t in
    record { C = C; low = leb→le (C ^ k) (p * 2 ^ (32 * k)) (both_left L H u); high = ltb→lt (p * 2 ^ (32 * k)) ((C + 1) ^ k) (both_right L H u); word = sym (low-digits (whole k p) 32 (ltb→lt c (2 ^ 32) (both_left A (both L H) t))) }

table-rule : (k : ℕ) (xs : List ℕ) → T (right k xs) → (i : ℕ) → i < length xs → Root k (get_or (primes_below 312) i 0) (get_or xs i 0)
table-rule k xs t i h =
    rw (← primes-are) (rule-sound k (get_or primes i 0) (get_or xs i 0) (at (λ i c. rule? k (get_or primes i 0) c) xs t i h))

-- section 4.2.2: the sixty-four constants are the cube roots' words of the first sixty-four primes
pub K-rule : (i : ℕ) → i < 64 → Root 3 (get_or (primes_below 312) i 0) (get_or K i 0)
unfolding K
K-rule i h = table-rule 3 K tt i h

-- section 5.3.3: the eight words of the initial hash value are the square roots' words of the first eight primes
pub H⁰-rule : (i : ℕ) → i < 8 → Root 2 (get_or (primes_below 312) i 0) (get_or H⁰ i 0)
unfolding H⁰
H⁰-rule i h = table-rule 2 H⁰ tt i h

-- prime? is right: it passes at the primes, and only there

unless-test : (b a : Bool) → T (unless b a) → T b → ⊥
unless-test true a t u = t
unless-test false a t u = u

unless-rest : (b a : Bool) → T (unless b a) → T a
unless-rest true a t = absurd t
unless-rest false a t = t

unless-both : (b a : Bool) → (T b → ⊥) → T a → T (unless b a)
unless-both true a h t = absurd (h tt)
unless-both false a h t = t

alone-sound : (n k : ℕ) → T (alone? n k) → (d : ℕ) → d < k → n % (d + 2) ≡ 0 → ⊥
unfolding alone?
alone-sound n zero t d h e = omega arith
alone-sound n (suc k) t d h e =
    elim (ℕ_discrete d k) [
      | yes same ↦
          (let f : n % (k + 2) ≡ 0 = rw (← same) e in
          unless-test (eqb (n % (k + 2)) 0) (alone? n k) t (rw f tt))
      | no other ↦ alone-sound n k (unless-rest (eqb (n % (k + 2)) 0) (alone? n k) t) d (omega arith) e
    ]

alone-complete : (n k : ℕ) → ((d : ℕ) → d < k → n % (d + 2) ≡ 0 → ⊥) → T (alone? n k)
unfolding alone?
alone-complete n zero h = tt
alone-complete n (suc k) h =
    unless-both (eqb (n % (k + 2)) 0) (alone? n k) (λ t. h k (omega arith) (eqb→eq (n % (k + 2)) 0 t))
    (alone-complete n k (λ d l. h d (omega arith)))

pub prime-sound : (n : ℕ) → T (prime? n) → Prime n
unfolding prime?
prime-sound n t =
    let two : 2 ≤ n = leb→le 2 n (both_left (leb 2 n) (alone? n (n - 2)) t) in
    let u : T (alone? n (n - 2)) = both_right (leb 2 n) (alone? n (n - 2)) t in
    record { two = two; alone = λ d l h e. alone-sound n (n - 2) u (d - 2) (omega arith) (let f : d - 2 + 2 ≡ d = omega arith in rw f e) }

pub prime-complete : (n : ℕ) → Prime n → T (prime? n)
unfolding prime?
prime-complete n p =
    both-both (leb 2 n) (alone? n (n - 2)) (le→leb 2 n p.two)
    (alone-complete n (n - 2) (λ d h e. p.alone (d + 2) (omega arith) (omega arith) e))
