-- The schedule's words, and sixteen of them in a ring. Lists that a loop fills from the front.
use Rattle.std.proofs.Common.{◌≡◌, ℕ, zero, suc, ◌+◌, ◌-◌, ◌%◌, ◌<◌, ◌≤◌, Bool, true, false, not, T, leb, List, [], ◌∷◌, ◌++◌, length, get_or, take, set, sym, refl, ap, ◌∙◌, subst, ap₂, add-zero, add-suc, add-one, arith, leb→le, length-append, length-set, get_or-set_other, get_or-set_same, take-suc-set}
use lib.Dec.{nleb→lt}
use lib.ListN.{get_or-append}
use lib.Seq.{get_or_at}
use Rattle.sha256_words.specs.Words.{ADD, σ₀, σ₁}
use Rattle.sha256_words.specs.Constants.{K}
use Rattle.sha256_block.specs.Rounds.{Round, Rounds, next, schedule}
use Rattle.sha256_block.specs.Ring.{W, Ring, Worked}
use Rattle.sha256_block.specs.declared.Eight.{Eight}

-- one store more: the first t + 1 elements are the first t and what was stored
pub snoc : (w : List ℕ) (t v : ℕ) {xs : List ℕ} {y : ℕ} → t < length w → take t w ≡ xs → v ≡ y
    → take (t + 1) (set w t v) ≡ xs ++ (y ∷ [])
snoc w t v h p q = rw add-one (take-suc-set w t v h ∙ ap₂ (λ (l : List ℕ) (x : ℕ). l ++ (x ∷ [])) p q)

length-schedule : (n : ℕ) (m : List ℕ) → length (schedule n m) ≡ length m + n
unfolding schedule
length-schedule zero m = sym (add-zero (length m))
length-schedule (suc n) m = length-append (schedule n m) (next (schedule n m) ∷ []) ∙ omega (arith, length-schedule n m)

-- words after the first n do not change them
front : (k n : ℕ) (m : List ℕ) (i : ℕ) → i < length m + n → get_or (schedule (n + k) m) i 0 ≡ get_or (schedule n m) i 0
unfolding schedule
front zero n m i h = rw add-zero
front (suc k) n m i h =
    rw add-suc
    (get_or-append (schedule (n + k) m) (next (schedule (n + k) m) ∷ []) 0 i (omega (arith, length-schedule (n + k) m))
    ∙ front k n m i h)

front-48 : (n : ℕ) (m : List ℕ) (i : ℕ) → n ≤ 48 → i < length m + n → get_or (schedule n m) i 0 ≡ W m i
front-48 n m i h k =
    let e : n + (48 - n) ≡ 48 = omega arith in
    sym (front (48 - n) n m i k) ∙ ap (λ (x : ℕ). get_or (schedule x m) i 0) e

first : (m : List ℕ) (i : ℕ) → i < length m → get_or m i 0 ≡ W m i
unfolding schedule
first m i h = front-48 0 m i (omega arith) (omega arith)

last : (n : ℕ) (m : List ℕ) (t : ℕ) → length (schedule n m) ≡ t → get_or (schedule (suc n) m) t 0 ≡ next (schedule n m)
unfolding schedule
last n m t e = get_or_at (schedule n m) (next (schedule n m)) [] 0 t e

next-is : (s : List ℕ) (t : ℕ) → length s ≡ t + 16
    → next s ≡ ADD (ADD (ADD (σ₁ (get_or s (t + 14) 0)) (get_or s (t + 9) 0)) (σ₀ (get_or s (t + 1) 0))) (get_or s t 0)
unfolding next
next-is s t l =
    let a₂ : length s - 2 ≡ t + 14 = omega arith in
    let a₇ : length s - 7 ≡ t + 9 = omega arith in
    let a₁₅ : length s - 15 ≡ t + 1 = omega arith in
    let a₁₆ : length s - 16 ≡ t = omega arith in
    rw (a₂, a₇, a₁₅, a₁₆)

sum : {a a' b b' c c' d d' : ℕ} → a ≡ a' → b ≡ b' → c ≡ c' → d ≡ d'
    → ADD (ADD (ADD (σ₁ a) b) (σ₀ c)) d ≡ ADD (ADD (ADD (σ₁ a') b') (σ₀ c')) d'
sum p q r s = cc

-- section 6.2.2, step 1: what the word sixteen places on is
after : (m : List ℕ) (t : ℕ) → length m ≡ 16 → t < 48
    → W m (t + 16) ≡ ADD (ADD (ADD (σ₁ (W m (t + 14))) (W m (t + 9))) (σ₀ (W m (t + 1)))) (W m t)
after m t h k =
    let l : length (schedule t m) ≡ t + 16 = length-schedule t m ∙ omega arith in
    let w : (i : ℕ) → i < t + 16 → get_or (schedule t m) i 0 ≡ W m i = λ i p. front-48 t m i (omega arith) (omega arith) in
    sym (front-48 (suc t) m (t + 16) (omega arith) (omega arith)) ∙ last t m (t + 16) l ∙ next-is (schedule t m) t l
    ∙ sum (w (t + 14) (omega arith)) (w (t + 9) (omega arith)) (w (t + 1) (omega arith)) (w t (omega arith))

start : (m : List ℕ) → length m ≡ 16 → Ring m m 0
start m h =
    record { block = h; size = h; at = λ n p q. (let e : n % 16 ≡ n = omega arith in ap (λ (x : ℕ). get_or m x 0) e ∙ first m n (omega arith)) }

turned : (m w : List ℕ) (t v : ℕ) → Ring m w t → v ≡ W m (t + 16) → (n : ℕ) (b : Bool) → leb (t + 16) n ≡ b
    → suc t ≤ n → n < suc t + 16 → get_or (set w (t % 16) v) (n % 16) 0 ≡ W m n
turned m w t v r q n true f a b =
    let h : t + 16 ≤ n = leb→le (t + 16) n (subst T (sym f) tt) in
    let g : n % 16 ≡ t % 16 = omega arith in
    let o : t + 16 ≡ n = omega arith in
    ap (λ (x : ℕ). get_or (set w (t % 16) v) x 0) g ∙ get_or-set_same w (t % 16) v 0 (omega (arith, r.size)) ∙ q ∙ ap (W m) o
turned m w t v r q n false f a b =
    let h : n < t + 16 = nleb→lt (t + 16) n (subst (λ (x : Bool). T (not x)) (sym f) tt) in
    get_or-set_other w (t % 16) (n % 16) v 0 (λ g. omega arith) ∙ r.at n (omega arith) h

-- the oldest word gives way to the next
turn : (m w : List ℕ) (t v : ℕ) → Ring m w t → v ≡ W m (t + 16) → Ring m (set w (t % 16) v) (suc t)
turn m w t v r q =
    record { block = r.block; size = length-set w (t % 16) v ∙ r.size; at = λ n. turned m w t v r q n (leb (t + 16) n) refl }

pub begin : (m : List ℕ) (S : Eight) → length m ≡ 16 → Worked m S m S 0 0
unfolding Rounds
begin m S h = record { ring = start m h; state = refl }

-- one round more: its word is among the sixteen
used : (m : List ℕ) (S : Eight) (k w : List ℕ) (s s' : Eight) (p t : ℕ) → Worked m S w s p t → p ≤ t → t < p + 16 → k ≡ K
    → s' ≡ Round (get_or k t 0) (get_or w (t % 16) 0) s → s' ≡ Rounds (suc t) (schedule 48 m) S
unfolding Rounds
used m S k w s s' p t d a b h e =
    e ∙ ap (λ (l : List ℕ). Round (get_or l t 0) (get_or w (t % 16) 0) s) h ∙ ap₂ (Round (get_or K t 0)) (d.ring.at t a b) d.state

-- the word is worked over
pub stepped : {m : List ℕ} {S : Eight} {k w w' : List ℕ} {s s' : Eight} (t : ℕ) → Worked m S w s t t → t < 48 → k ≡ K
    → s' ≡ Round (get_or k t 0) (get_or w (t % 16) 0) s
    → w' ≡ set w (t % 16) (ADD (ADD (ADD (σ₁ (get_or w ((t + 14) % 16) 0)) (get_or w ((t + 9) % 16) 0)) (σ₀ (get_or w ((t + 1) % 16) 0))) (get_or w (t % 16) 0))
    → Worked m S w' s' (suc t) (suc t)
stepped {m} {S} {k} {w} {w'} {s} {s'} t d b h e f =
    let r : Ring m w t = d.ring in
    let x : (n : ℕ) → t ≤ n → n < t + 16 → get_or w (n % 16) 0 ≡ W m n = r.at in
    let q = sum (x (t + 14) (omega arith) (omega arith)) (x (t + 9) (omega arith) (omega arith)) (x (t + 1) (omega arith) (omega arith)) (x t (omega arith) (omega arith)) in
    record {
      ring = subst (λ (l : List ℕ). Ring m l (suc t)) (sym f) (turn m w t _ r (q ∙ sym (after m t r.block b)));
      state = used m S k w s s' t t d (omega arith) (omega arith) h e;
    }

-- the last rounds: a word is used and stays
pub lasted : {m : List ℕ} {S : Eight} {k w : List ℕ} {s s' : Eight} (t : ℕ) → Worked m S w s 48 t → 48 ≤ t → t < 64 → k ≡ K
    → s' ≡ Round (get_or k t 0) (get_or w (t % 16) 0) s → Worked m S w s' 48 (suc t)
lasted {m} {S} {k} {w} {s} {s'} t d a b h e = record { ring = d.ring; state = used m S k w s s' 48 t d a (omega arith) h e }

-- the same round by another form of its number
pub at_round : {m : List ℕ} {S : Eight} {w : List ℕ} {s : Eight} {t : ℕ} (n : ℕ) → n ≡ t → Worked m S w s t t → Worked m S w s n n
at_round n e d = rw e d
