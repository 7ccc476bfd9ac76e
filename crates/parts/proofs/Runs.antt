-- Bytes that do no more than join the record, taken at once: k of them are k steps.
use mathlib.Core.Path.{◌≡◌, refl, sym, ap, ap₂, ◌∙◌}
use mathlib.Core.List.{List, [], ◌∷◌}
use Prim.Native.Nat.{ℕ, suc, ◌+◌, ◌-◌, ◌*◌, ◌/◌, ◌%◌, ◌≤◌, ◌<◌}
use native.Mathlib.Omega.{arith}
use lib.ListN.{length, get_or, set, take, drop, length-set, length-drop}
use lib.Seq.{sets, set-get_or, set-set, set_comm, get_or-set_same, get_or-set_other, take_all, length-take-le}
use Rattle.parts.specs.declared.Verdict.{Verdict}
use Rattle.parts.specs.declared.Verdict.TheVariants.{More}
use Rattle.std.proofs.lemmas.List.{take-append-drop}
use Rattle.parts.specs.declared.Progress.{Progress}
use Rattle.parts.specs.Layout.{Running, count_of, held_of, verdict_of, joined, stepped, run, joins}
use Rattle.parts.proofs.Bounds.{most-64}
use Rattle.parts.proofs.Verdicts.{more-body}
use Rattle.parts.proofs.Doing.{Fits, more-shown, step-go}
use Rattle.parts.proofs.Parts.{run-append}

module _ (n a b : ℕ) where
  -- a head that fits leaves the record under way while bytes of its own are missing
  fits_more : Fits n a b → (h : ℕ) → 2 ≤ h → h - 2 < a % 32 * 256 + b → verdict_of n h a b ≡ More
  fits_more f h two p = more-body n h a b f.kind f.room f.high two f.low f.top p

  -- a record under way stays under way up to its last byte but one
  pub more-later : (h k : ℕ) → 2 ≤ h → verdict_of n h a b ≡ More → 2 ≤ k → k < b + 2 → verdict_of n k a b ≡ More
  more-later h k two e t p = let m = more-shown n h a b e two in fits_more m.0 k t (omega (arith, m.0.high))

  -- no record holds more than a head and 64 bytes
  pub more-short : (h : ℕ) → 2 ≤ h → verdict_of n h a b ≡ More → (h < b + 2) × (b ≤ 64)
  more-short h two e = let m = more-shown n h a b e two in let t = most-64 (a / 32) in (omega (arith, m.0.high, m.1), omega (arith, m.0.high, m.0.top))

module _ (s : List ℕ) where
  pub joins-less : (k j : ℕ) → j ≤ k → joins s k → joins s j
  joins-less k j h (z, c, t, v) =
      let q = more-short (count_of s) (get_or s 4 0) (get_or s 5 0) (held_of s + k) (omega arith) v in
      (z, c, t, more-later (count_of s) (get_or s 4 0) (get_or s 5 0) (held_of s + k) (held_of s + j) (omega arith) v (omega arith) (omega (arith, q.0)))

  pub joins-small : (k : ℕ) → joins s k → held_of s + k ≤ 65
  joins-small k (z, c, t, v) = let q = more-short (count_of s) (get_or s 4 0) (get_or s 5 0) (held_of s + k) (omega arith) v in omega (arith, q.0, q.1)

  -- the most that joins, by what the code reads
  pub joins-most : (p : Progress) (a b : ℕ) (v : Verdict) → Running s p → a ≡ get_or s 4 0 → b ≡ get_or s 5 0 → 2 ≤ p.held
      → v ≡ verdict_of p.levels (p.held + 1) a b → v ≡ More → (p.held ≤ b + 1) × joins s (b + 1 - p.held)
  joins-most p a b v r ea eb two e m =
      let q = more-short p.levels a b (p.held + 1) (omega arith) (sym e ∙ m) in
      let k : p.held + (b + 1 - p.held) ≡ b + 1 = omega (arith, q.0) in
      (omega (arith, q.0), (r.status, (rw r.levels at r.few), (rw r.held at two), rw (← r.levels, ← r.held, ← ea, ← eb, k) (more-later p.levels a b (p.held + 1) (b + 1) (omega arith) (sym e ∙ m) (omega (arith, q.0)) (omega arith))))

  module _ (x : ℕ) where
    -- what joins the record moves nothing before it but the count of bytes held
    before : 2 ≤ held_of s → (i : ℕ) → i < 6 → (i ≡ 3 → ⊥) → get_or (joined s x) i 0 ≡ get_or s i 0
    before t i h f =
        get_or-set_other (set s (4 + held_of s) x) 3 i (held_of s + 1) 0 f ∙ get_or-set_other s (4 + held_of s) i x 0 (λ e. omega arith)

    one_more : 3 < length s → held_of (joined s x) ≡ held_of s + 1
    one_more l = get_or-set_same (set s (4 + held_of s) x) 3 (held_of s + 1) 0 (omega (arith, length-set s (4 + held_of s) x))

    joins-step : joins s 1 → stepped s x ≡ joined s x
    joins-step (z, c, t, v) =
        let q = more-short (count_of s) (get_or s 4 0) (get_or s 5 0) (held_of s + 1) (omega arith) v in
        sym
        (step-go s x (record { levels = count_of s; held = held_of s }) (record { status = z; levels = refl; held = refl; few = c; short = omega (arith, q.0, q.1) }) (get_or s 4 0) (get_or s 5 0) More More
        (sym (before t 4 (omega arith) (λ e. omega arith))) (sym (before t 5 (omega arith) (λ e. omega arith))) (sym v) refl)

    joins-next : (k : ℕ) → 3 < length s → joins s (suc k) → joins (joined s x) k
    joins-next k l (z, c, t, v) =
        let e : held_of (joined s x) + k ≡ held_of s + suc k = omega (arith, one_more l) in
        let n : count_of (joined s x) ≡ count_of s = ap₂ (λ (u w : ℕ). u * 256 + w) (before t 1 (omega arith) (λ e. omega arith)) (before t 2 (omega arith) (λ e. omega arith)) in (
          before t 0 (omega arith) (λ e. omega arith) ∙ z,
          omega (arith, n),
          omega (arith, one_more l),
          rw (e, n, before t 4 (omega arith) (λ e. omega arith), before t 5 (omega arith) (λ e. omega arith)) v,
        )

sets_below : (s : List ℕ) (i at v : ℕ) (xs : List ℕ) → i < at → sets (set s i v) at xs ≡ set (sets s at xs) i v
sets_below s i at v [] h = refl
sets_below s i at v (x ∷ xs) h = ap (λ (z : List ℕ). sets z (suc at) xs) (set_comm s i at v x (λ e. omega arith)) ∙ sets_below (set s at x) i (suc at) v xs (omega arith)

-- the bytes joined to the record at once
abbrev pub joined_all : List ℕ → List ℕ → List ℕ
joined_all s xs = set (sets s (4 + held_of s) xs) 3 (held_of s + length xs)

all-next : (s : List ℕ) (x : ℕ) (xs : List ℕ) → 3 < length s → joined_all (joined s x) xs ≡ joined_all s (x ∷ xs)
all-next s x xs l =
    let e : 4 + (held_of s + 1) ≡ suc (4 + held_of s) = omega arith in
    let n : held_of s + 1 + length xs ≡ held_of s + suc (length xs) = omega arith in
    rw (one_more s x l, sets_below (set s (4 + held_of s) x) 3 (4 + (held_of s + 1)) (held_of s + 1) xs (omega arith), set-set, e, n)

-- k bytes short of its end are k steps
pub joined-run : (s xs : List ℕ) → 3 < length s → joins s (length xs) → run s xs ≡ joined_all s xs
joined-run s [] l j = let e : held_of s + 0 ≡ held_of s = omega arith in rw e (sym (set-get_or s 3 0))
joined-run s (x ∷ xs) l j =
    ap (λ (z : List ℕ). run z xs) (joins-step s x (joins-less s (suc (length xs)) 1 (omega arith) j))
    ∙ joined-run (joined s x) xs (omega (arith, length-set (set s (4 + held_of s) x) 3 (held_of s + 1), length-set s (4 + held_of s) x)) (joins-next s x (length xs) l j)
    ∙ all-next s x xs l

-- .. as the code takes the first k of x
pub run-joined : (s t x : List ℕ) (n k h : ℕ) → 3 < length s → joins s n → k ≤ n → k ≤ length x → h ≡ held_of s → t ≡ sets s (4 + h) (take k x) → set t 3 (h + k) ≡ run s (take k x)
run-joined s t x n k h l j p q eh e =
    let m : length (take k x) ≡ k = length-take-le k x q in
    sym (joined-run s (take k x) l (rw m (joins-less s n k p j)) ∙ rw (m, ← eh, e))

-- what is left of a part, after the bytes that join and one more
pub run-turn : (s t u x after : List ℕ) (k b : ℕ) → t ≡ run s (take k x) → take (length x - k) (drop k x) ≡ b ∷ after → u ≡ stepped t b
    → run s x ≡ run u after
run-turn s t u x after k b e h q =
    let d : drop k x ≡ b ∷ after = sym (take_all (length x - k) (drop k x) (omega (arith, length-drop k x))) ∙ h in
    sym (ap (run s) (take-append-drop k x)) ∙ run-append s (take k x) (drop k x) ∙ rw (← e, d, q)
