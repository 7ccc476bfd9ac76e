-- The laws of a record: what `record_of` says, read back as facts; the same at a place of a slice, in the code's words.
use Prim.Native.Nat.{ℕ, zero, suc, ◌+◌, ◌-◌, ◌*◌, ◌/◌, ◌%◌, ◌<◌, ◌≤◌}
use Rattle.std.specs.Prelude.{Option, Some, None, cond}
use mathlib.Core.Path.{◌≡◌, refl, sym, ap, ap₂, ◌∙◌}
use mathlib.Core.Bool.{Bool, true, false}
use mathlib.Core.List.{List, [], ◌∷◌, ◌++◌}
use native.Mathlib.Omega.{arith}
use native.Mathlib.Nat.{add-zero, not-suc-le-zero}
use lib.ListN.{length, take, drop, get_or, length-append, length-drop, take-append-drop}
use lib.Seq.{get_or-drop, length-take-le}
use lib.Dec.{eqb, lit<}
use Rattle.std.proofs.Common.{le-ltb}
use borrow.Author.Tests.{leb-true, leb-false, ltb-true, ltb-false}
use Rattle.hash_tree.specs.declared.Record.{Record}
use Rattle.hash_tree.specs.Written.{piece, max_label, max_value, digest_len}
use Rattle.hash_tree.specs.declared.Kind.{Kind}
use Rattle.hash_tree.specs.declared.Kind.TheVariants.{Empty, Fork, Labeled, Leaf, Pruned}
use Rattle.hash_tree.specs.Record.{kind_number, kind_at, kind_of_number, whole_record, pick_nat, record_of, Opens, kind_of, len_of, least, most}
use Rattle.hash_tree.specs.Parse.{Bytes}

-- kinds and their numbers
pub numbered : (k : ℕ) → k < 5 → kind_number (kind_at k) ≡ k
numbered zero h = refl
numbered (suc zero) h = refl
numbered (suc (suc zero)) h = refl
numbered (suc (suc (suc zero))) h = refl
numbered (suc (suc (suc (suc zero)))) h = refl
numbered (suc (suc (suc (suc (suc k))))) h = absurd (omega arith)

pub kind-back : (kind : Kind) → kind_at (kind_number kind) ≡ kind
kind-back Empty = refl
kind-back Fork = refl
kind-back Labeled = refl
kind-back Leaf = refl
kind-back Pruned = refl

pub number_lt : (kind : Kind) → kind_number kind < 5
number_lt Empty = omega arith
number_lt Fork = omega arith
number_lt Labeled = omega arith
number_lt Leaf = omega arith
number_lt Pruned = omega arith

pub is_fork : (kind : Kind) → kind_number kind ≡ 1 → kind ≡ Fork
is_fork Empty e = absurd (omega (arith, e))
is_fork Fork e = refl
is_fork Labeled e = absurd (omega (arith, e))
is_fork Leaf e = absurd (omega (arith, e))
is_fork Pruned e = absurd (omega (arith, e))

pub is_labeled : (kind : Kind) → kind_number kind ≡ 2 → kind ≡ Labeled
is_labeled Empty e = absurd (omega (arith, e))
is_labeled Fork e = absurd (omega (arith, e))
is_labeled Labeled e = refl
is_labeled Leaf e = absurd (omega (arith, e))
is_labeled Pruned e = absurd (omega (arith, e))

-- a number with a kind, and one without
pub with_kind : (k : ℕ) (kind : Kind) → kind_of_number k ≡ Some kind → (k < 5) × (kind_at k ≡ kind)
with_kind zero kind e = (omega arith, cc)
with_kind (suc zero) kind e = (omega arith, cc)
with_kind (suc (suc zero)) kind e = (omega arith, cc)
with_kind (suc (suc (suc zero))) kind e = (omega arith, cc)
with_kind (suc (suc (suc (suc zero)))) kind e = (omega arith, cc)
with_kind (suc (suc (suc (suc (suc k))))) kind e =
    let above : None ≡ Some kind = rw (le-ltb (suc (suc (suc (suc (suc k))))) 5 (omega arith)) at e in
    let z : ◌≡◌ {A = ℕ} 0 1 = cc in
    absurd (omega arith)

pub no_kind : (k : ℕ) → kind_of_number k ≡ None → k < 5 → ⊥
no_kind zero e h = let z : ◌≡◌ {A = ℕ} 0 1 = cc in omega arith
no_kind (suc zero) e h = let z : ◌≡◌ {A = ℕ} 0 1 = cc in omega arith
no_kind (suc (suc zero)) e h = let z : ◌≡◌ {A = ℕ} 0 1 = cc in omega arith
no_kind (suc (suc (suc zero))) e h = let z : ◌≡◌ {A = ℕ} 0 1 = cc in omega arith
no_kind (suc (suc (suc (suc zero)))) e h = let z : ◌≡◌ {A = ℕ} 0 1 = cc in omega arith
no_kind (suc (suc (suc (suc (suc k))))) e h = omega arith

-- a record of xs, by what it is
pub data View (xs : List ℕ) : Option Record → Type 0 where
  whole : Opens xs → View xs (whole_record (kind_of xs) (len_of xs))
  bad : (Opens xs → ⊥) → View xs None

module _ (xs : List ℕ) where
  test : (t : Bool) (x : Option Record) → (t ≡ true → View xs x) → (t ≡ false → Opens xs → ⊥) → View xs (cond t x None)
  test true x h g = h refl
  test false x h g = bad (g refl)

  pub view : View xs (record_of xs)
  unfolding record_of
  view =
      test _ _ (λ a. test _ _ (λ b. test _ _ (λ c. test _ _ (λ d. test _ _
      (λ e. whole (record { two = leb-true _ _ a; kind = ltb-true _ _ b; low = leb-true _ _ c; high = leb-true _ _ d; body = leb-true _ _ e }))
      (λ f o. omega (arith, leb-false)))
      (λ f o. omega (arith, leb-false)))
      (λ f o. omega (arith, leb-false)))
      (λ f o. omega (arith, ltb-false)))
      (λ f o. omega (arith, leb-false))

  is_whole : (r : Option Record) → View xs r → Opens xs → r ≡ whole_record (kind_of xs) (len_of xs)
  is_whole r (whole o) h = refl
  is_whole r (bad f) h = absurd (f h)

  is-bad : (r : Option Record) → View xs r → (Opens xs → ⊥) → r ≡ None
  is-bad r (whole o) h = absurd (h o)
  is-bad r (bad f) h = refl

  pub opens : Opens xs → record_of xs ≡ whole_record (kind_of xs) (len_of xs)
  opens = is_whole (record_of xs) view

  pub shuts : (Opens xs → ⊥) → record_of xs ≡ None
  shuts = is-bad (record_of xs) view

-- at a place of a slice: a and b are the two bytes there, and the five tests are what the code does
module _ (s : List ℕ) (at a b : ℕ) (ea : a ≡ get_or s at 0) (eb : b ≡ get_or s (at + 1) 0) where
  first : a ≡ get_or (drop at s) 0 0
  first = ea ∙ sym (get_or-drop at s 0 0 ∙ ap (λ (n : ℕ). get_or s n 0) (add-zero at))

  second : b ≡ get_or (drop at s) 1 0
  second = eb ∙ sym (get_or-drop at s 1 0)

  pub shuts-at : (2 ≤ length s - at → a / 32 < 5 → least (a / 32) ≤ a % 32 * 256 + b → a % 32 * 256 + b ≤ most (a / 32) → a % 32 * 256 + b ≤ length s - at - 2 → ⊥)
      → record_of (drop at s) ≡ None
  shuts-at f = shuts (drop at s) (λ o. (rw (first, second, ← length-drop at s) at f) o.two o.kind o.low o.high o.body)

  pub opens_at : 2 ≤ length s - at → a / 32 < 5 → least (a / 32) ≤ a % 32 * 256 + b → a % 32 * 256 + b ≤ most (a / 32) → a % 32 * 256 + b ≤ length s - at - 2
      → record_of (drop at s) ≡ whole_record (a / 32) (a % 32 * 256 + b)
  opens_at h₁ h₂ h₃ h₄ h₅ =
      rw (first, second)
      (opens (drop at s)
      (record { two = rw length-drop h₁; kind = rw (← first) h₂; low = rw (← first, ← second) h₃; high = rw (← first, ← second) h₄; body = rw (← first, ← second, length-drop) h₅ }))

pick-lt : (t : Bool) (a b n : ℕ) → a < n → b < n → pick_nat t a b < n
pick-lt true a b n h g = h
pick-lt false a b n h g = g

-- every length that a kind allows fits in 13 bits
most-fits : (k : ℕ) → most k < 8192
unfolding most
most-fits k =
    pick-lt (eqb k 2) max_label (pick_nat (eqb k 3) max_value (pick_nat (eqb k 4) digest_len 0)) 8192 (lit< tt)
    (pick-lt (eqb k 3) max_value (pick_nat (eqb k 4) digest_len 0) 8192 (lit< tt) (pick-lt (eqb k 4) digest_len 0 8192 (lit< tt) (lit< tt)))

-- a written record at the front
module _ (k : ℕ) (b rest : List ℕ) (kind : k < 5) (low : least k ≤ length b) (high : length b ≤ most k) where
  piece_kind : kind_of (piece k b ++ rest) ≡ k
  unfolding piece
  piece_kind = omega (arith, most-fits k)

  piece-len : len_of (piece k b ++ rest) ≡ length b
  unfolding piece
  piece-len = omega (arith, most-fits k)

  piece-two : 2 ≤ length (piece k b ++ rest)
  unfolding piece
  piece-two = omega arith

  piece-body : length b ≤ length (piece k b ++ rest) - 2
  unfolding piece
  piece-body = omega (arith, length-append b rest)

  pub piece-opens : record_of (piece k b ++ rest) ≡ whole_record k (length b)
  piece-opens =
      opens (piece k b ++ rest)
      (record { two = piece-two; kind = rw piece_kind kind; low = rw (piece_kind, piece-len) low; high = rw (piece_kind, piece-len) high; body = rw piece-len piece-body })
      ∙ ap₂ whole_record piece_kind piece-len

-- a record that opens is the written one
header-back : (x y : ℕ) (xs b r : List ℕ) → length b ≡ x % 32 * 256 + y → y < 256 → b ++ r ≡ xs → x ∷ y ∷ xs ≡ piece (x / 32) b ++ r
unfolding piece
header-back x y xs b r n h e =
    let e₁ : x ≡ x / 32 * 32 + length b / 256 = omega arith in
    let e₂ : y ≡ length b % 256 = omega arith in
    cc

pub body-length : (xs : List ℕ) → Opens xs → length (take (len_of xs) (drop 2 xs)) ≡ len_of xs
body-length xs o = length-take-le (len_of xs) (drop 2 xs) (rw length-drop o.body)

pub piece_back : (xs : List ℕ) → Bytes xs → Opens xs → xs ≡ piece (kind_of xs) (take (len_of xs) (drop 2 xs)) ++ drop (len_of xs) (drop 2 xs)
piece_back [] h o = absurd (not-suc-le-zero o.two)
piece_back (x ∷ []) h o = absurd (omega (arith, o.two))
piece_back (x ∷ y ∷ xs) h o = header-back x y xs (take (len_of (x ∷ y ∷ xs)) xs) (drop (len_of (x ∷ y ∷ xs)) xs) (body-length (x ∷ y ∷ xs) o) (h 1) (take-append-drop (len_of (x ∷ y ∷ xs)) xs)
