-- A few bytes, and one more.
use mathlib.Core.Path.{◌≡◌, refl, ap}
use mathlib.Core.Bool.{Bool, true, false}
use mathlib.Core.List.{List, [], ◌∷◌, ◌++◌}
use Prim.Native.Nat.{ℕ, zero, suc, ◌+◌, ◌≤◌, ◌<◌, min}
use native.Mathlib.Omega.{arith}
use lib.Dec.{ltb}
use borrow.Author.Tests.{lt-ltb, ltb-true, ltb-false}
use lib.ListN.{length, take, drop, set, replicate, length-append, length-take}
use lib.Seq.{take_all, length-take-le, take-append-le}
use Rattle.std.specs.Prelude.{Option, Some, None, IfSome, option_map}
use Rattle.text.specs.declared.hex.Few.{Few}
use Rattle.text.specs.Hex.{padded, few_of, with_byte, joined_all, pairs_of}

set-padded : (n : ℕ) (xs : List ℕ) (b : ℕ) → length xs < n → set (padded n xs) (length xs) b ≡ padded n (xs ++ (b ∷ []))
unfolding padded
set-padded zero xs b l = absurd (omega arith)
set-padded (suc n) [] b l = refl
set-padded (suc n) (x ∷ xs) b l = ap (λ (ys : List ℕ). x ∷ ys) (set-padded n xs b (omega arith))

full-padded : (n : ℕ) (xs ys : List ℕ) → n ≤ length xs → padded n (xs ++ ys) ≡ padded n xs
unfolding padded
full-padded zero xs ys l = refl
full-padded (suc n) [] ys l = absurd (omega arith)
full-padded (suc n) (x ∷ xs) ys l = ap (λ (zs : List ℕ). x ∷ zs) (full-padded n xs ys (omega arith))

-- the bytes that there is room for, and zeros
pub copied-padded : (n : ℕ) (xs : List ℕ) → take (min (length xs) n) xs ++ drop (min (length xs) n) (replicate n 0) ≡ padded n xs
unfolding padded
copied-padded zero xs = let z : min (length xs) 0 ≡ 0 = omega arith in rw z refl
copied-padded (suc n) [] = let z : min 0 (suc n) ≡ 0 = omega arith in rw z (zeros (suc n))
  where
    zeros : (m : ℕ) → replicate m 0 ≡ padded m []
    zeros zero = refl
    zeros (suc m) = ap (λ (ys : List ℕ). 0 ∷ ys) (zeros m)
copied-padded (suc n) (x ∷ xs) =
    let z : min (suc (length xs)) (suc n) ≡ suc (min (length xs) n) = omega arith in
    rw z (ap (λ (ys : List ℕ). x ∷ ys) (copied-padded n xs))

pub copied : (word bytes : List ℕ) (n : ℕ) → n ≡ min (length word) 65 → bytes ≡ take n word → record { len = n; bytes = bytes ++ drop n (replicate 65 0) } ≡ few_of word
unfolding few_of
copied word bytes n e h =
    let l : length (take 65 word) ≡ min (length word) 65 = omega (arith, length-take 65 word) in
    rw (h, e, l, copied-padded 65 word) refl

module _ (xs : List ℕ) where
  few-length : (few_of xs).len ≤ 65
  unfolding few_of
  few-length = omega (arith, length-take 65 xs)

  pub few-short : (few : Few) → few ≡ few_of xs → few.len ≤ 65
  few-short few e = rw e few-length

  module _ (b : ℕ) where
    with-room : length xs < 65 → with_byte (few_of xs) b ≡ few_of (xs ++ (b ∷ []))
    unfolding with_byte few_of
    with-room l =
        let k : length (xs ++ (b ∷ [])) ≡ length xs + 1 = length-append xs (b ∷ []) in
        rw (take_all 65 xs (omega arith), take_all 65 (xs ++ (b ∷ [])) (omega (arith, k)), k, lt-ltb (length xs) 65 l, set-padded 65 xs b l) refl

    without-room : 65 ≤ length xs → with_byte (few_of xs) b ≡ few_of (xs ++ (b ∷ []))
    unfolding with_byte few_of
    without-room l =
        rw (take-append-le 65 xs (b ∷ []) l, full-padded 65 xs (b ∷ []) l, length-take-le 65 xs l) refl

    pub one_more : with_byte (few_of xs) b ≡ few_of (xs ++ (b ∷ []))
    one_more = go (ltb (length xs) 65) refl
      where
        go : (t : Bool) → ltb (length xs) 65 ≡ t → with_byte (few_of xs) b ≡ few_of (xs ++ (b ∷ []))
        go true e = with-room (ltb-true (length xs) 65 e)
        go false e = without-room (ltb-false (length xs) 65 e)

pub pairs-short : (word : List ℕ) (r : Option Few) → r ≡ pairs_of word → IfSome r (λ few. few.len ≤ 65)
unfolding pairs_of
pairs-short word r e = at (joined_all word) r e
  where
    at : (bytes : Option (List ℕ)) (few : Option Few) → few ≡ option_map few_of bytes → IfSome few (λ f. f.len ≤ 65)
    at None few h = rw h tt
    at (Some xs) few h = rw h (few-length xs)
