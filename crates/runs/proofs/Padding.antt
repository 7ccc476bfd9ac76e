-- Zeros and padded strings.
use mathlib.Core.Path.{◌≡◌, ◌∙◌}
use mathlib.Core.List.{List, [], ◌∷◌, ◌++◌}
use Prim.Native.Nat.{ℕ, zero, suc, ◌-◌, ◌≤◌}
use native.Mathlib.Omega.{arith}
use lib.Dec.{lit<}
use lib.ListN.{length, take, length-append, length-replicate}
use lib.Seq.{take-append_seam}
use Rattle.runs.specs.Bits.{Bytes}
use Rattle.runs.specs.Runs.{zeros, padded}

pub length-zeros : (n : ℕ) → length (zeros n) ≡ n
unfolding zeros
length-zeros n = length-replicate n 0

pub bytes-zeros : (n : ℕ) → Bytes (zeros n)
unfolding zeros
bytes-zeros zero k = lit< tt
bytes-zeros (suc n) zero = lit< tt
bytes-zeros (suc n) (suc k) = bytes-zeros n k

bytes-append : (x y : List ℕ) → Bytes x → Bytes y → Bytes (x ++ y)
bytes-append [] y b c k = c k
bytes-append (a ∷ x) y b c zero = b 0
bytes-append (a ∷ x) y b c (suc k) = bytes-append x y (λ j. b (suc j)) c k

module _ (n : ℕ) (x : List ℕ) where
  pub padded-length : length x ≤ n → length (padded n x) ≡ n
  unfolding padded
  padded-length p = length-append x (zeros (n - length x)) ∙ omega (arith, length-zeros (n - length x))

  -- a padded string that fills its room just so is not longer than the room
  pub padded-fits : length (padded n x) ≡ n → length x ≤ n
  unfolding padded
  padded-fits e = omega (arith, length-append x (zeros (n - length x)), e)

  pub padded-front : take (length x) (padded n x) ≡ x
  unfolding padded
  padded-front = take-append_seam x (zeros (n - length x))

  pub padded-bytes : Bytes x → Bytes (padded n x)
  unfolding padded
  padded-bytes b = bytes-append x (zeros (n - length x)) b (bytes-zeros (n - length x))
