-- A decimal number, as far as its digits have been read.
use mathlib.Core.Path.{◌≡◌, refl, sym, ◌∙◌}
use mathlib.Core.List.{List, [], ◌∷◌}
use Prim.Native.Nat.{ℕ, ◌+◌, ◌≤◌, ◌<◌}
use native.Mathlib.Numerals.{add-one}
use native.Mathlib.Omega.{arith}
use lib.ListN.{length, get_or, drop, drop_of_length-le}
use lib.Seq.{drop-cons}
use Rattle.std.specs.Prelude.{Some, None}
use Rattle.text.specs.Hex.{appended_to, number_from, decimal_of}

pub no-digits : (word : List ℕ) → length word ≡ 0 → None ≡ decimal_of word
unfolding decimal_of
no-digits [] e = refl
no-digits (b ∷ word) e = absurd (omega arith)

some-digits : (word : List ℕ) → (length word ≡ 0 → ⊥) → decimal_of word ≡ number_from 0 word
unfolding decimal_of
some-digits [] n = absurd (n refl)
some-digits (b ∷ word) n = refl

-- the first i digits say n
pub record Upto (word : List ℕ) (n i : ℕ) : Type 0 where
  pub rest : decimal_of word ≡ number_from n (drop i word)

pub begins : (word : List ℕ) → (length word ≡ 0 → ⊥) → Upto word 0 0
begins word n = record { rest = some-digits word n }

module _ {word : List ℕ} {n i : ℕ} (p : Upto word n i) where
  pub ends : length word ≤ i → Some n ≡ decimal_of word
  unfolding number_from
  ends h = sym (p.rest ∙ rw (drop_of_length-le word h) refl)

  module _ (l : i < length word) where
    pub at_other : appended_to n (get_or word i 0) ≡ None → None ≡ decimal_of word
    unfolding number_from
    at_other e = sym (p.rest ∙ rw (drop-cons word i 0 l, e) refl)

    pub at-digit : (m : ℕ) → appended_to n (get_or word i 0) ≡ Some m → Upto word m (i + 1)
    unfolding number_from
    at-digit m e = record { rest = p.rest ∙ rw (drop-cons word i 0 l, e, add-one i) refl }
