-- Pairs of hex digits, as far as they have been read.
use mathlib.Core.Path.{◌≡◌, refl, sym, ap, ◌∙◌}
use mathlib.Core.List.{List, [], ◌∷◌, ◌++◌, append-nil, append_assoc}
use Prim.Native.Nat.{ℕ}
use native.Mathlib.Omega.{arith}
use lib.ListN.{length, get_or}
use Rattle.std.specs.Prelude.{Option, Some, None, option_map}
use Rattle.text.specs.declared.hex.Few.{Few}
use Rattle.text.specs.Hex.{of_both, joined_of, few_of, with_byte, joined_all, pairs_of}
use Rattle.text.proofs.Fews.{one_more}

both : (xs : List ℕ) → length xs ≡ 2 → xs ≡ get_or xs 0 0 ∷ get_or xs 1 0 ∷ []
both [] e = absurd (omega arith)
both (x ∷ []) e = absurd (omega arith)
both (x ∷ y ∷ []) e = refl
both (x ∷ y ∷ z ∷ xs) e = absurd (omega arith)

-- the pairs in front of the rest stand for the few bytes
pub record Upto (word : List ℕ) (few : Few) (rest : List ℕ) : Type 0 where
  pub done : List ℕ
  pub few-is : few ≡ few_of done
  pub bytes : joined_all word ≡ option_map (λ xs. done ++ xs) (joined_all rest)

pub begins : (word : List ℕ) (few : Few) → few ≡ few_of [] → Upto word few word
begins word few e = record { done = []; few-is = e; bytes = all (joined_all word) }
  where
    all : (r : Option (List ℕ)) → r ≡ option_map (λ xs. [] ++ xs) r
    all None = refl
    all (Some xs) = refl

module _ {word : List ℕ} {few : Few} {rest : List ℕ} (p : Upto word few rest) where
  pub ends : length rest ≡ 0 → Some few ≡ pairs_of word
  unfolding pairs_of joined_all
  ends e = at rest e p.bytes
    where
      at : (xs : List ℕ) → length xs ≡ 0 → joined_all word ≡ option_map (λ ys. p.done ++ ys) (joined_all xs) → Some few ≡ pairs_of word
      at [] z h = sym (rw (h, append-nil p.done) (ap Some (sym p.few-is)))
      at (x ∷ xs) z h = absurd (omega arith)

  -- a last digit without another
  pub at-one : length rest ≡ 1 → None ≡ pairs_of word
  unfolding pairs_of joined_all
  at-one e = at rest e p.bytes
    where
      at : (xs : List ℕ) → length xs ≡ 1 → joined_all word ≡ option_map (λ ys. p.done ++ ys) (joined_all xs) → None ≡ pairs_of word
      at [] z h = absurd (omega arith)
      at (x ∷ []) z h = sym (rw h refl)
      at (x ∷ y ∷ xs) z h = absurd (omega arith)

  module _ (pair more : List ℕ) (e : rest ≡ pair ++ more) (two : length pair ≡ 2) where
    abbrev read : Option ℕ
    read = joined_of (get_or pair 0 0) (get_or pair 1 0)

    split : rest ≡ get_or pair 0 0 ∷ get_or pair 1 0 ∷ more
    split = e ∙ ap (λ (xs : List ℕ). xs ++ more) (both pair two)

    pub at_other : read ≡ None → None ≡ pairs_of word
    unfolding pairs_of joined_all
    at_other n = sym (rw (p.bytes, split, n) refl)

    pub at_pair : (b : ℕ) → read ≡ Some b → Upto word (with_byte few b) more
    unfolding joined_all
    at_pair b s =
        record {
          done = p.done ++ (b ∷ []);
          few-is = ap (λ (f : Few). with_byte f b) p.few-is ∙ one_more p.done b;
          bytes = p.bytes ∙ rw (split, s) (moved (joined_all more));
        }
      where
        moved : (r : Option (List ℕ)) → option_map (λ xs. p.done ++ xs) (of_both (λ x xs. x ∷ xs) (Some b) r) ≡ option_map (λ xs. (p.done ++ (b ∷ [])) ++ xs) r
        moved None = refl
        moved (Some xs) = ap Some (sym (append_assoc p.done (b ∷ []) xs))
