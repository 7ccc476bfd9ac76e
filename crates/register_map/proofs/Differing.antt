-- What the difference of two stores has to answer where one of them is not sound.
use mathlib.Core.Path.{◌≡◌, sym}
use mathlib.Core.List.{List}
use Prim.Native.Nat.{ℕ}
use Rattle.std.specs.Prelude.{Err}
use Rattle.answers.specs.declared.Refusal.TheVariants.{NotSound}
use Rattle.answers.specs.Answers.{answered}
use Rattle.store.specs.Sound.{Sound}
use Rattle.store.specs.Difference.{difference_answer}
use Rattle.store.proofs.Difference.{old-unsound, new-unsound}

module _ (old new out : List ℕ) where
  pub old-refused : (Sound old → ⊥) → answered (Err NotSound) out ≡ difference_answer old new out
  old-refused n = sym (old-unsound new out n)

  pub new-refused : Sound old → (Sound new → ⊥) → answered (Err NotSound) out ≡ difference_answer old new out
  new-refused a n = sym (new-unsound out a n)
