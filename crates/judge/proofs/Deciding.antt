-- An answer that decides a claim.
use mathlib.Core.Path.{◌≡◌, refl}
use mathlib.Core.Bool.{Bool, true, false}
use Prim.Native.Nat.{ℕ}
use lib.Dec.{eqb}
use borrow.Author.Tests.{eqb-true, eqb-false}
use Rattle.slots.specs.Layout.{Decides}

pub decides_eqb : (x n : ℕ) {P : Type 0} → (x ≡ n → P) → (P → x ≡ n) → Decides (eqb x n) P
decides_eqb x n {P} f g = go (eqb x n) refl
  where
    go : (o : Bool) → eqb x n ≡ o → Decides o P
    go true e = f (eqb-true x n e)
    go false e = λ p. eqb-false x n e (g p)
