-- Decisions put together from decisions.
use Rattle.std.specs.Prelude.{◌≡◌, refl, Bool, true, false, ℕ, ◌≤◌, eqb, leb}
use Rattle.std.proofs.Common.{sym, true≢false, arith, eqb-true, leb-true, leb-false}
use mathlib.Core.Logic.Dec.{and}
use mathlib.Core.List.{List, List-discrete}
use Rattle.std.proofs.lemmas.Bool.{eqb-false}

pub told : {P Q : Type 0} → Dec P → (P → Q) → (Q → P) → Dec Q
told (yes p) f g = yes (f p)
told (no n) f g = no (λ q. n (g q))

infixr 3 ◌&◌
pub ◌&◌ : {P Q : Type 0} → Dec P → Dec Q → Dec (P × Q)
◌&◌ p q = and p q

pub three : {P Q R : Type 0} → Dec P → Dec Q → Dec R → Dec (P × Q × R)
three p q r = told (p & q & r) (λ h. (h.0, h.1.0, h.1.1)) (λ h. (h.0, (h.1, h.2)))

pub nat? : (a b : ℕ) → Dec (a ≡ b)
nat? a b = go (eqb a b) refl
  where
    go : (o : Bool) → eqb a b ≡ o → Dec (a ≡ b)
    go true e = yes (eqb-true a b e)
    go false e = no (eqb-false a b e)

pub le? : (a b : ℕ) → Dec (a ≤ b)
le? a b = go (leb a b) refl
  where
    go : (o : Bool) → leb a b ≡ o → Dec (a ≤ b)
    go true e = yes (leb-true a b e)
    go false e = no (λ p. omega (arith, leb-false a b e))

pub bytes? : (a b : List ℕ) → Dec (a ≡ b)
bytes? = List-discrete nat?

pub bool? : (a b : Bool) → Dec (a ≡ b)
bool? true true = yes refl
bool? true false = no true≢false
bool? false true = no (λ e. true≢false (sym e))
bool? false false = yes refl
