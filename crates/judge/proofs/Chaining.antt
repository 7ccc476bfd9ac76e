-- The loop along the free chain: there is a chain from here just when there is one from the start.
use mathlib.Core.Path.{◌≡◌, refl, sym, ap, subst, ◌∙◌}
use mathlib.Core.List.{List, [], ◌∷◌}
use Prim.Native.Nat.{ℕ, ◌-◌}
use native.Mathlib.Omega.{arith}
use lib.Dec.{eqb}
use lib.ListN.{length}
use Rattle.slots.specs.Layout.{Slot, slot, free_slot, Decides}
use Rattle.store.specs.Model.{head}
use Rattle.store.specs.Sound.{Chain}
use Rattle.judge.specs.Steps.{FreeOk, Inside, HasChain, Along}
use Rattle.judge.proofs.Deciding.{decides_eqb}

module _ {s : List ℕ} {cap y k : ℕ} where
  -- at a slot
  pub no_more : (y ≡ 0 → ⊥) → k ≡ 0 → HasChain s cap y k → ⊥
  no_more ne e h = go h.free h.top h.long
    where
      go : (f : List ℕ) → head f ≡ y → length f ≡ k → ⊥
      go [] t l = ne (sym t)
      go (x ∷ f) t l = omega arith

  pub is_free : (y ≡ 0 → ⊥) → HasChain s cap y k → FreeOk s cap y
  is_free ne h = go h.free h.top h.inside h.chain
    where
      go : (f : List ℕ) → head f ≡ y → Inside cap f → Chain s f → FreeOk s cap y
      go [] t i a = absurd (ne (sym t))
      go (x ∷ f) t i a =
          let e : head f ≡ (slot s x).left = sym (ap (λ (z : Slot). z.left) a.0) in
          subst (FreeOk s cap) t (record { high = i.0.1; free = (a.0 ∙ ap (λ (z : ℕ). free_slot z) e, a.1) })

  pub step-on : (y ≡ 0 → ⊥) → {z : ℕ} → z ≡ (slot s y).left → HasChain s cap y k → HasChain s cap z (k - 1)
  step-on ne {z} e h = go h.free h.top h.inside h.chain h.long
    where
      go : (f : List ℕ) → head f ≡ y → Inside cap f → Chain s f → length f ≡ k → HasChain s cap z (k - 1)
      go [] t i a l = absurd (ne (sym t))
      go (x ∷ f) t i a l =
          record {
            free = f;
            top = sym (e ∙ ap (λ (j : ℕ). (slot s j).left) (sym t) ∙ ap (λ (v : Slot). v.left) a.0);
            inside = i.1;
            chain = a.2;
            long = omega arith;
          }

  pub step_back : (y ≡ 0 → ⊥) → (k ≡ 0 → ⊥) → FreeOk s cap y → {z : ℕ} → z ≡ (slot s y).left → HasChain s cap z (k - 1) → HasChain s cap y k
  step_back ny nk a e h =
      record {
        free = y ∷ h.free;
        top = refl;
        inside = ((omega arith, a.high), h.inside);
        chain = (a.free.0 ∙ ap (λ (z : ℕ). free_slot z) (sym (h.top ∙ e)), a.free.1, h.chain);
        long = omega (arith, h.long);
      }

-- at the end
module _ (s : List ℕ) (cap y k : ℕ) where
  pub ends : y ≡ 0 → Decides (eqb k 0) (HasChain s cap y k)
  ends e =
      decides_eqb k 0 (λ z. record { free = []; top = sym e; inside = tt; chain = tt; long = sym z })
      (λ h. go h.free h.top h.inside h.long)
    where
      go : (f : List ℕ) → head f ≡ y → Inside cap f → length f ≡ k → k ≡ 0
      go [] t i l = sym l
      go (x ∷ f) t i l = absurd (omega (arith, i.0.0))

pub along-next : {s : List ℕ} {cap x n y k z : ℕ} → Along s cap x n y k → (y ≡ 0 → ⊥) → (k ≡ 0 → ⊥) → FreeOk s cap y → z ≡ (slot s y).left → Along s cap x n z (k - 1)
along-next a ny nk f e = record { back = λ h. a.back (step_back ny nk f e h); on = λ h. step-on ny e (a.on h) }
