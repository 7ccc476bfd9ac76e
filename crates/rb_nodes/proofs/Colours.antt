-- The colour of a slot that was seen, and the step that changes nothing.
use mathlib.Core.Path.{◌≡◌, refl, sym, ap, subst, ◌∙◌}
use mathlib.Core.Bool.{Bool, true, false}
use mathlib.Core.List.{List}
use Prim.Native.Nat.{ℕ}
use native.Mathlib.Omega.{arith}
use Rattle.slots.specs.Layout.{Slot, slot}
use Rattle.llrb.specs.Tree.{Tree, nil, node, is_red}
use Rattle.rb_nodes.specs.Heap.{Held, Full, Marked, Turn}
use Rattle.rb_nodes.proofs.Heap.{slot-top, top_in}
use Rattle.rb_nodes.proofs.Steps.{stay}

-- ---- is_red

pub red-none : {s : List ℕ} {i : ℕ} → i ≡ 0 → (t : Tree) → Held s i t → false ≡ is_red t
red-none w nil a = refl
red-none w (node c e l r) a = absurd (omega (arith, (top_in a).low))

pub red-some : {s : List ℕ} {i : ℕ} {b : Bool} → (i ≡ 0 → ⊥) → b ≡ (slot s i).red → (t : Tree) → Held s i t → b ≡ is_red t
red-some ne w nil a = absurd (ne (sym a.top))
red-some ne w (node c e l r) a = w ∙ ap (λ (z : Slot). z.red) (slot-top a)

-- a colour that was seen
abbrev pub Colour : List ℕ → ℕ → Bool → Type 0
Colour s i v = (t : Tree) → Held s i t → is_red t ≡ v

pub seen : {s : List ℕ} {i : ℕ} {b v : Bool} → ((t : Tree) → Held s i t → b ≡ is_red t) → b ≡ v → Colour s i v
seen f e t a = sym (f t a) ∙ e

pub red-full : (t : Tree) → is_red t ≡ true → Full t
red-full nil e = let z : ◌≡◌ {A = ℕ} 0 1 = cc in omega arith
red-full (node c e l r) q = tt

-- ---- steps

pub idle : {s : List ℕ} {h : ℕ} {t u : Tree} → Held s h t → t ≡ u → Turn Marked Marked s s h t u
idle {s} {h} {t} {u} a e = subst (Turn Marked Marked s s h t) e (stay a)
