-- From one slot on, bytes hold one tree only, and one chain only.
use mathlib.Core.Path.{◌≡◌, refl, sym, ap, ◌∙◌}
use mathlib.Core.Bool.{Bool}
use mathlib.Core.List.{List, [], ◌∷◌}
use Prim.Native.Nat.{ℕ}
use native.Mathlib.Omega.{arith}
use Rattle.slots.specs.Layout.{Slot, slot, key_of, value_of, node_slot}
use Rattle.llrb.specs.Tree.{Entry, Tree, nil, node}
use Rattle.store.specs.Model.{root, head}
use Rattle.store.specs.Sound.{Nodes, Chain}
use Rattle.slots.proofs.Writing.{node-key, node-value}
use Rattle.judge.specs.Steps.{Within, Inside}

-- two nodes in one slot
module _ (s : List ℕ) (c c' : Bool) (e e' : Entry) (p q p' q' : ℕ)
    (a : slot s e.slot ≡ node_slot c e.key e.value p q) (b : slot s e'.slot ≡ node_slot c' e'.key e'.value p' q') (x : e.slot ≡ e'.slot) where
  heads : node_slot c e.key e.value p q ≡ node_slot c' e'.key e'.value p' q'
  heads = sym a ∙ ap (slot s) x ∙ b

  same-colour : c ≡ c'
  same-colour = ap (λ (z : Slot). z.red) heads

  same_left : p ≡ p'
  same_left = ap (λ (z : Slot). z.left) heads

  same-right : q ≡ q'
  same-right = ap (λ (z : Slot). z.right) heads

  same-entry : e ≡ e'
  same-entry =
      let k : e.key ≡ e'.key = sym (node-key c e.key e.value p q) ∙ ap (λ (z : Slot). key_of z) heads ∙ node-key c' e'.key e'.value p' q' in
      let v : e.value ≡ e'.value = sym (node-value c e.key e.value p q) ∙ ap (λ (z : Slot). value_of z) heads ∙ node-value c' e'.key e'.value p' q' in
      λ i. record { slot = x i; key = k i; value = v i }

pub tree-same : (s : List ℕ) (cap : ℕ) (t u : Tree) → Within cap t → Within cap u → Nodes s t → Nodes s u → root t ≡ root u → t ≡ u
tree-same s cap nil nil v w a b x = refl
tree-same s cap nil (node c e l r) v w a b x = absurd (omega (arith, w.0.0))
tree-same s cap (node c e l r) nil v w a b x = absurd (omega (arith, v.0.0))
tree-same s cap (node c e l r) (node c' e' l' r') v w a b x =
    let ec = same-colour s c c' e e' (root l) (root r) (root l') (root r') a.0 b.0 x in
    let ee = same-entry s c c' e e' (root l) (root r) (root l') (root r') a.0 b.0 x in
    let el = tree-same s cap l l' v.1 w.1 a.1 b.1 (same_left s c c' e e' (root l) (root r) (root l') (root r') a.0 b.0 x) in
    let er = tree-same s cap r r' v.2 w.2 a.2 b.2 (same-right s c c' e e' (root l) (root r) (root l') (root r') a.0 b.0 x) in
    λ i. node (ec i) (ee i) (el i) (er i)

pub chain_same : (s : List ℕ) (cap : ℕ) (f g : List ℕ) → Inside cap f → Inside cap g → Chain s f → Chain s g → head f ≡ head g → f ≡ g
chain_same s cap [] [] v w a b x = refl
chain_same s cap [] (y ∷ g) v w a b x = absurd (omega (arith, w.0.0))
chain_same s cap (y ∷ f) [] v w a b x = absurd (omega (arith, v.0.0))
chain_same s cap (y ∷ f) (z ∷ g) v w a b x =
    let h : head f ≡ head g = ap (λ (v : Slot). v.left) (sym a.0 ∙ ap (slot s) x ∙ b.0) in
    let r = chain_same s cap f g v.1 w.1 a.2 b.2 h in
    λ i. x i ∷ r i
