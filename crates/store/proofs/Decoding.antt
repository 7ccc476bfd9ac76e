-- A store that holds a model decodes to it: so a store holds one model only, whether it is sound can be told, and `on_sound` is what it says.
use mathlib.Core.Path.{◌≡◌, refl, sym, ap, subst, ◌∙◌}
use mathlib.Core.List.{List, [], ◌∷◌, ◌++◌}
use Prim.Native.Nat.{ℕ, zero, suc, ◌+◌, ◌≤◌}
use native.Mathlib.Nat.{not-suc-le-zero}
use native.Mathlib.Omega.{arith}
use lib.ListN.{length, length-append}
use Rattle.slots.specs.declared.Header.{Header}
use Rattle.slots.specs.Layout.{header, Slot, slot, key_of, value_of}
use Rattle.slots.proofs.Writing.{node-key, node-value}
use Rattle.llrb.specs.Tree.{Tree, nil, node, size}
use Rattle.llrb.proofs.Height.{size-node}
use Rattle.store.specs.Counts.{occurs, numbers_to}
use Rattle.store.specs.Counting.{is-self, occurs-append, numbers-low, same_length, numbers-length}
use Rattle.store.specs.Model.{Model, slots_of, root, head}
use Rattle.store.specs.Sound.{Nodes, Chain, Lawful, RepresentsIn, SoundIn}
use Rattle.store.specs.Decode.{tree_at, entries_below, chain_at, decode}
use Rattle.store.specs.Deciding.{told}
use Rattle.store.specs.Decide.{represents?, held, on_sound_in}
use Rattle.store.proofs.Trees.{slots-node, size-slots}

-- ---- what `once` says of tree and chain

module _ {m : Model} (g : Lawful m) where
  pub once-sum : (x : ℕ) → occurs x (slots_of m.tree) + occurs x m.free ≡ occurs x (numbers_to m.capacity)
  once-sum x = sym (occurs-append x (slots_of m.tree) m.free) ∙ g.once x

  -- live and free slots add up to the capacity
  pub live-and-free : size m.tree + length m.free ≡ m.capacity
  live-and-free =
      omega (arith, size-slots m.tree, length-append (slots_of m.tree) m.free, same_length (slots_of m.tree ++ m.free) (numbers_to m.capacity) g.once, numbers-length 1 m.capacity)

  no-zero-tree : occurs 0 (slots_of m.tree) ≡ 0
  no-zero-tree = omega (arith, once-sum 0, numbers-low m.capacity)

  no-zero-chain : occurs 0 m.free ≡ 0
  no-zero-chain = omega (arith, once-sum 0, numbers-low m.capacity)

-- ---- tree and chain

zero-slot : (x y : ℕ) → occurs 0 (x ∷ []) + y ≡ 0 → 1 ≤ x
zero-slot zero y p = absurd (omega (arith, is-self 0))
zero-slot (suc x) y p = omega arith

open-tree : (n : ℕ) (s : List ℕ) (x : ℕ) → 1 ≤ x
    → tree_at (suc n) s x
    ≡ node (slot s x).red (record { slot = x; key = key_of (slot s x); value = value_of (slot s x) }) (tree_at n s (slot s x).left) (tree_at n s (slot s x).right)
unfolding tree_at
open-tree n s zero p = absurd (not-suc-le-zero p)
open-tree n s (suc x) p = refl

open-chain : (n : ℕ) (s : List ℕ) (x : ℕ) → 1 ≤ x → chain_at (suc n) s x ≡ x ∷ chain_at n s (slot s x).left
unfolding chain_at
open-chain n s zero p = absurd (not-suc-le-zero p)
open-chain n s (suc x) p = refl

tree-nil : (n : ℕ) (s : List ℕ) → tree_at n s 0 ≡ nil
unfolding tree_at
tree-nil zero s = refl
tree-nil (suc n) s = refl

chain-nil : (n : ℕ) (s : List ℕ) → chain_at n s 0 ≡ []
unfolding chain_at
chain-nil zero s = refl
chain-nil (suc n) s = refl

-- the links lead to the tree
pub decode-tree : (n : ℕ) (s : List ℕ) (t : Tree) → Nodes s t → occurs 0 (slots_of t) ≡ 0 → size t ≤ n → tree_at n s (root t) ≡ t
decode-tree n s nil a z p = tree-nil n s
decode-tree zero s (node c e l r) a z p = absurd (omega (arith, size-node c e l r))
decode-tree (suc n) s (node c e l r) a z p =
    let h = a.0 in
    let w = slots-node 0 c e l r in
    let low : 1 ≤ e.slot = zero-slot e.slot (occurs 0 (slots_of l) + occurs 0 (slots_of r)) (omega (arith, w)) in
    let el = ap (λ (v : Slot). tree_at n s v.left) h ∙ decode-tree n s l a.1 (omega (arith, w)) (omega (arith, size-node c e l r)) in
    let er = ap (λ (v : Slot). tree_at n s v.right) h ∙ decode-tree n s r a.2 (omega (arith, w)) (omega (arith, size-node c e l r)) in
    let ec = ap (λ (v : Slot). v.red) h in
    let ek : key_of (slot s e.slot) ≡ e.key = ap (λ (v : Slot). key_of v) h ∙ node-key c e.key e.value (root l) (root r) in
    let ev : value_of (slot s e.slot) ≡ e.value = ap (λ (v : Slot). value_of v) h ∙ node-value c e.key e.value (root l) (root r) in
    open-tree n s e.slot low ∙ (λ i. node (ec i) (record { slot = e.slot; key = ek i; value = ev i }) (el i) (er i))

pub below-nodes : (s : List ℕ) (h : ℕ) (t : Tree) → root t ≡ h → Nodes s t → occurs 0 (slots_of t) ≡ 0 → size t ≤ 2047 → entries_below s h ≡ size t
unfolding entries_below
below-nodes s h t e a z p = ap (λ (x : ℕ). size (tree_at 2047 s x)) (sym e) ∙ ap size (decode-tree 2047 s t a z p)

decode-chain : (n : ℕ) (s : List ℕ) (f : List ℕ) → Chain s f → occurs 0 f ≡ 0 → length f ≤ n → chain_at n s (head f) ≡ f
decode-chain n s [] a z p = chain-nil n s
decode-chain zero s (x ∷ f) a z p = absurd (not-suc-le-zero p)
decode-chain (suc n) s (x ∷ f) a z p =
    let e = ap (λ (v : Slot). chain_at n s v.left) a.0 ∙ decode-chain n s f a.2 (omega arith) (omega arith) in
    open-chain n s x (zero-slot x (occurs 0 f) (omega arith)) ∙ ap {B = List ℕ} (λ (z : List ℕ). x ∷ z) e

pub decoded : {e : ℕ} {s : List ℕ} {m : Model} → RepresentsIn e s m → decode s ≡ m
unfolding decode
decoded {e} {s} {m} a =
    let h = a.laid.header in
    let g = a.lawful in
    let c = ap (λ (z : Header). z.capacity) h in
    let t : tree_at (header s).live s (header s).root ≡ m.tree =
    ap (λ (z : Header). tree_at z.live s z.root) h ∙ decode-tree (size m.tree) s m.tree a.laid.nodes (no-zero-tree g) (omega arith) in
    let f : chain_at (header s).capacity s (header s).free ≡ m.free =
    ap (λ (z : Header). chain_at z.capacity s z.free) h ∙ decode-chain m.capacity s m.free a.laid.chain (no-zero-chain g) (omega (arith, live-and-free g)) in
    λ i. record { capacity = c i; tree = t i; free = f i }

-- a store holds one model, whatever its edition
pub model-same : {e d : ℕ} {s : List ℕ} {m n : Model} → RepresentsIn e s m → RepresentsIn d s n → m ≡ n
model-same a b = sym (decoded a) ∙ decoded b

-- a store is sound exactly when decoding it succeeds
pub sound-decodes : {e : ℕ} {s : List ℕ} → SoundIn e s → RepresentsIn e s (decode s)
sound-decodes {e} {s} h = subst (RepresentsIn e s) (sym (decoded h.1)) h.1

pub sound? : (e : ℕ) (s : List ℕ) → Dec (SoundIn e s)
sound? e s = told (represents? e s (decode s)) (λ a. (decode s, a)) sound-decodes

-- ---- on_sound_in

pub on-sound : {A : Type 0} {e : ℕ} {s : List ℕ} {m : Model} → RepresentsIn e s m → (f : Model → A) (z : A) → on_sound_in e s f z ≡ f m
unfolding on_sound_in
on-sound {A} {e} {s} {m} a f z = go (represents? e s (decode s))
  where
    go : (d : Dec (RepresentsIn e s (decode s))) → held d (f (decode s)) z ≡ f m
    go (yes h) = ap f (decoded a)
    go (no n) = absurd (n (sound-decodes (m, a)))

pub on-unsound : {A : Type 0} {e : ℕ} {s : List ℕ} → (SoundIn e s → ⊥) → (f : Model → A) (z : A) → on_sound_in e s f z ≡ z
unfolding on_sound_in
on-unsound {A} {e} {s} n f z = go (represents? e s (decode s))
  where
    go : (d : Dec (RepresentsIn e s (decode s))) → held d (f (decode s)) z ≡ z
    go (yes h) = absurd (n (decode s, h))
    go (no k) = refl
