-- The branches of `balance`: what a colour that was seen says of the partial function.
use mathlib.Core.Path.{◌≡◌}
use mathlib.Core.Bool.{Bool, true, false}
use mathlib.Core.List.{List}
use mathlib.Core.Option.{Option, some}
use Prim.Native.Nat.{ℕ}
use Rattle.slots.specs.Layout.{slot}
use Rattle.llrb.specs.Tree.{Tree, left, right, is_red}
use Rattle.llrb.specs.Panic.{and_then, rotate_left_p, rotate_right_p, flip_colors_p, balance₁_p, balance₂_p, balance₃_p}
use Rattle.rb_nodes.specs.Heap.{Held, Full, Marked, CanAt, DoesAt}
use Rattle.rb_nodes.proofs.Heap.{sub-left, sub-right}
use Rattle.rb_nodes.proofs.Steps.{after, full-turn}
use Rattle.rb_nodes.proofs.Option.{same, parts}
use Rattle.rb_nodes.proofs.Colours.{Colour, red-full}

-- ---- steps

-- one call after another
module _ {D : List ℕ → Tree → Type 0} {F : Tree → Option Tree} {s s1 : List ℕ} {h p : ℕ} (f : DoesAt D F s s1 h p) where
  pub seq : {G : Tree → Option Tree} {s2 : List ℕ} {q : ℕ} → DoesAt Marked G s1 s2 p q → DoesAt D (λ t. and_then (F t) G) s s2 h q
  seq {G} g t u a fu w =
      let m = parts (F t) G w in
      let x = f t m.0 a fu m.1 in
      after x (g m.0 u x.held (full-turn x fu) m.2)

  pub can-next : {G : Tree → Option Tree} → CanAt (λ t. and_then (F t) G) s h → CanAt G s1 p
  can-next {G} c =
      let m = parts (F c.0) G c.4 in
      let x = f c.0 m.0 c.1 c.2 m.1 in
      (m.0, x.held, full-turn x c.2, c.3, m.2)

pub can-first : (F G : Tree → Option Tree) {s : List ℕ} {h : ℕ} → CanAt (λ t. and_then (F t) G) s h → CanAt F s h
can-first F G c = let m = parts (F c.0) G c.4 in (c.0, c.1, c.2, m.0, m.1)

-- ---- the branches

module _ {s : List ℕ} {h : ℕ} (t u : Tree) (a : Held s h t) (f : Full t) where
  pub right_of : {r : ℕ} {v : Bool} → r ≡ (slot s h).right → Colour s r v → is_red (right t) ≡ v
  right_of e c = c (right t) (sub-right t a f e)

  pub left-of : {l : ℕ} {v : Bool} → l ≡ (slot s h).left → Colour s l v → is_red (left t) ≡ v
  left-of e c = c (left t) (sub-left t a f e)

  -- a left child that is red is there
  pub left-full : {l : ℕ} → l ≡ (slot s h).left → Colour s l true → Full (left t)
  left-full e c = red-full (left t) (left-of e c)

  module _ {r : ℕ} (er : r ≡ (slot s h).right) where
    pub one-no : Colour s r false → balance₁_p t ≡ some u → t ≡ u
    one-no cr w = let x = right_of er cr in same (rw x at w)

    module _ {l : ℕ} (cr : Colour s r true) (el : l ≡ (slot s h).left) where
      pub one_left : Colour s l true → balance₁_p t ≡ some u → t ≡ u
      one_left cl w = let x = right_of er cr in let y = left-of el cl in same (rw (x, y) at w)

      pub one-yes : Colour s l false → balance₁_p t ≡ some u → rotate_left_p t ≡ some u
      one-yes cl w = let x = right_of er cr in let y = left-of el cl in rw (x, y) at w

  module _ {l : ℕ} (el : l ≡ (slot s h).left) where
    pub two-no : Colour s l false → balance₂_p t ≡ some u → t ≡ u
    two-no cl w = let x = left-of el cl in same (rw x at w)

    pub three-no : Colour s l false → balance₃_p t ≡ some u → t ≡ u
    three-no cl w = let x = left-of el cl in same (rw x at w)

    module _ (cl : Colour s l true) where
      inner : {m : ℕ} {v : Bool} → m ≡ (slot s l).left → Colour s m v → is_red (left (left t)) ≡ v
      inner em cm = cm (left (left t)) (sub-left (left t) (sub-left t a f el) (left-full el cl) em)

      pub two-black : {m : ℕ} → m ≡ (slot s l).left → Colour s m false → balance₂_p t ≡ some u → t ≡ u
      two-black em cm w = let x = left-of el cl in let y = inner em cm in same (rw (x, y) at w)

      pub two-yes : {m : ℕ} → m ≡ (slot s l).left → Colour s m true → balance₂_p t ≡ some u → rotate_right_p t ≡ some u
      two-yes em cm w = let x = left-of el cl in let y = inner em cm in rw (x, y) at w

      pub three-black : {r : ℕ} → r ≡ (slot s h).right → Colour s r false → balance₃_p t ≡ some u → t ≡ u
      three-black er cr w = let x = left-of el cl in let y = right_of er cr in same (rw (x, y) at w)

      pub three-yes : {r : ℕ} → r ≡ (slot s h).right → Colour s r true → balance₃_p t ≡ some u → flip_colors_p t ≡ some u
      three-yes er cr w = let x = left-of el cl in let y = right_of er cr in rw (x, y) at w
