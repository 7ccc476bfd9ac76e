-- `move_red_left`, `move_red_right` and the tests before them: what they ask of their calls, and what they leave.
use mathlib.Core.Path.{◌≡◌}
use mathlib.Core.Bool.{true, false}
use mathlib.Core.List.{List}
use mathlib.Core.Option.{Option, some}
use Prim.Native.Nat.{ℕ, ◌<◌}
use lib.ListN.{length}
use Rattle.slots.specs.Layout.{HasSlot, slot}
use Rattle.slots.specs.Setters.{set_right}
use Rattle.llrb.specs.Tree.{Tree, left, right, is_red}
use Rattle.llrb.specs.Panic.{and_then, rotate_left_p, rotate_right_p, flip_colors_p, move_red_left₂_p, move_red_right₂_p, ready_left_p, ready_right_p}
use Rattle.rb_nodes.specs.Heap.{Held, Marked, Under, Turn, Can, Does, hang_right}
use Rattle.rb_nodes.proofs.Heap.{full-in, sub-left, sub-right}
use Rattle.rb_nodes.proofs.Steps.{after, loosen, link-right, link-ok, none_in}
use Rattle.rb_nodes.proofs.Colours.{Colour}
use Rattle.rb_nodes.proofs.Option.{parts}
use Rattle.rb_moves.proofs.Readying.{move-red-left-2-full, move-red-left-2-no, move-red-left-2-yes, move-red-right-2-full, move-red-right-2-no, move-red-right-2-yes, ready-left-full, ready-left-child, ready-right-full, ready-right-child}

-- ---- a flip, and then the `if`

module _ (G : Tree → Option Tree) {s : List ℕ} {h : ℕ} where
  pub flip-first : Can (λ t. and_then (flip_colors_p t) G) s h → Can flip_colors_p s h
  flip-first c = let m = parts (flip_colors_p c.0) G c.3 in (c.0, c.1, m.0, m.1)

  module _ {s1 : List ℕ} (F : Does Marked flip_colors_p s s1 h h) where
    pub flip-next : Can (λ t. and_then (flip_colors_p t) G) s h → Can G s1 h
    flip-next c = let m = parts (flip_colors_p c.0) G c.3 in (m.0, (F c.0 m.0 c.1 m.1).held, c.2, m.2)

    pub flip-done : {s2 : List ℕ} {r : ℕ} → Does Marked G s1 s2 h r → Does Marked (λ t. and_then (flip_colors_p t) G) s s2 h r
    flip-done L t u a w =
        let m = parts (flip_colors_p t) G w in
        let b = F t m.0 a m.1 in
        after b (L m.0 u b.held m.2)

-- ---- move_red_left_2

module _ {s : List ℕ} {h r : ℕ} (er : r ≡ (slot s h).right) (t u : Tree) (a : Held s h t) (w : move_red_left₂_p t ≡ some u) where
  pub move-red-left-2-right : Held s r (right t)
  move-red-left-2-right = sub-right t a (move-red-left-2-full t u w).0 er

  pub move-red-left-2-in : HasSlot (length s) r
  move-red-left-2-in = full-in (right t) move-red-left-2-right (move-red-left-2-full t u w).1

  pub move-red-left-2-low : {m : ℕ} → m ≡ (slot s r).left → Held s m (left (right t))
  move-red-left-2-low em = sub-left (right t) move-red-left-2-right (move-red-left-2-full t u w).1 em

module _ {s : List ℕ} {h r m : ℕ} (er : r ≡ (slot s h).right) (em : m ≡ (slot s r).left) where
  pub lent-not : Colour s m false → (t u : Tree) → Held s h t → move_red_left₂_p t ≡ some u → t ≡ u
  lent-not c t u a w = move-red-left-2-no t u (c (left (right t)) (move-red-left-2-low er t u a w em)) w

  module _ (c : Colour s m true) where
    red : (t u : Tree) → Held s h t → move_red_left₂_p t ≡ some u → is_red (left (right t)) ≡ true
    red t u a w = c (left (right t)) (move-red-left-2-low er t u a w em)

    pub lends : (t u : Tree) → Held s h t → move_red_left₂_p t ≡ some u → Can rotate_right_p s r
    lends t u a w = let i = move-red-left-2-yes t u (red t u a w) w in (right t, move-red-left-2-right er t u a w, i.v, i.one)

    module _ {s1 : List ℕ} {p : ℕ} (R : Does Under rotate_right_p s s1 r p) where
      turned : (t u : Tree) (a : Held s h t) (w : move_red_left₂_p t ≡ some u) → Turn Marked Marked s s1 p (right t) (move-red-left-2-yes t u (red t u a w) w).v
      turned t u a w = let i = move-red-left-2-yes t u (red t u a w) w in loosen (R (right t) i.v (move-red-left-2-right er t u a w) i.one)

      pub lent-link : (t u : Tree) → Held s h t → move_red_left₂_p t ≡ some u → HasSlot (length s1) h × (p < 2048)
      lent-link t u a w = link-ok t a (move-red-left-2-full t u w).0 (turned t u a w)

      module _ {s2 : List ℕ} (e2 : s2 ≡ set_right s1 h p) where
        linked : (t u : Tree) (a : Held s h t) (w : move_red_left₂_p t ≡ some u) → Turn Under Under s s2 h t (hang_right (move-red-left-2-yes t u (red t u a w) w).v t)
        linked t u a w = link-right t a (move-red-left-2-full t u w).0 (none_in a) (turned t u a w) e2

        pub lent-turn : (t u : Tree) → Held s h t → move_red_left₂_p t ≡ some u → Can rotate_left_p s2 h
        lent-turn t u a w = let i = move-red-left-2-yes t u (red t u a w) w in (hang_right i.v t, (linked t u a w).held, i.v', i.two)

        module _ {s3 : List ℕ} {x : ℕ} (L : Does Under rotate_left_p s2 s3 h x) where
          over : (t u : Tree) (a : Held s h t) (w : move_red_left₂_p t ≡ some u) → Turn Under Marked s s3 x t (move-red-left-2-yes t u (red t u a w) w).v'
          over t u a w =
              let i = move-red-left-2-yes t u (red t u a w) w in
              after (linked t u a w) (L (hang_right i.v t) i.v' (linked t u a w).held i.two)

          pub lent-flip : (t u : Tree) → Held s h t → move_red_left₂_p t ≡ some u → Can flip_colors_p s3 x
          lent-flip t u a w = let i = move-red-left-2-yes t u (red t u a w) w in (i.v', (over t u a w).held, u, i.three)

          pub lent-done : {s4 : List ℕ} → Does Marked flip_colors_p s3 s4 x x → Does Marked move_red_left₂_p s s4 h x
          lent-done F t u a w =
              let i = move-red-left-2-yes t u (red t u a w) w in
              loosen (after (over t u a w) (F i.v' u (over t u a w).held i.three))

-- ---- move_red_right_2

module _ {s : List ℕ} {h l : ℕ} (el : l ≡ (slot s h).left) (t u : Tree) (a : Held s h t) (w : move_red_right₂_p t ≡ some u) where
  pub move-red-right-2-left : Held s l (left t)
  move-red-right-2-left = sub-left t a (move-red-right-2-full t u w).0 el

  pub move-red-right-2-in : HasSlot (length s) l
  move-red-right-2-in = full-in (left t) move-red-right-2-left (move-red-right-2-full t u w).1

  pub move-red-right-2-low : {m : ℕ} → m ≡ (slot s l).left → Held s m (left (left t))
  move-red-right-2-low em = sub-left (left t) move-red-right-2-left (move-red-right-2-full t u w).1 em

module _ {s : List ℕ} {h l m : ℕ} (el : l ≡ (slot s h).left) (em : m ≡ (slot s l).left) where
  pub lent-right-not : Colour s m false → (t u : Tree) → Held s h t → move_red_right₂_p t ≡ some u → t ≡ u
  lent-right-not c t u a w = move-red-right-2-no t u (c (left (left t)) (move-red-right-2-low el t u a w em)) w

  module _ (c : Colour s m true) where
    way : (t u : Tree) → Held s h t → move_red_right₂_p t ≡ some u → (v : Tree) × (rotate_right_p t ≡ some v) × (flip_colors_p v ≡ some u)
    way t u a w = move-red-right-2-yes t u (c (left (left t)) (move-red-right-2-low el t u a w em)) w

    pub lends-right : (t u : Tree) → Held s h t → move_red_right₂_p t ≡ some u → Can rotate_right_p s h
    lends-right t u a w = let i = way t u a w in (t, a, i.0, i.1)

    module _ {s1 : List ℕ} {x : ℕ} (R : Does Under rotate_right_p s s1 h x) where
      pub lent-right-flip : (t u : Tree) → Held s h t → move_red_right₂_p t ≡ some u → Can flip_colors_p s1 x
      lent-right-flip t u a w = let i = way t u a w in (i.0, (R t i.0 a i.1).held, u, i.2)

      pub lent-right-done : {s2 : List ℕ} → Does Marked flip_colors_p s1 s2 x x → Does Marked move_red_right₂_p s s2 h x
      lent-right-done F t u a w =
          let i = way t u a w in
          let b = R t i.0 a i.1 in
          loosen (after b (F i.0 u b.held i.2))

-- ---- the tests: what they read is there

module _ {s : List ℕ} {h l : ℕ} (el : l ≡ (slot s h).left) (t u : Tree) (a : Held s h t) (w : ready_left_p t ≡ some u) where
  pub ready-left-held : Held s l (left t)
  ready-left-held = sub-left t a (ready-left-full t u w) el

  module _ (c : Colour s l false) where
    pub ready-left-in : HasSlot (length s) l
    ready-left-in = full-in (left t) ready-left-held (ready-left-child t u (c (left t) ready-left-held) w)

    pub ready-left-low : {m : ℕ} → m ≡ (slot s l).left → Held s m (left (left t))
    ready-left-low em = sub-left (left t) ready-left-held (ready-left-child t u (c (left t) ready-left-held) w) em

module _ {s : List ℕ} {h r : ℕ} (er : r ≡ (slot s h).right) (t u : Tree) (a : Held s h t) (w : ready_right_p t ≡ some u) where
  pub ready-right-held : Held s r (right t)
  ready-right-held = sub-right t a (ready-right-full t u w) er

  module _ (c : Colour s r false) where
    pub ready-right-in : HasSlot (length s) r
    ready-right-in = full-in (right t) ready-right-held (ready-right-child t u (c (right t) ready-right-held) w)

    pub ready-right-low : {m : ℕ} → m ≡ (slot s r).left → Held s m (left (right t))
    ready-right-low em = sub-left (right t) ready-right-held (ready-right-child t u (c (right t) ready-right-held) w) em
