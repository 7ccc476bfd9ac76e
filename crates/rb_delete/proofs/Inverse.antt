-- What the success of the Rust's delete says, at each branch of the code. No byte and no red-black law appears here.
use mathlib.Core.Path.{◌≡◌, refl, sym, ap, subst, ◌∙◌}
use mathlib.Core.Bool.{Bool, true, false}
use mathlib.Core.Option.{Option, none, some}
use Prim.Native.Nat.{ℕ, zero, suc}
use native.Mathlib.Omega.{arith}
use Rattle.std.specs.declared.cmp.Ordering.{Ordering}
use Rattle.std.specs.declared.cmp.Ordering.TheVariants.{Less, Equal, Greater}
use Rattle.key_order.specs.Order.{Key, cmp, pick}
use Rattle.llrb.specs.Tree.{Entry, Tree, nil, node, left, right, is_red}
use Rattle.llrb.specs.Delete.{least, moved}
use Rattle.llrb.specs.Panic.{and_then, flip_colors_p, rotate_left_p, move_red_left₂_p, balance_p, ready_left_p, ready_right_p, lean_right_p, on_left_p, delete_min_p, delete_go_p, take_right_p, go_right_p}
use Rattle.rb_nodes.specs.Heap.{Full, hang_left, hang_right}
use Rattle.rb_nodes.proofs.Option.{no, same, parts}
use Rattle.rb_balance.proofs.Turning.{at-rotate_left}
use Rattle.rb_balance.proofs.Flipping.{at-flip_colors}
use Rattle.rb_delete.specs.Deletes.{renew}
use Rattle.rb_nodes.proofs.Comparing.{top_key}
use Rattle.rb_moves.proofs.Readying.{move-red-left-2-no, move-red-left-2-yes, ready-left-red, ready-left-two, ready-left-move}

-- ---- on the left, for both recursions

record OnLeft (G : Tree → Option Tree) (v w : Tree) : Type 0 where
  full : Full v
  child : Full (left v)
  y : Tree
  below : G (left v) ≡ some y
  made : w ≡ hang_left y v

on-left : (G : Tree → Option Tree) (v w : Tree) → on_left_p G v ≡ some w → OnLeft G v w
on-left G nil w q = absurd (no q)
on-left G (node c e nil r) w q = absurd (no q)
on-left G (node c e (node d x ll lr) r) w q =
    let m = parts (G (node d x ll lr)) (λ t. some (node c e t r)) q in
    record { full = tt; child = tt; y = m.0; below = m.1; made = sym (same m.2) }

pub record Lefts (G : Tree → Option Tree) (t u : Tree) : Type 0 where
  pub v : Tree
  pub ready : ready_left_p t ≡ some v
  pub full : Full v
  pub child : Full (left v)
  pub y : Tree
  pub below : G (left v) ≡ some y
  pub up : balance_p (hang_left y v) ≡ some u

lefts : (G : Tree → Option Tree) (t u : Tree) → and_then (and_then (ready_left_p t) (λ z. on_left_p G z)) balance_p ≡ some u → Lefts G t u
lefts G t u w =
    let a = parts (and_then (ready_left_p t) (λ z. on_left_p G z)) balance_p w in
    let b = parts (ready_left_p t) (λ z. on_left_p G z) a.1 in
    let o = on-left G b.0 a.0 b.2 in
    record { v = b.0; ready = b.1; full = o.full; child = o.child; y = o.y; below = o.below; up = subst (λ (z : Tree). balance_p z ≡ some u) o.made a.2 }

-- ---- delete_min

pub min-full : (n : ℕ) (t u : Tree) → delete_min_p n t ≡ some u → Full t
unfolding delete_min_p
min-full zero t u w = absurd (no w)
min-full (suc n) nil u w = absurd (no w)
min-full (suc n) (node c e l r) u w = tt

pub data Leaf : Tree → Type 0 where
  leaf : {c : Bool} {e : Entry} → Leaf (node c e nil nil)

pub min-leaf : (n : ℕ) (t u : Tree) → left t ≡ nil → delete_min_p n t ≡ some u → Leaf t × (u ≡ nil)
unfolding delete_min_p
min-leaf zero t u q w = absurd (no w)
min-leaf (suc n) nil u q w = absurd (no w)
min-leaf (suc n) (node c e nil nil) u q w = (leaf, sym (same w))
min-leaf (suc n) (node c e nil (node d x rl rr)) u q w = absurd (no w)
min-leaf (suc n) (node c e (node d x ll lr) r) u q w = absurd (let z : ◌≡◌ {A = ℕ} 0 1 = cc in omega arith)

pub min-lefts : (n : ℕ) (t u : Tree) → Full (left t) → delete_min_p n t ≡ some u → (f : ℕ) × Lefts (λ z. delete_min_p f z) t u
unfolding delete_min_p
min-lefts zero t u f w = absurd (no w)
min-lefts (suc n) nil u f w = absurd f
min-lefts (suc n) (node c e nil r) u f w = absurd f
min-lefts (suc n) (node c e (node d x ll lr) r) u f w = (n, lefts (λ z. delete_min_p n z) (node c e (node d x ll lr) r) u w)

-- the least entry stays the least
least-flip : (d : Entry) (t u : Tree) → flip_colors_p t ≡ some u → least d u ≡ least d t
least-flip d t u w = at-flip_colors (λ t u. least d u ≡ least d t) (λ c e b x ll lr b' y rl rr. refl) t u w

least-turn : (d : Entry) (t u : Tree) → rotate_left_p t ≡ some u → least d u ≡ least d t
least-turn d t u w = at-rotate_left (λ t u. least d u ≡ least d t) (λ c e l x rl rr. refl) t u w

least-right : (d : Entry) (v t : Tree) → least d (hang_right v t) ≡ least d t
least-right d v nil = refl
least-right d v (node c e l r) = refl

least-lend : (d : Entry) (t u : Tree) → move_red_left₂_p t ≡ some u → least d u ≡ least d t
least-lend d t u w = go (is_red (left (right t))) refl
  where
    go : (b : Bool) → is_red (left (right t)) ≡ b → least d u ≡ least d t
    go true q =
        let i = move-red-left-2-yes t u q w in
        least-flip d i.v' u i.three ∙ least-turn d (hang_right i.v t) i.v' i.two ∙ least-right d i.v t
    go false q = ap (least d) (sym (move-red-left-2-no t u q w))

least-ready : (d : Entry) (t v : Tree) → ready_left_p t ≡ some v → least d v ≡ least d t
least-ready d t v w = go (is_red (left t)) (is_red (left (left t))) refl refl
  where
    go : (b b' : Bool) → is_red (left t) ≡ b → is_red (left (left t)) ≡ b' → least d v ≡ least d t
    go true b' q q' = ap (least d) (sym (ready-left-red t v q w))
    go false true q q' = ap (least d) (sym (ready-left-two t v q q' w))
    go false false q q' =
        let m = parts (flip_colors_p t) move_red_left₂_p (ready-left-move t v q q' w) in
        least-lend d m.0 v m.2 ∙ least-flip d t m.0 m.1

pub least-left : (d : Entry) (v : Tree) → Full (left v) → least d (left v) ≡ least d v
least-left d nil f = absurd f
least-left d (node c e nil r) f = absurd f
least-left d (node c e (node b x ll lr) r) f = refl

pub least-same : (d : Entry) (t v : Tree) → ready_left_p t ≡ some v → Full (left v) → least d (left v) ≡ least d t
least-same d t v w f = least-left d v f ∙ least-ready d t v w

-- ---- go

pub go-full : (n : ℕ) (k : Key) (t u : Tree) → delete_go_p n k t ≡ some u → Full t
unfolding delete_go_p
go-full zero k t u w = absurd (no w)
go-full (suc n) k nil u w = absurd (no w)
go-full (suc n) k (node c e l r) u w = tt

pub go-lefts : (n : ℕ) (k : Key) (t u : Tree) → cmp k (top_key t k) ≡ Less → delete_go_p n k t ≡ some u → (f : ℕ) × Lefts (λ z. delete_go_p f k z) t u
unfolding delete_go_p
go-lefts zero k t u q w = absurd (no w)
go-lefts (suc n) k nil u q w = absurd (no w)
go-lefts (suc n) k (node c e l r) u q w =
    let w' : and_then (and_then (ready_left_p (node c e l r)) (λ z. on_left_p (λ y. delete_go_p n k y) z)) balance_p ≡ some u = rw q at w in
    (n, lefts (λ z. delete_go_p n k z) (node c e l r) u w')

pub record Leans (k : Key) (t u : Tree) : Type 0 where
  pub f : ℕ
  pub v : Tree
  pub lean : lean_right_p t ≡ some v
  pub rest : go_right_p k (λ z. delete_go_p f k z) (λ z. delete_min_p f z) v ≡ some u

pub go-leans : (n : ℕ) (k : Key) (t u : Tree) → (cmp k (top_key t k) ≡ Less → ⊥) → delete_go_p n k t ≡ some u → Leans k t u
unfolding delete_go_p
go-leans zero k t u q w = absurd (no w)
go-leans (suc n) k nil u q w = absurd (no w)
go-leans (suc n) k (node c e l r) u q w = at (cmp k e.key) refl
  where
    R : Option Tree
    R = and_then (lean_right_p (node c e l r)) (λ z. go_right_p k (λ y. delete_go_p n k y) (λ y. delete_min_p n y) z)

    done : R ≡ some u → Leans k (node c e l r) u
    done w' = let m = parts (lean_right_p (node c e l r)) (λ z. go_right_p k (λ y. delete_go_p n k y) (λ y. delete_min_p n y) z) w' in record { f = n; v = m.0; lean = m.1; rest = m.2 }

    at : (o : Ordering) → cmp k e.key ≡ o → Leans k (node c e l r) u
    at Less p = absurd (q p)
    at Equal p = done (rw p at w)
    at Greater p = done (rw p at w)

module _ (k : Key) (G M : Tree → Option Tree) where
  pub right-full : (v u : Tree) → go_right_p k G M v ≡ some u → Full v
  right-full nil u w = absurd (no w)
  right-full (node c e l r) u w = tt

  pub right-leaf : (v u : Tree) → right v ≡ nil → go_right_p k G M v ≡ some u → Leaf v × (u ≡ nil)
  right-leaf nil u q w = absurd (no w)
  right-leaf (node c e nil nil) u q w = (leaf, at (cmp k e.key) w)
    where
      at : (o : Ordering) → pick o none (some nil) none ≡ some u → u ≡ nil
      at Less z = absurd (no z)
      at Equal z = sym (same z)
      at Greater z = absurd (no z)
  right-leaf (node c e (node d x ll lr) nil) u q w = absurd (no w)
  right-leaf (node c e l (node d x rl rr)) u q w = absurd (let z : ◌≡◌ {A = ℕ} 0 1 = cc in omega arith)

  pub record Rights (v u : Tree) : Type 0 where
    pub x : Tree
    pub ready : ready_right_p v ≡ some x
    pub y : Tree
    pub take : take_right_p k G M x ≡ some y
    pub up : balance_p y ≡ some u

  pub rights : (v u : Tree) → Full (right v) → go_right_p k G M v ≡ some u → Rights v u
  rights nil u f w = absurd f
  rights (node c e l nil) u f w = absurd f
  rights (node c e nil (node d x rl rr)) u f w = chain (node c e nil (node d x rl rr)) w
    where
      chain : (v : Tree) → and_then (and_then (ready_right_p v) (λ t. take_right_p k G M t)) balance_p ≡ some u → Rights v u
      chain v q =
          let a = parts (and_then (ready_right_p v) (λ t. take_right_p k G M t)) balance_p q in
          let b = parts (ready_right_p v) (λ t. take_right_p k G M t) a.1 in
          record { x = b.0; ready = b.1; y = a.0; take = b.2; up = a.2 }
  rights (node c e (node b y ll lr) (node d x rl rr)) u f w = chain (node c e (node b y ll lr) (node d x rl rr)) w
    where
      chain : (v : Tree) → and_then (and_then (ready_right_p v) (λ t. take_right_p k G M t)) balance_p ≡ some u → Rights v u
      chain v q =
          let a = parts (and_then (ready_right_p v) (λ t. take_right_p k G M t)) balance_p q in
          let b = parts (ready_right_p v) (λ t. take_right_p k G M t) a.1 in
          record { x = b.0; ready = b.1; y = a.0; take = b.2; up = a.2 }

  pub take-full : (x y : Tree) → take_right_p k G M x ≡ some y → Full x × Full (right x)
  take-full nil y w = absurd (no w)
  take-full (node c e l nil) y w = absurd (no w)
  take-full (node c e l (node d x rl rr)) y w = (tt, tt)

  -- the key is at the top: the next entry comes up
  pub take_next : (x y : Tree) → cmp k (top_key x k) ≡ Equal → take_right_p k G M x ≡ some y → (z : Tree) × (M (right x) ≡ some z) × (y ≡ hang_right z (renew x))
  take_next nil y q w = absurd (no w)
  take_next (node c e l nil) y q w = absurd (no w)
  take_next (node c e l (node d x rl rr)) y q w =
      let w' : and_then (M (node d x rl rr)) (λ t. some (node c (moved e (least e (node d x rl rr))) l t)) ≡ some y = rw q at w in
      let m = parts (M (node d x rl rr)) (λ t. some (node c (moved e (least e (node d x rl rr))) l t)) w' in
      (m.0, m.1, sym (same m.2))

  -- it is further on
  pub take_on : (x y : Tree) → (cmp k (top_key x k) ≡ Equal → ⊥) → take_right_p k G M x ≡ some y → (z : Tree) × (G (right x) ≡ some z) × (y ≡ hang_right z x)
  take_on nil y q w = absurd (no w)
  take_on (node c e l nil) y q w = absurd (no w)
  take_on (node c e l (node d x rl rr)) y q w = at (cmp k e.key) refl
    where
      done : and_then (G (node d x rl rr)) (λ t. some (node c e l t)) ≡ some y → (z : Tree) × (G (node d x rl rr) ≡ some z) × (y ≡ node c e l z)
      done w' = let m = parts (G (node d x rl rr)) (λ t. some (node c e l t)) w' in (m.0, m.1, sym (same m.2))

      at : (o : Ordering) → cmp k e.key ≡ o → (z : Tree) × (G (node d x rl rr) ≡ some z) × (y ≡ node c e l z)
      at Less p = done (rw p at w)
      at Equal p = absurd (q p)
      at Greater p = done (rw p at w)
