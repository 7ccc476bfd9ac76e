-- The moves of delete: where the Rust's function succeeds, the children that the code reads are there; and what each branch says of it.
-- No byte appears here.
use mathlib.Core.Path.{◌≡◌}
use mathlib.Core.Bool.{true, false}
use mathlib.Core.Option.{some}
use Rattle.llrb.specs.Tree.{Tree, nil, node, left, right, is_red}
use Rattle.llrb.specs.Panic.{and_then, rotate_left_p, rotate_right_p, flip_colors_p, move_red_left₂_p, move_red_right₂_p, ready_left_p, ready_right_p, lean_right_p}
use Rattle.rb_nodes.specs.Heap.{Full, hang_right}
use Rattle.rb_nodes.proofs.Option.{no, same, parts}
use Rattle.rb_moves.specs.Moves.{move_red_left_p, move_red_right_p}

pub lean-no : (t u : Tree) → is_red (left t) ≡ false → lean_right_p t ≡ some u → t ≡ u
unfolding lean_right_p
lean-no t u q w = same (rw q at w)

pub lean-yes : (t u : Tree) → is_red (left t) ≡ true → lean_right_p t ≡ some u → rotate_right_p t ≡ some u
unfolding lean_right_p
lean-yes t u q w = rw q at w

pub move-red-left-2-full : (t u : Tree) → move_red_left₂_p t ≡ some u → Full t × Full (right t)
move-red-left-2-full nil u w = absurd (no w)
move-red-left-2-full (node c e l nil) u w = absurd (no w)
move-red-left-2-full (node c e l (node d x rl rr)) u w = (tt, tt)

pub move-red-left-2-no : (t u : Tree) → is_red (left (right t)) ≡ false → move_red_left₂_p t ≡ some u → t ≡ u
move-red-left-2-no nil u q w = absurd (no w)
move-red-left-2-no (node c e l nil) u q w = absurd (no w)
move-red-left-2-no (node c e l (node d x rl rr)) u q w = same (rw q at w)

pub record LendL (t u : Tree) : Type 0 where
  pub v : Tree
  pub v' : Tree
  pub one : rotate_right_p (right t) ≡ some v
  pub two : rotate_left_p (hang_right v t) ≡ some v'
  pub three : flip_colors_p v' ≡ some u

pub move-red-left-2-yes : (t u : Tree) → is_red (left (right t)) ≡ true → move_red_left₂_p t ≡ some u → LendL t u
move-red-left-2-yes nil u q w = absurd (no w)
move-red-left-2-yes (node c e l nil) u q w = absurd (no w)
move-red-left-2-yes (node c e l (node d x rl rr)) u q w =
    let w' : and_then (and_then (rotate_right_p (node d x rl rr)) (λ r. rotate_left_p (node c e l r))) flip_colors_p ≡ some u = rw q at w in
    let m = parts (and_then (rotate_right_p (node d x rl rr)) (λ r. rotate_left_p (node c e l r))) flip_colors_p w' in
    let k = parts (rotate_right_p (node d x rl rr)) (λ r. rotate_left_p (node c e l r)) m.1 in
    record { v = k.0; v' = m.0; one = k.1; two = k.2; three = m.2 }

pub move-red-right-2-full : (t u : Tree) → move_red_right₂_p t ≡ some u → Full t × Full (left t)
move-red-right-2-full nil u w = absurd (no w)
move-red-right-2-full (node c e nil r) u w = absurd (no w)
move-red-right-2-full (node c e (node d x ll lr) r) u w = (tt, tt)

pub move-red-right-2-no : (t u : Tree) → is_red (left (left t)) ≡ false → move_red_right₂_p t ≡ some u → t ≡ u
move-red-right-2-no nil u q w = absurd (no w)
move-red-right-2-no (node c e nil r) u q w = absurd (no w)
move-red-right-2-no (node c e (node d x ll lr) r) u q w = same (rw q at w)

pub move-red-right-2-yes : (t u : Tree) → is_red (left (left t)) ≡ true → move_red_right₂_p t ≡ some u → (v : Tree) × (rotate_right_p t ≡ some v) × (flip_colors_p v ≡ some u)
move-red-right-2-yes nil u q w = absurd (no w)
move-red-right-2-yes (node c e nil r) u q w = absurd (no w)
move-red-right-2-yes (node c e (node d x ll lr) r) u q w = parts (rotate_right_p (node c e (node d x ll lr) r)) flip_colors_p (rw q at w)

pub ready-left-full : (t u : Tree) → ready_left_p t ≡ some u → Full t
unfolding ready_left_p
ready-left-full nil u w = absurd (no w)
ready-left-full (node c e l r) u w = tt

pub ready-left-red : (t u : Tree) → is_red (left t) ≡ true → ready_left_p t ≡ some u → t ≡ u
unfolding ready_left_p
ready-left-red t u q w = same (rw q at w)

pub ready-left-child : (t u : Tree) → is_red (left t) ≡ false → ready_left_p t ≡ some u → Full (left t)
unfolding ready_left_p
ready-left-child nil u q w = absurd (no w)
ready-left-child (node c e nil r) u q w = absurd (no w)
ready-left-child (node c e (node d x ll lr) r) u q w = tt

pub ready-left-two : (t u : Tree) → is_red (left t) ≡ false → is_red (left (left t)) ≡ true → ready_left_p t ≡ some u → t ≡ u
unfolding ready_left_p
ready-left-two nil u q z w = absurd (no w)
ready-left-two (node c e nil r) u q z w = absurd (no w)
ready-left-two (node c e (node d x ll lr) r) u q z w = let w' : some (node c e (node false x ll lr) r) ≡ some u = rw (q, z) at w in cc

pub ready-left-move : (t u : Tree) → is_red (left t) ≡ false → is_red (left (left t)) ≡ false → ready_left_p t ≡ some u → move_red_left_p t ≡ some u
unfolding ready_left_p
ready-left-move nil u q z w = absurd (no w)
ready-left-move (node c e nil r) u q z w = absurd (no w)
ready-left-move (node c e (node d x ll lr) r) u q z w = rw (q, z) at w

pub ready-right-full : (t u : Tree) → ready_right_p t ≡ some u → Full t
unfolding ready_right_p
ready-right-full nil u w = absurd (no w)
ready-right-full (node c e l r) u w = tt

pub ready-right-red : (t u : Tree) → is_red (right t) ≡ true → ready_right_p t ≡ some u → t ≡ u
unfolding ready_right_p
ready-right-red t u q w = same (rw q at w)

pub ready-right-child : (t u : Tree) → is_red (right t) ≡ false → ready_right_p t ≡ some u → Full (right t)
unfolding ready_right_p
ready-right-child nil u q w = absurd (no w)
ready-right-child (node c e l nil) u q w = absurd (no w)
ready-right-child (node c e l (node d x rl rr)) u q w = tt

pub ready-right-two : (t u : Tree) → is_red (right t) ≡ false → is_red (left (right t)) ≡ true → ready_right_p t ≡ some u → t ≡ u
unfolding ready_right_p
ready-right-two nil u q z w = absurd (no w)
ready-right-two (node c e l nil) u q z w = absurd (no w)
ready-right-two (node c e l (node d x rl rr)) u q z w = let w' : some (node c e l (node false x rl rr)) ≡ some u = rw (q, z) at w in cc

pub ready-right-move : (t u : Tree) → is_red (right t) ≡ false → is_red (left (right t)) ≡ false → ready_right_p t ≡ some u → move_red_right_p t ≡ some u
unfolding ready_right_p
ready-right-move nil u q z w = absurd (no w)
ready-right-move (node c e l nil) u q z w = absurd (no w)
ready-right-move (node c e l (node d x rl rr)) u q z w = rw q (rw (q, z) at w)
