use Rattle.llrb.specs.Tree.{left, right}
use Rattle.rb_nodes.proofs.Heap.{full-in}
use Rattle.rb_nodes.proofs.Colours.{seen, idle}
use Rattle.rb_moves.proofs.Readying.{move-red-left-2-full}
use Rattle.rb_moves.proofs.Lending.{move-red-left-2-in, move-red-left-2-low, lends, lent-link, lent-turn, lent-flip, lent-done, lent-not}
use Rattle.rb_moves.proofs.move_red_left_2.Goals as goal

pub right-r-requires : goal.right-r-requires
right-r-requires c =
    full-in c.requires.0 c.requires.1 (move-red-left-2-full c.requires.0 c.requires.2 c.requires.3).0

pub left-m-requires : goal.left-m-requires
left-m-requires c =
    move-red-left-2-in c.right-r.ensures c.requires.0 c.requires.2 c.requires.1 c.requires.3

pub is_red-requires : goal.is_red-requires
is_red-requires c =
    (left (right c.requires.0), move-red-left-2-low c.right-r.ensures c.requires.0 c.requires.2 c.requires.1 c.requires.3 c.left-m.ensures)

pub rotate_right-p-requires : goal.rotate_right-p-requires
rotate_right-p-requires c =
    lends c.right-r.ensures c.left-m.ensures (seen c.is_red.ensures c.if-is_red.true) c.requires.0 c.requires.2 c.requires.1 c.requires.3

pub set_right-requires : goal.set_right-requires
set_right-requires c =
    let parts = lent-link c.right-r.ensures c.left-m.ensures (seen c.is_red.ensures c.if-is_red.true) c.rotate_right-p.ensures c.requires.0 c.requires.2 c.requires.1 c.requires.3 in
    record { has_slot = parts.0; x_bound = parts.1 }

pub rotate_left-x-requires : goal.rotate_left-x-requires
rotate_left-x-requires c =
    lent-turn c.right-r.ensures c.left-m.ensures (seen c.is_red.ensures c.if-is_red.true) c.rotate_right-p.ensures c.set_right.ensures c.requires.0 c.requires.2 c.requires.1 c.requires.3

pub flip_colors-requires : goal.flip_colors-requires
flip_colors-requires c =
    lent-flip c.right-r.ensures c.left-m.ensures (seen c.is_red.ensures c.if-is_red.true) c.rotate_right-p.ensures c.set_right.ensures c.rotate_left-x.ensures c.requires.0 c.requires.2 c.requires.1 c.requires.3

pub returns-then-is_red : goal.returns-then-is_red
returns-then-is_red c =
    lent-done c.right-r.ensures c.left-m.ensures (seen c.is_red.ensures c.if-is_red.true) c.rotate_right-p.ensures c.set_right.ensures c.rotate_left-x.ensures c.flip_colors.ensures

pub returns : goal.returns
returns c =
    λ t u a w. idle a (lent-not c.right-r.ensures c.left-m.ensures (seen c.is_red.ensures c.if-is_red.false) t u a w)
