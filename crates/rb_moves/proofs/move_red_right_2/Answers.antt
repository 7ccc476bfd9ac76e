use Rattle.llrb.specs.Tree.{left}
use Rattle.rb_nodes.proofs.Heap.{full-in}
use Rattle.rb_nodes.proofs.Colours.{seen, idle}
use Rattle.rb_moves.proofs.Readying.{move-red-right-2-full}
use Rattle.rb_moves.proofs.Lending.{move-red-right-2-in, move-red-right-2-low, lends-right, lent-right-flip, lent-right-done, lent-right-not}
use Rattle.rb_moves.proofs.move_red_right_2.Goals as goal

pub left-l-requires : goal.left-l-requires
left-l-requires c =
    full-in c.requires.0 c.requires.1 (move-red-right-2-full c.requires.0 c.requires.2 c.requires.3).0

pub left-m-requires : goal.left-m-requires
left-m-requires c =
    move-red-right-2-in c.left-l.ensures c.requires.0 c.requires.2 c.requires.1 c.requires.3

pub is_red-requires : goal.is_red-requires
is_red-requires c =
    (left (left c.requires.0), move-red-right-2-low c.left-l.ensures c.requires.0 c.requires.2 c.requires.1 c.requires.3 c.left-m.ensures)

pub rotate_right-x-requires : goal.rotate_right-x-requires
rotate_right-x-requires c =
    lends-right c.left-l.ensures c.left-m.ensures (seen c.is_red.ensures c.if-is_red.true) c.requires.0 c.requires.2 c.requires.1 c.requires.3

pub flip_colors-requires : goal.flip_colors-requires
flip_colors-requires c =
    lent-right-flip c.left-l.ensures c.left-m.ensures (seen c.is_red.ensures c.if-is_red.true) c.rotate_right-x.ensures c.requires.0 c.requires.2 c.requires.1 c.requires.3

pub returns-then-is_red : goal.returns-then-is_red
returns-then-is_red c =
    lent-right-done c.left-l.ensures c.left-m.ensures (seen c.is_red.ensures c.if-is_red.true) c.rotate_right-x.ensures c.flip_colors.ensures

pub returns : goal.returns
returns c =
    λ t u a w. idle a (lent-right-not c.left-l.ensures c.left-m.ensures (seen c.is_red.ensures c.if-is_red.false) t u a w)
