use Rattle.llrb.specs.Tree.{left}
use Rattle.rb_nodes.proofs.Heap.{full-in, sub-left}
use Rattle.rb_nodes.proofs.Steps.{loosen}
use Rattle.rb_nodes.proofs.Colours.{seen, idle}
use Rattle.rb_moves.proofs.Readying.{lean-no, lean-yes}
use Rattle.rb_moves.proofs.lean_right.Goals as goal

pub left-l-requires : goal.left-l-requires
left-l-requires c =
    full-in c.requires.0 c.requires.1 c.requires.2

pub is_red-requires : goal.is_red-requires
is_red-requires c =
    (left c.requires.0, sub-left c.requires.0 c.requires.1 c.requires.2 c.left-l.ensures)

pub rotate_right-requires : goal.rotate_right-requires
rotate_right-requires c =
    (c.requires.0, c.requires.1, c.requires.3, lean-yes c.requires.0 c.requires.3 (seen c.is_red.ensures c.if-is_red.true (left c.requires.0) (sub-left c.requires.0 c.requires.1 c.requires.2 c.left-l.ensures)) c.requires.4)

pub returns-then-is_red : goal.returns-then-is_red
returns-then-is_red c =
    λ t u a f w. loosen (c.rotate_right.ensures t u a (lean-yes t u (seen c.is_red.ensures c.if-is_red.true (left t) (sub-left t a f c.left-l.ensures)) w))

pub returns : goal.returns
returns c =
    λ t u a f w. idle a (lean-no t u (seen c.is_red.ensures c.if-is_red.false (left t) (sub-left t a f c.left-l.ensures)) w)
