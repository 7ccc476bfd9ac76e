use Rattle.llrb.specs.Tree.{left}
use Rattle.rb_nodes.proofs.Heap.{full-in}
use Rattle.rb_nodes.proofs.Colours.{seen, idle}
use Rattle.rb_moves.proofs.Readying.{ready-left-full, ready-left-red, ready-left-two, ready-left-move}
use Rattle.rb_moves.proofs.Lending.{ready-left-held, ready-left-in, ready-left-low}
use Rattle.rb_moves.proofs.ready_left.Goals as goal
use Rattle.rb_moves.proofs.ready_left.Goals.{else-not-is_red-via-then-not-is_red+else-not-is_red-2, else-not-is_red-via-else-not-is_red}

pub left-l-requires : goal.left-l-requires
left-l-requires c =
    full-in c.requires.0 c.requires.1 (ready-left-full c.requires.0 c.requires.2 c.requires.3)

pub is_red-requires : goal.is_red-requires
is_red-requires c =
    (left c.requires.0, ready-left-held c.left-l.ensures c.requires.0 c.requires.2 c.requires.1 c.requires.3)

pub left-requires : goal.left-requires
left-requires c =
    ready-left-in c.left-l.ensures c.requires.0 c.requires.2 c.requires.1 c.requires.3 (seen c.is_red.ensures c.if-not-is_red.true)

pub is_red-requires-then-not-is_red : goal.is_red-requires-then-not-is_red
is_red-requires-then-not-is_red c =
    (left (left c.requires.0), ready-left-low c.left-l.ensures c.requires.0 c.requires.2 c.requires.1 c.requires.3 (seen c.is_red.ensures c.if-not-is_red.true) c.left.ensures)

pub move_red_left-requires : goal.move_red_left-requires
move_red_left-requires c =
    let c1 = seen c.is_red.ensures c.if-not-is_red.true in (c.requires.0, c.requires.1, c.requires.2, ready-left-move c.requires.0 c.requires.2 (c1 (left c.requires.0) (ready-left-held c.left-l.ensures c.requires.0 c.requires.2 c.requires.1 c.requires.3)) (seen c.is_red-then-not-is_red.ensures c.if-not-is_red-2.true (left (left c.requires.0)) (ready-left-low c.left-l.ensures c.requires.0 c.requires.2 c.requires.1 c.requires.3 c1 c.left.ensures)) c.requires.3)

pub returns-then-not-is_red-2 : goal.returns-then-not-is_red-2
returns-then-not-is_red-2 c =
    λ t u a w. let c1 = seen c.is_red.ensures c.if-not-is_red.true in c.move_red_left.ensures t u a (ready-left-move t u (c1 (left t) (ready-left-held c.left-l.ensures t u a w)) (seen c.is_red-then-not-is_red.ensures c.if-not-is_red-2.true (left (left t)) (ready-left-low c.left-l.ensures t u a w c1 c.left.ensures)) w)

pub returns : goal.returns
returns c t u a w =
    elim c.else-not-is_red.branch [
      | else-not-is_red-via-then-not-is_red+else-not-is_red-2 x ↦ let c1 = seen c.is_red.ensures x.if-not-is_red.true in idle a (ready-left-two t u (c1 (left t) (ready-left-held c.left-l.ensures t u a w)) (seen x.is_red-then-not-is_red.ensures x.if-not-is_red-2.false (left (left t)) (ready-left-low c.left-l.ensures t u a w c1 x.left.ensures)) w)
      | else-not-is_red-via-else-not-is_red x ↦ idle a (ready-left-red t u (seen c.is_red.ensures x.if-not-is_red.false (left t) (ready-left-held c.left-l.ensures t u a w)) w)
    ]
