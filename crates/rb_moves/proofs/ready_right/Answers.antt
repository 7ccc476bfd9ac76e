use Rattle.llrb.specs.Tree.{left, right}
use Rattle.rb_nodes.proofs.Heap.{full-in}
use Rattle.rb_nodes.proofs.Colours.{seen, idle}
use Rattle.rb_moves.proofs.Readying.{ready-right-full, ready-right-red, ready-right-two, ready-right-move}
use Rattle.rb_moves.proofs.Lending.{ready-right-held, ready-right-in, ready-right-low}
use Rattle.rb_moves.proofs.ready_right.Goals as goal
use Rattle.rb_moves.proofs.ready_right.Goals.{else-not-is_red-via-then-not-is_red+else-not-is_red-2, else-not-is_red-via-else-not-is_red}

pub right-r-requires : goal.right-r-requires
right-r-requires c =
    full-in c.requires.0 c.requires.1 (ready-right-full c.requires.0 c.requires.2 c.requires.3)

pub is_red-requires : goal.is_red-requires
is_red-requires c =
    (right c.requires.0, ready-right-held c.right-r.ensures c.requires.0 c.requires.2 c.requires.1 c.requires.3)

pub left-requires : goal.left-requires
left-requires c =
    ready-right-in c.right-r.ensures c.requires.0 c.requires.2 c.requires.1 c.requires.3 (seen c.is_red.ensures c.if-not-is_red.true)

pub is_red-requires-then-not-is_red : goal.is_red-requires-then-not-is_red
is_red-requires-then-not-is_red c =
    (left (right c.requires.0), ready-right-low c.right-r.ensures c.requires.0 c.requires.2 c.requires.1 c.requires.3 (seen c.is_red.ensures c.if-not-is_red.true) c.left.ensures)

pub move_red_right-requires : goal.move_red_right-requires
move_red_right-requires c =
    let c1 = seen c.is_red.ensures c.if-not-is_red.true in (c.requires.0, c.requires.1, c.requires.2, ready-right-move c.requires.0 c.requires.2 (c1 (right c.requires.0) (ready-right-held c.right-r.ensures c.requires.0 c.requires.2 c.requires.1 c.requires.3)) (seen c.is_red-then-not-is_red.ensures c.if-not-is_red-2.true (left (right c.requires.0)) (ready-right-low c.right-r.ensures c.requires.0 c.requires.2 c.requires.1 c.requires.3 c1 c.left.ensures)) c.requires.3)

pub returns-then-not-is_red-2 : goal.returns-then-not-is_red-2
returns-then-not-is_red-2 c =
    λ t u a w. let c1 = seen c.is_red.ensures c.if-not-is_red.true in c.move_red_right.ensures t u a (ready-right-move t u (c1 (right t) (ready-right-held c.right-r.ensures t u a w)) (seen c.is_red-then-not-is_red.ensures c.if-not-is_red-2.true (left (right t)) (ready-right-low c.right-r.ensures t u a w c1 c.left.ensures)) w)

pub returns : goal.returns
returns c t u a w =
    elim c.else-not-is_red.branch [
      | else-not-is_red-via-then-not-is_red+else-not-is_red-2 x ↦ let c1 = seen c.is_red.ensures x.if-not-is_red.true in idle a (ready-right-two t u (c1 (right t) (ready-right-held c.right-r.ensures t u a w)) (seen x.is_red-then-not-is_red.ensures x.if-not-is_red-2.false (left (right t)) (ready-right-low c.right-r.ensures t u a w c1 x.left.ensures)) w)
      | else-not-is_red-via-else-not-is_red x ↦ idle a (ready-right-red t u (seen c.is_red.ensures x.if-not-is_red.false (right t) (ready-right-held c.right-r.ensures t u a w)) w)
    ]
