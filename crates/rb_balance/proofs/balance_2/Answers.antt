use Rattle.llrb.specs.Tree.{left}
use Rattle.rb_nodes.proofs.Heap.{full-in, sub-left}
use Rattle.rb_nodes.proofs.Steps.{loosen}
use Rattle.rb_nodes.proofs.Colours.{seen, idle}
use Rattle.rb_balance.proofs.Balancing.{left-full, two-no, two-black, two-yes}
use Rattle.rb_balance.proofs.balance_2.Goals as goal
use Rattle.rb_balance.proofs.balance_2.Goals.{else-is_red-via-then-is_red+else-is_red-2, else-is_red-via-else-is_red}

pub left-l-requires : goal.left-l-requires
left-l-requires c =
    full-in c.requires.0 c.requires.1 c.requires.2

pub is_red-requires : goal.is_red-requires
is_red-requires c =
    (left c.requires.0, sub-left c.requires.0 c.requires.1 c.requires.2 c.left-l.ensures)

pub left-requires : goal.left-requires
left-requires c =
    full-in (left c.requires.0) (sub-left c.requires.0 c.requires.1 c.requires.2 c.left-l.ensures) (left-full c.requires.0 c.requires.3 c.requires.1 c.requires.2 c.left-l.ensures (seen c.is_red.ensures c.if-is_red.true))

pub is_red-requires-then-is_red : goal.is_red-requires-then-is_red
is_red-requires-then-is_red c =
    (left (left c.requires.0), sub-left (left c.requires.0) (sub-left c.requires.0 c.requires.1 c.requires.2 c.left-l.ensures) (left-full c.requires.0 c.requires.3 c.requires.1 c.requires.2 c.left-l.ensures (seen c.is_red.ensures c.if-is_red.true)) c.left.ensures)

pub rotate_right-requires : goal.rotate_right-requires
rotate_right-requires c =
    (c.requires.0, c.requires.1, c.requires.3, two-yes c.requires.0 c.requires.3 c.requires.1 c.requires.2 c.left-l.ensures (seen c.is_red.ensures c.if-is_red.true) c.left.ensures (seen c.is_red-then-is_red.ensures c.if-is_red-2.true) c.requires.4)

pub returns-then-is_red-2 : goal.returns-then-is_red-2
returns-then-is_red-2 c =
    λ t u a f w. loosen (c.rotate_right.ensures t u a (two-yes t u a f c.left-l.ensures (seen c.is_red.ensures c.if-is_red.true) c.left.ensures (seen c.is_red-then-is_red.ensures c.if-is_red-2.true) w))

pub returns : goal.returns
returns c t u a f w =
    elim c.else-is_red.branch [
      | else-is_red-via-then-is_red+else-is_red-2 x ↦ idle a (two-black t u a f c.left-l.ensures (seen c.is_red.ensures x.if-is_red.true) x.left.ensures (seen x.is_red-then-is_red.ensures x.if-is_red-2.false) w)
      | else-is_red-via-else-is_red x ↦ idle a (two-no t u a f c.left-l.ensures (seen c.is_red.ensures x.if-is_red.false) w)
    ]
