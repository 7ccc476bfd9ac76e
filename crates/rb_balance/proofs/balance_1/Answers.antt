use Rattle.llrb.specs.Tree.{left, right}
use Rattle.rb_nodes.proofs.Heap.{full-in, sub-left, sub-right}
use Rattle.rb_nodes.proofs.Steps.{loosen}
use Rattle.rb_nodes.proofs.Colours.{seen, idle}
use Rattle.rb_balance.proofs.Balancing.{one-no, one_left, one-yes}
use Rattle.rb_balance.proofs.balance_1.Goals as goal
use Rattle.rb_balance.proofs.balance_1.Goals.{else-is_red-via-then-is_red+else-not-is_red, else-is_red-via-else-is_red}

pub right-requires : goal.right-requires
right-requires c =
    full-in c.requires.0 c.requires.1 c.requires.2

pub is_red-requires : goal.is_red-requires
is_red-requires c =
    (right c.requires.0, sub-right c.requires.0 c.requires.1 c.requires.2 c.right.ensures)

pub left-requires : goal.left-requires
left-requires c =
    full-in c.requires.0 c.requires.1 c.requires.2

pub is_red-requires-then-is_red : goal.is_red-requires-then-is_red
is_red-requires-then-is_red c =
    (left c.requires.0, sub-left c.requires.0 c.requires.1 c.requires.2 c.left.ensures)

pub rotate_left-requires : goal.rotate_left-requires
rotate_left-requires c =
    (c.requires.0, c.requires.1, c.requires.3, one-yes c.requires.0 c.requires.3 c.requires.1 c.requires.2 c.right.ensures (seen c.is_red.ensures c.if-is_red.true) c.left.ensures (seen c.is_red-then-is_red.ensures c.if-not-is_red.true) c.requires.4)

pub returns-then-not-is_red : goal.returns-then-not-is_red
returns-then-not-is_red c =
    λ t u a f w. loosen (c.rotate_left.ensures t u a (one-yes t u a f c.right.ensures (seen c.is_red.ensures c.if-is_red.true) c.left.ensures (seen c.is_red-then-is_red.ensures c.if-not-is_red.true) w))

pub returns : goal.returns
returns c t u a f w =
    elim c.else-is_red.branch [
      | else-is_red-via-then-is_red+else-not-is_red x ↦ idle a (one_left t u a f c.right.ensures (seen c.is_red.ensures x.if-is_red.true) x.left.ensures (seen x.is_red-then-is_red.ensures x.if-not-is_red.false) w)
      | else-is_red-via-else-is_red x ↦ idle a (one-no t u a f c.right.ensures (seen c.is_red.ensures x.if-is_red.false) w)
    ]
