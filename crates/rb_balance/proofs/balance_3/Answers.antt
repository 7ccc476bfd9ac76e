use Rattle.llrb.specs.Tree.{left, right}
use Rattle.rb_nodes.proofs.Heap.{full-in, sub-left, sub-right}
use Rattle.rb_nodes.proofs.Colours.{seen, idle}
use Rattle.rb_balance.proofs.Balancing.{three-no, three-black, three-yes}
use Rattle.rb_balance.proofs.balance_3.Goals as goal
use Rattle.rb_balance.proofs.balance_3.Goals.{else-is_red-via-then-is_red+else-is_red-2, else-is_red-via-else-is_red}

pub left-requires : goal.left-requires
left-requires c =
    full-in c.requires.0 c.requires.1 c.requires.2

pub is_red-requires : goal.is_red-requires
is_red-requires c =
    (left c.requires.0, sub-left c.requires.0 c.requires.1 c.requires.2 c.left.ensures)

pub right-requires : goal.right-requires
right-requires c =
    full-in c.requires.0 c.requires.1 c.requires.2

pub is_red-requires-then-is_red : goal.is_red-requires-then-is_red
is_red-requires-then-is_red c =
    (right c.requires.0, sub-right c.requires.0 c.requires.1 c.requires.2 c.right.ensures)

pub returns-then-is_red-2 : goal.returns-then-is_red-2
returns-then-is_red-2 c =
    λ t u a f w. c.flip_colors.ensures t u a (three-yes t u a f c.left.ensures (seen c.is_red.ensures c.if-is_red.true) c.right.ensures (seen c.is_red-then-is_red.ensures c.if-is_red-2.true) w)

pub returns-else-is_red : goal.returns-else-is_red
returns-else-is_red c t u a f w =
    elim c.else-is_red.branch [
      | else-is_red-via-then-is_red+else-is_red-2 x ↦ idle a (three-black t u a f c.left.ensures (seen c.is_red.ensures x.if-is_red.true) x.right.ensures (seen x.is_red-then-is_red.ensures x.if-is_red-2.false) w)
      | else-is_red-via-else-is_red x ↦ idle a (three-no t u a f c.left.ensures (seen c.is_red.ensures x.if-is_red.false) w)
    ]
