use Rattle.llrb.specs.Tree.{left, right}
use Rattle.rb_nodes.proofs.Heap.{full-in, sub-left, sub-right}
use Rattle.rb_nodes.proofs.Colours.{seen}
use Rattle.rb_delete.proofs.Deleting.{ready-left, ready-right, ready-both}
use Rattle.rb_delete.proofs.ready.Goals as goal
use Rattle.rb_delete.proofs.ready.Goals.{else-not-is_red-via-then-not-is_red+else-not-is_red-2, else-not-is_red-via-else-not-is_red}

pub left-requires : goal.left-requires
left-requires c =
    full-in c.requires.0 c.requires.1 c.requires.2

pub is_red-requires : goal.is_red-requires
is_red-requires c =
    (left c.requires.0, sub-left c.requires.0 c.requires.1 c.requires.2 c.left.ensures)

pub right-requires : goal.right-requires
right-requires c =
    full-in c.requires.0 c.requires.1 c.requires.2

pub is_red-requires-then-not-is_red : goal.is_red-requires-then-not-is_red
is_red-requires-then-not-is_red c =
    (right c.requires.0, sub-right c.requires.0 c.requires.1 c.requires.2 c.right.ensures)

pub set_red-requires : goal.set_red-requires
set_red-requires c =
    full-in c.requires.0 c.requires.1 c.requires.2

pub returns-then-not-is_red-2 : goal.returns-then-not-is_red-2
returns-then-not-is_red-2 c t a f =
    ready-both t a f c.left.ensures (seen c.is_red.ensures c.if-not-is_red.true) c.right.ensures (seen c.is_red-then-not-is_red.ensures c.if-not-is_red-2.true) c.set_red.ensures

pub returns-else-not-is_red : goal.returns-else-not-is_red
returns-else-not-is_red c t a f =
    elim c.else-not-is_red.branch [
      | else-not-is_red-via-then-not-is_red+else-not-is_red-2 x ↦ ready-right t a f c.left.ensures (seen c.is_red.ensures x.if-not-is_red.true) x.right.ensures (seen x.is_red-then-not-is_red.ensures x.if-not-is_red-2.false)
      | else-not-is_red-via-else-not-is_red x ↦ ready-left t a f c.left.ensures (seen c.is_red.ensures x.if-not-is_red.false)
    ]
