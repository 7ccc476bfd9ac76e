use Rattle.rb_delete.proofs.Cutting.{down-start, down-in, down-left, down-less, down-end}
use Rattle.rb_delete.proofs.min.Goals as goal

pub loop-l-init : goal.loop-l-init
loop-l-init c =
    down-start c.requires

pub left-l-requires : goal.left-l-requires
left-l-requires c =
    down-in c.loop-l.invariant

pub loop-l-smaller : goal.loop-l-smaller
loop-l-smaller c =
    down-less c.loop-l.invariant c.left-l.ensures

pub loop-l-preserved : goal.loop-l-preserved
loop-l-preserved c =
    down-left c.loop-l.invariant c.left-l.ensures c.if-l-eq0.false

pub returns : goal.returns
returns c =
    down-end c.loop-l.invariant c.left-l.ensures c.if-l-eq0.true
