use Rattle.search.proofs.Descent.{start, here_in, stops, ends, less-left, less-right, goes-left, goes-right}
use Rattle.search.proofs.descend.Goals as goal
use Rattle.search.proofs.descend.Goals.{then-at-eq0, else-at-eq0+in-Stop}

pub loop-at-init : goal.loop-at-init
loop-at-init g c = start c.requires.has_tree

pub turn-requires : goal.turn-requires
turn-requires g c = c.requires.may_turn _ _ (here_in c.loop-at.invariant c.if-at-eq0.false)

pub left-at-requires : goal.left-at-requires
left-at-requires g c = (here_in c.loop-at.invariant c.if-at-eq0.false).inside

pub loop-at-smaller-in-Left : goal.loop-at-smaller-in-Left
loop-at-smaller-in-Left g c = less-left c.loop-at.invariant c.if-at-eq0.false c.left-at.ensures

pub loop-at-preserved-in-Left : goal.loop-at-preserved-in-Left
loop-at-preserved-in-Left g c = goes-left c.loop-at.invariant c.if-at-eq0.false c.left-at.ensures c.in-Left.ensures

pub right-at-requires : goal.right-at-requires
right-at-requires g c = (here_in c.loop-at.invariant c.if-at-eq0.false).inside

pub loop-at-smaller : goal.loop-at-smaller
loop-at-smaller g c = less-right c.loop-at.invariant c.if-at-eq0.false c.right-at.ensures

pub loop-at-preserved : goal.loop-at-preserved
loop-at-preserved g c = goes-right c.loop-at.invariant c.if-at-eq0.false c.right-at.ensures c.in-Right.ensures

pub returns : goal.returns
returns g c =
    elim c.if-at-eq0.branch [
      | then-at-eq0 w ↦ rw w.result-is (ends c.loop-at.invariant w.if-at-eq0.true)
      | else-at-eq0+in-Stop w ↦ rw w.result-is (stops c.loop-at.invariant w.if-at-eq0.false w.in-Stop.ensures)
    ]
