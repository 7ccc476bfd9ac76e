use Rattle.replay.proofs.Reading.{step, stops, through, unreadable}
use Rattle.replay.proofs.is_log.Goals as goal

pub returns-in_default : goal.returns-in_default
returns-in_default c =
    stops _ _ c.loop-at.invariant (unreadable _ _ c.loop-at-test.true _ c.in_default.ensures)

pub loop-at-preserved : goal.loop-at-preserved
loop-at-preserved c =
    step _ _ c.loop-at-test.true c.in-Ok.ensures c.loop-at.invariant

pub returns : goal.returns
returns c =
    through _ _ c.loop-at-test.false c.loop-at.invariant
