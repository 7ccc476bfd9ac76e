use Rattle.text.proofs.Lines.{start_first, start-next}
use Rattle.text.proofs.words.start.Goals as goal

pub loop-init : goal.loop-init
loop-init c =
    record { within = c.skip-at.ensures.lower_bound.1; reached = start_first c.args.line.now 0 _ c.skip-at.ensures.value }

pub loop-preserved : goal.loop-preserved
loop-preserved c =
    record { within = c.skip-at-in-loop.ensures.lower_bound.1; reached = start-next c.args.line.now _ _ _ _ c.loop.invariant.reached c.find.ensures.value c.skip-at-in-loop.ensures.value }
