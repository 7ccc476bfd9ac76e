use mathlib.Core.Path.{◌∙◌}
use Rattle.parts.proofs.Runs.{run-turn}
use Rattle.parts.proofs.take_part.Goals as goal

pub loop-rest-preserved-in-Some : goal.loop-rest-preserved-in-Some
loop-rest-preserved-in-Some c =
    c.loop-rest.invariant
    ∙ run-turn c.loop-rest.s c.take_run.new.s c.take_byte.new.s c.loop-rest.rest.now c.in-Some.after.now c.take_run.result c.in-Some.x.now c.take_run.ensures.1 c.in-Some.ensures.cases.0 c.take_byte.ensures
