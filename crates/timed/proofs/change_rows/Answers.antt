use mathlib.Core.Path.{refl}
use Rattle.timed.specs.Rows.{changed_rows}
use Rattle.timed.proofs.Rowing.{next-change}
use Rattle.timed.proofs.change_rows.Goals as goal

pub loop-i-init : goal.loop-i-init
unfolding changed_rows
loop-i-init c = (c.requires.sound, refl)

pub loop-i-preserved : goal.loop-i-preserved
loop-i-preserved c =
    (c.change.ensures.0, next-change _ _ _ _ _ _ _ c.loop-i.invariant.1 c.change.ensures.1)
