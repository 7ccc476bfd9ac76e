use mathlib.Core.Path.{refl}
use native.Mathlib.Omega.{arith}
use Rattle.timed.specs.Rows.{counted_rows, output_rows}
use Rattle.timed.proofs.Rowing.{next-counted, next-output}
use Rattle.timed.proofs.read_rows.Goals as goal

pub loop-i-init : goal.loop-i-init
unfolding counted_rows output_rows
loop-i-init c = (omega arith, refl, refl)

pub loop-i-preserved : goal.loop-i-preserved
loop-i-preserved c =
    (omega arith, next-counted _ _ _ c.args.lasts.now _ _ c.loop-i.invariant.1 c.read-r.ensures.0, next-output _ _ _ _ _ _ _ c.loop-i.invariant.2 c.read-r.ensures.2)
