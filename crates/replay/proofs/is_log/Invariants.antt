use Prim.Native.Nat.{◌-◌}
use lib.ListN.{length}
use Rattle.replay.proofs.Reading.{Through}
use Rattle.replay.proofs.is_log.Given as goal

abbrev pub invariant-loop-at : goal.invariant-loop-at
invariant-loop-at l = Through l.log l.at

abbrev pub decreases-loop-at : goal.decreases-loop-at
decreases-loop-at l = length l.log - l.at
