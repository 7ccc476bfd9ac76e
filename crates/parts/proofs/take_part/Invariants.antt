use mathlib.Core.Path.{◌≡◌}
use lib.ListN.{length}
use Rattle.parts.specs.Layout.{run}
use Rattle.parts.proofs.take_part.Given as goal

abbrev pub invariant-loop-rest : goal.invariant-loop-rest
invariant-loop-rest l = run l.initial.s l.bytes ≡ run l.s l.rest

abbrev pub decreases-loop-rest : goal.decreases-loop-rest
decreases-loop-rest l = length l.rest
