use Rattle.parts.specs.Layout.{climbed}
use mathlib.Core.Path.{◌≡◌}
use Rattle.parts.proofs.climb.Given as goal

abbrev pub invariant-loop-i : goal.invariant-loop-i
invariant-loop-i l = climbed l.s l.levels l.initial.digest ≡ climbed l.s l.i l.digest
