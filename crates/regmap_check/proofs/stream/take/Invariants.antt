use mathlib.Core.Path.{◌≡◌}
use Prim.Native.Nat.{◌-◌}
use lib.ListN.{length}
use Rattle.regmap_check.proofs.stream.take.Given as goal

abbrev pub invariant-loop-n : goal.invariant-loop-n
invariant-loop-n l = length l.kept ≡ length l.initial.kept

abbrev pub decreases-loop-n : goal.decreases-loop-n
decreases-loop-n l = 0x1000000000000000 - l.n
