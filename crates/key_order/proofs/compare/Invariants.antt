use Rattle.std.proofs.Common.{◌*◌}
use Rattle.key_order.proofs.Comparing.{Upto}
use Rattle.key_order.proofs.compare.Given as goal

abbrev pub invariant-loop-k : goal.invariant-loop-k
invariant-loop-k l = Upto l.a l.b (8 * l.k)

abbrev pub invariant-loop-i : goal.invariant-loop-i
invariant-loop-i l = Upto l.a l.b l.i
