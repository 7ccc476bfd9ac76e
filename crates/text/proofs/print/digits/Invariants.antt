use Rattle.std.proofs.Common.{◌≡◌}
use Rattle.text.proofs.print.digits.Given as goal

abbrev pub invariant-loop-pair : goal.invariant-loop-pair
invariant-loop-pair l = l.pair-iterator.a.size ≡ 2

abbrev pub invariant-loop-part : goal.invariant-loop-part
invariant-loop-part l = l.part-iterator.size ≡ 2048
