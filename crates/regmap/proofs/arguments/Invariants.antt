use Rattle.std.proofs.Common.{◌≡◌, ◌≤◌, length}
use Rattle.regmap.proofs.arguments.Given as goal

abbrev pub invariant-loop-i : goal.invariant-loop-i
invariant-loop-i l = (l.at ≤ length l.line) × (length l.line ≡ length l.initial.line)
