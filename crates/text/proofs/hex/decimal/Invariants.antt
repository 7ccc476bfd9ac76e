use Rattle.text.proofs.Numbers.{Upto}
use Rattle.text.proofs.hex.decimal.Given as goal

abbrev pub invariant-loop-b : goal.invariant-loop-b
invariant-loop-b l = Upto l.word l.n l.b-index
