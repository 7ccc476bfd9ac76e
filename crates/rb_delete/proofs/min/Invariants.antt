use Rattle.store.specs.Decode.{entries_below}
use Rattle.rb_delete.proofs.Cutting.{Down}
use Rattle.rb_delete.proofs.min.Given as goal

abbrev pub invariant-loop-l : goal.invariant-loop-l
invariant-loop-l l = Down l.s l.h l.at

abbrev pub decreases-loop-l : goal.decreases-loop-l
decreases-loop-l l = entries_below l.s l.at
