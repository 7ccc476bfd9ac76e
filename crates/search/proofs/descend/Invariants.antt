use Rattle.std.specs.Prelude.{None}
use Rattle.store.specs.Decode.{entries_below}
use Rattle.search.proofs.Descent.{Along}
use Rattle.search.proofs.descend.Given as goal

abbrev pub invariant-loop-at : goal.invariant-loop-at
invariant-loop-at g l = Along (goal.F-post g l.turn) l.s l.root l.at None l.best

abbrev pub decreases-loop-at : goal.decreases-loop-at
decreases-loop-at g l = entries_below l.s l.at
