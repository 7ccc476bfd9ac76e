use Rattle.difference.specs.Walking.{left_of}
use Rattle.difference.proofs.Saving.{Measured}
use Rattle.difference.proofs.Stores.fit.Given as goal

abbrev pub invariant-loop-line : goal.invariant-loop-line
invariant-loop-line l = Measured l.self.older.now l.self.newer.now l.initial.left l.at.in_old l.at.in_new l.left

abbrev pub decreases-loop-line : goal.decreases-loop-line
decreases-loop-line l = left_of l.self.older.now l.self.newer.now l.at.in_old l.at.in_new
