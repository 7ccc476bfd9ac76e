use Rattle.difference.specs.Walking.{left_of}
use Rattle.difference.proofs.Stepping.{Along}
use Rattle.difference.proofs.Stores.next_line.Given as goal

abbrev pub invariant-loop-line : goal.invariant-loop-line
invariant-loop-line l = Along l.self.older.now l.self.newer.now l.initial.at.in_old l.initial.at.in_new l.at.in_old l.at.in_new

abbrev pub decreases-loop-line : goal.decreases-loop-line
decreases-loop-line l = left_of l.self.older.now l.self.newer.now l.at.in_old l.at.in_new
