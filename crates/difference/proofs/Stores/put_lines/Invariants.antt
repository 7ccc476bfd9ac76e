use Rattle.difference.specs.Walking.{left_of}
use Rattle.difference.proofs.Saving.{Putting}
use Rattle.difference.proofs.Stores.put_lines.Given as goal

abbrev pub invariant-loop-line : goal.invariant-loop-line
invariant-loop-line l = Putting l.self.older.now l.self.newer.now l.initial.out l.at.in_old l.at.in_new l.out l.end

abbrev pub decreases-loop-line : goal.decreases-loop-line
decreases-loop-line l = left_of l.self.older.now l.self.newer.now l.at.in_old l.at.in_new
