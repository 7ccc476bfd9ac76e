use Rattle.judge.specs.Steps.{Along}
use Rattle.judge.proofs.Store.chain_ok.Given as goal

abbrev pub invariant-loop-at : goal.invariant-loop-at
invariant-loop-at l = Along l.self.s.now l.self.cap l.x l.n l.at l.more

abbrev pub decreases-loop-at : goal.decreases-loop-at
decreases-loop-at l = l.more
