use Rattle.store.specs.Decode.{entries_below}
use Rattle.witness.proofs.+fit.Given as goal

abbrev pub decreases-fit : goal.decreases-fit
decreases-fit l = entries_below l.s.now l.n
