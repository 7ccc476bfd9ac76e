use Rattle.store.specs.Decode.{entries_below}
use Rattle.witness.proofs.+write_tree.Given as goal

abbrev pub decreases-write_tree : goal.decreases-write_tree
decreases-write_tree l = entries_below l.s.now l.n
