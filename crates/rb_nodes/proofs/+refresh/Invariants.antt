use Rattle.store.specs.Decode.{entries_below}
use Rattle.rb_nodes.proofs.+refresh.Given as goal

abbrev pub decreases-refresh : goal.decreases-refresh
decreases-refresh l = entries_below l.s.now l.h
