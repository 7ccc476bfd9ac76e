use Rattle.store.specs.Decode.{entries_below}
use Rattle.rb_delete.proofs.+delete_min.Given as goal

abbrev pub decreases-delete_min : goal.decreases-delete_min
decreases-delete_min l = entries_below l.s.now l.h
