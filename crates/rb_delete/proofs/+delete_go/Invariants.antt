use Rattle.store.specs.Decode.{entries_below}
use Rattle.rb_delete.proofs.+delete_go.Given as goal

abbrev pub decreases-delete_go : goal.decreases-delete_go
decreases-delete_go l = entries_below l.s.now l.h
