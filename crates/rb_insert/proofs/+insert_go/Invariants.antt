use Rattle.store.specs.Decode.{entries_below}
use Rattle.rb_insert.proofs.+insert_go.Given as goal

abbrev pub decreases-insert_go : goal.decreases-insert_go
decreases-insert_go l = entries_below l.s.now l.h
