use Rattle.store.specs.Decode.{entries_below}
use Rattle.rb_insert.proofs.+modify_go.Given as goal

abbrev pub decreases-modify_go : goal.decreases-modify_go
decreases-modify_go l = entries_below l.s.now l.h
