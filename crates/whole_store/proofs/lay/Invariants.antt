-- `whole_store::lay` meets its contract: each turn frees a slot, whatever its bytes were.
use Prim.Native.Nat.{◌-◌}
use Rattle.whole_store.proofs.Fresh.{Chained}
use Rattle.whole_store.proofs.lay.Given as goal

abbrev pub invariant-loop-x : goal.invariant-loop-x
invariant-loop-x l = Chained l.cap l.s (l.x - 1)
