use Prim.Native.Nat.{◌≤◌, ◌-◌}
use mathlib.Core.Path.{◌≡◌}
use lib.ListN.{length}
use Rattle.cbor.specs.Walks.{source_of}
use Rattle.cbor.proofs.Records.{Going}
use Rattle.cbor.proofs.put_items.Given as goal

abbrev pub invariant-loop-at : goal.invariant-loop-at
invariant-loop-at l = (l.at ≤ length l.s) × (length l.out ≡ length l.initial.out) × Going l.way l.s l.initial.out l.out l.at l.to (source_of l.way l.s)

abbrev pub decreases-loop-at : goal.decreases-loop-at
decreases-loop-at l = length l.s - l.at
