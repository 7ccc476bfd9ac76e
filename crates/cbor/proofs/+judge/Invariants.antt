use mathlib.Core.Path.{◌≡◌}
use lib.ListN.{length, drop}
use Rattle.hash_tree.specs.Form.{parse_by}
use Rattle.cbor.specs.Walks.{source, target, room_of, met_of}
use Rattle.cbor.proofs.+judge.Given as goal

abbrev pub decreases-judge : goal.decreases-judge
decreases-judge l = l.depth

abbrev pub invariant-loop-below : goal.invariant-loop-below
invariant-loop-below l =
    met_of (length l.s) (target l.way) (room_of l.left) (parse_by (source l.way) l.below (drop l.at l.s)) ≡ met_of (length l.s) (target l.way) (room_of l.fn.room) (parse_by (source l.way) l.depth (drop l.start l.s))
