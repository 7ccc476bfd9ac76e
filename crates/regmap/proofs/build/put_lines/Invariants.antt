use Rattle.std.proofs.Common.{◌≡◌, length}
use Rattle.rb_tree.specs.Stores.{HasStale}
use Rattle.regmap.proofs.build.put_lines.Given as goal

abbrev pub invariant-loop-i : goal.invariant-loop-i
invariant-loop-i l =
    (goal.iterator-loop-i).can_next l.i-iterator × (goal.iterator-loop-i).is_finite l.i-iterator
    × HasStale l.store × (length l.store ≡ length l.initial.store)
