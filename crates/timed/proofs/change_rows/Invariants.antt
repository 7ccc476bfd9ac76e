use mathlib.Core.Path.{◌≡◌}
use Rattle.store.specs.Sound.{Sound}
use Rattle.timed.specs.Rows.{changed_rows}
use Rattle.timed.proofs.change_rows.Given as goal

abbrev pub invariant-loop-i : goal.invariant-loop-i
invariant-loop-i l = (Sound l.s) × (l.s ≡ changed_rows l.op l.keys l.key_length l.values l.value_length l.i l.initial.s)
