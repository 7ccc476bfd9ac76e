use mathlib.Core.Path.{◌≡◌}
use Prim.Native.Nat.{◌≤◌}
use Rattle.timed.specs.Rows.{counted_rows, output_rows}
use Rattle.timed.proofs.read_rows.Given as goal

abbrev pub invariant-loop-i : goal.invariant-loop-i
invariant-loop-i l = (l.n ≤ l.i) × (l.n ≡ counted_rows l.op l.s l.firsts l.key_length l.i) × (l.out ≡ output_rows l.op l.s l.firsts l.lasts l.key_length l.i l.initial.out)
