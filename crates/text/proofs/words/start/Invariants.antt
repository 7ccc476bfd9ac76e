use Rattle.std.proofs.Common.{◌≡◌, ◌≤◌, length}
use Rattle.text.specs.Words.{start_of}
use Rattle.text.proofs.words.start.Given as goal

abbrev pub invariant-loop : goal.invariant-loop
invariant-loop l = record { within : l.at ≤ length l.line; reached : l.at ≡ start_of l.line l.counter }
