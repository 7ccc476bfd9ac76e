use Rattle.std.proofs.Common.{◌≡◌, ◌++◌, map, take, drop}
use Rattle.text.specs.Words.{unblank_of}
use Rattle.text.proofs.words.blanked.Given as goal

abbrev pub invariant-loop-b : goal.invariant-loop-b
invariant-loop-b l = l.s ≡ map unblank_of (take l.b-index l.initial.s) ++ drop l.b-index l.initial.s
