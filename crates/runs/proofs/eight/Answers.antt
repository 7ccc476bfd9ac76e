use mathlib.Core.Path.{ap, ◌∙◌}
use Rattle.std.specs.Int.{w64, from_be_bytes}
use Rattle.runs.proofs.Runs.{eight_is}
use Rattle.runs.proofs.eight.Goals as goal

pub returns : goal.returns
returns c =
    c.from_be_bytes.ensures ∙ ap (from_be_bytes w64) (rw c.unwrap.ensures at c.try_into.ensures.1).same ∙ eight_is c.args.s.now c.requires
