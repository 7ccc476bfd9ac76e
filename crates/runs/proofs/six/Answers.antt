use mathlib.Core.Path.{◌∙◌}
use Rattle.runs.proofs.Runs.{six-is}
use Rattle.runs.proofs.six.Goals as goal

pub returns : goal.returns
returns c = c.from_be_bytes.ensures ∙ six-is c.args.s.now c.args.a c.requires
