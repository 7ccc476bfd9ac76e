use mathlib.Core.Path.{ap, ◌∙◌}
use Rattle.c_boundary.specs.Lent.{asked_to}
use Rattle.c_boundary.proofs.dampcandle_lookup.Goals as goal

pub returns : goal.returns
returns c =
    c.put_seen.ensures ∙ ap (asked_to _ _ _) c.lookup.ensures
