use mathlib.Core.Path.{ap, ◌∙◌}
use Rattle.c_boundary.specs.Lent.{replayed_to}
use Rattle.c_boundary.proofs.dampcandle_replay.Goals as goal

pub returns : goal.returns
returns c =
    c.put_counts.ensures _ ∙ ap (replayed_to _ _) c.replay.ensures
