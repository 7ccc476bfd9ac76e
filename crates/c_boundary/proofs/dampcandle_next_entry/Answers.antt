use mathlib.Core.Path.{ap, ◌∙◌}
use Rattle.c_boundary.specs.Lent.{found_to}
use Rattle.c_boundary.proofs.dampcandle_next_entry.Goals as goal

pub returns : goal.returns
returns c =
    c.put_places.ensures ∙ ap (found_to _ _ _ _) c.next_entry.ensures
