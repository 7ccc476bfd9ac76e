use Rattle.c_boundary.proofs.Putting.{written-put}
use Rattle.c_boundary.proofs.dampcandle_value_range.Goals as goal

pub returns : goal.returns
returns c =
    written-put c.value_range.result _ _ _ _ c.put.ensures c.value_range.ensures
