use Rattle.c_boundary.proofs.Putting.{written-put}
use Rattle.c_boundary.proofs.dampcandle_difference.Goals as goal

pub returns : goal.returns
returns c =
    written-put c.difference.result _ _ _ _ c.put.ensures c.difference.ensures
