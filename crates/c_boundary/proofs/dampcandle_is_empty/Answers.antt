use Rattle.c_boundary.proofs.Putting.{told-put}
use Rattle.c_boundary.proofs.dampcandle_is_empty.Goals as goal

pub returns : goal.returns
returns c =
    told-put c.is_empty.result _ _ _ c.put.ensures c.is_empty.ensures
