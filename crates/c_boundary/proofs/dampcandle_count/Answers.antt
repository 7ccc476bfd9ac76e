use Rattle.c_boundary.proofs.Putting.{counted-put}
use Rattle.c_boundary.proofs.dampcandle_count.Goals as goal

pub returns : goal.returns
returns c =
    counted-put c.count.result _ _ _ c.put.ensures c.count.ensures
