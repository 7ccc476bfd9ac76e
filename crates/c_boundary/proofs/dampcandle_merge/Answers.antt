use Rattle.c_boundary.proofs.Putting.{written-put}
use Rattle.c_boundary.proofs.dampcandle_merge.Goals as goal

pub returns : goal.returns
returns c =
    written-put c.merge.result _ _ _ _ c.put.ensures c.merge.ensures
