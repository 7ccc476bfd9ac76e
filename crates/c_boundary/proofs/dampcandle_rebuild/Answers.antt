use Rattle.c_boundary.proofs.Putting.{digested-put}
use Rattle.c_boundary.proofs.dampcandle_rebuild.Goals as goal

pub returns : goal.returns
returns c =
    digested-put c.rebuild.result _ _ _ c.put.ensures c.rebuild.ensures
