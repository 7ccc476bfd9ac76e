use Rattle.c_boundary.proofs.Putting.{digested-put}
use Rattle.c_boundary.proofs.dampcandle_rebuild_end.Goals as goal

pub returns : goal.returns
returns c =
    digested-put c.rebuild_end.result _ _ _ c.put.ensures c.rebuild_end.ensures
