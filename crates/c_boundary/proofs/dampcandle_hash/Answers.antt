use Rattle.c_boundary.proofs.Putting.{digested-put}
use Rattle.c_boundary.proofs.dampcandle_hash.Goals as goal

pub returns : goal.returns
returns c =
    digested-put c.hash.result _ _ _ c.put.ensures c.hash.ensures
