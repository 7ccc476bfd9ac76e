use Rattle.c_boundary.proofs.Putting.{written-put}
use Rattle.c_boundary.proofs.dampcandle_witness.Goals as goal

pub returns : goal.returns
returns c =
    written-put c.witness.result _ _ _ _ c.put.ensures c.witness.ensures
