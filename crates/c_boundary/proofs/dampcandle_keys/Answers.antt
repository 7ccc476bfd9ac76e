use Rattle.c_boundary.proofs.Putting.{written-put}
use Rattle.c_boundary.proofs.dampcandle_keys.Goals as goal

pub returns : goal.returns
returns c =
    written-put c.keys.result _ _ _ _ c.put.ensures c.keys.ensures
