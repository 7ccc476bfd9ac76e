use Rattle.c_boundary.proofs.Putting.{written-put}
use Rattle.c_boundary.proofs.dampcandle_key_range.Goals as goal

pub returns : goal.returns
returns c =
    written-put c.key_range.result _ _ _ _ c.put.ensures c.key_range.ensures
