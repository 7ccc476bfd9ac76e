use Rattle.c_boundary.proofs.Putting.{written-put}
use Rattle.c_boundary.proofs.dampcandle_keys_with_prefix.Goals as goal

pub returns : goal.returns
returns c =
    written-put c.keys_with_prefix.result _ _ _ _ c.put.ensures c.keys_with_prefix.ensures
