use Rattle.c_boundary.proofs.Putting.{written-put}
use Rattle.c_boundary.proofs.dampcandle_as_hash_tree.Goals as goal

pub returns : goal.returns
returns c =
    written-put c.as_hash_tree.result _ _ _ _ c.put.ensures c.as_hash_tree.ensures
