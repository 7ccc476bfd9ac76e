use Rattle.c_boundary.proofs.Putting.{digested-put}
use Rattle.c_boundary.proofs.dampcandle_root_hash.Goals as goal

pub returns : goal.returns
returns c =
    digested-put c.root_hash-root.result _ _ _ c.put.ensures c.root_hash-root.ensures
