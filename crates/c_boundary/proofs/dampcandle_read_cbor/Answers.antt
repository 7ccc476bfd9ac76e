use Rattle.c_boundary.proofs.Putting.{written-put}
use Rattle.c_boundary.proofs.dampcandle_read_cbor.Goals as goal

pub returns : goal.returns
returns c =
    written-put c.read_cbor.result _ _ _ _ c.put.ensures c.read_cbor.ensures
