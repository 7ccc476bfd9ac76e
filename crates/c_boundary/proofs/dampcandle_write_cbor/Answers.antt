use Rattle.c_boundary.proofs.Putting.{written-put}
use Rattle.c_boundary.proofs.dampcandle_write_cbor.Goals as goal

pub returns : goal.returns
returns c =
    written-put c.write_cbor.result _ _ _ _ c.put.ensures c.write_cbor.ensures
