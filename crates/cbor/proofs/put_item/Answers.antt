use native.Mathlib.Omega.{arith}
use Rattle.hash_tree.specs.Record.{kind_number}
use Rattle.cbor.proofs.Sizes.{own-most}
use Rattle.cbor.proofs.put_item.Goals as goal

pub put_piece-requires : goal.put_piece-requires
put_piece-requires c =
    (omega (arith, c.requires.0.high, own-most (kind_number c.args.kind)), rw c.in-Reading.is at c.requires.1)
