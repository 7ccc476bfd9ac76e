use native.Mathlib.Omega.{arith}
use Rattle.hash_tree.specs.Record.{kind_number}
use Rattle.output.proofs.Putting.{puts-piece, piece-length}
use Rattle.output.proofs.put_piece.Goals as goal

pub put_head-x-requires : goal.put_head-x-requires
put_head-x-requires c =
    omega (arith, piece-length (kind_number c.args.kind) c.args.src.now)

pub put_bytes-requires : goal.put_bytes-requires
put_bytes-requires c =
    omega (arith, piece-length (kind_number c.args.kind) c.args.src.now, c.put_head-x.ensures.place, c.put_head-x.auto.out)

pub returns : goal.returns
returns c =
    puts-piece (kind_number c.args.kind) c.args.src.now c.put_head-x.ensures c.put_bytes.ensures
