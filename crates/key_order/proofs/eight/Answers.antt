use Rattle.std.proofs.Common.{arith}
use Rattle.key_order.proofs.Words.{word-eight}
use Rattle.key_order.proofs.eight.Goals as goal

pub returns : goal.returns
returns c = omega (arith, word-eight c.args.s.now c.args.i, c.from_be_bytes.ensures)
