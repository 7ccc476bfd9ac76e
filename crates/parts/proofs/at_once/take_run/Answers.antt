use native.Mathlib.Omega.{arith}
use lib.Seq.{length-take-le}
use Rattle.parts.proofs.Runs.{joins-small, run-joined}
use Rattle.parts.proofs.at_once.take_run.Goals as goal

pub put_bytes-requires : goal.put_bytes-requires
put_bytes-requires c =
    omega (arith, length-take-le c.min-n.result c.args.x.now (omega arith), joins-small c.args.s.now c.joining.result (c.joining.ensures (omega arith)))

pub overflow_cast-s : goal.overflow_cast-s
overflow_cast-s c =
    omega (arith, joins-small c.args.s.now c.joining.result (c.joining.ensures (omega arith)))

pub returns : goal.returns
returns c =
    (omega arith, run-joined c.args.s.now c.put_bytes.new.out c.args.x.now c.joining.result c.min-n.result c.wide-held.result (omega arith) (c.joining.ensures (omega arith)) (omega arith) (omega arith) c.wide-held.ensures.0 c.put_bytes.ensures.bytes)
