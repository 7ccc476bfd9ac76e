use native.Mathlib.Omega.{arith}
use Rattle.witness.proofs.Lengths.{both-length}
use Rattle.witness.proofs.middle_len.Goals as goal

pub returns-in-Both : goal.returns-in-Both
returns-in-Both c =
    rw c.in-Both.is (both-length c.args.s.now c.args.n, omega arith)
