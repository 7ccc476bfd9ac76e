use native.Mathlib.Omega.{arith}
use Rattle.witness.proofs.Lengths.{key-short, value-short, hide-length, label-length, show-length}
use Rattle.witness.proofs.shown_len.Goals as goal

pub returns-in-Hide : goal.returns-in-Hide
returns-in-Hide c =
    rw c.in-Hide.is (hide-length c.args.s.now c.args.n, omega arith)

pub returns-in-Label : goal.returns-in-Label
returns-in-Label c =
    rw (c.in-Label.is, c.key.ensures) (label-length c.args.s.now c.args.n, omega (arith, key-short c.args.s.now c.args.n c.requires))

pub returns-in-Show : goal.returns-in-Show
returns-in-Show c =
    rw (c.in-Show.is, c.key-in-Show.ensures, c.value.ensures) (show-length c.args.s.now c.args.n, omega (arith, key-short c.args.s.now c.args.n c.requires, value-short c.args.s.now c.args.n c.requires))
