use native.Mathlib.Omega.{arith}
use Rattle.hash_tree.specs.Written.{piece}
use Rattle.witness.proofs.put_fork.Goals as goal

pub put_head-requires : goal.put_head-requires
unfolding piece
put_head-requires c =
    let h = rw c.if-fork.true at c.requires in omega (arith, h)

pub returns-then-fork : goal.returns-then-fork
unfolding piece
returns-then-fork c =
    rw c.if-fork.true c.put_head.ensures
