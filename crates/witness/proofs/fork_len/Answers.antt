use Rattle.hash_tree.specs.Written.{piece}
use Rattle.witness.proofs.fork_len.Goals as goal

pub returns-then-fork : goal.returns-then-fork
unfolding piece
returns-then-fork c =
    rw c.if-fork.true
