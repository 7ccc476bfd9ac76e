use mathlib.Core.List.{[]}
use native.Mathlib.Omega.{arith}
use borrow.Author.Tests.{ne_eqb}
use Rattle.hash_tree.specs.Written.{piece}
use Rattle.hash_tree.proofs.ParseLaws.{length-piece}
use Rattle.slots.proofs.Lenses.{digest-length}
use Rattle.witness.proofs.put_hidden.Goals as goal

pub put_head-requires : goal.put_head-requires
put_head-requires c =
    let h = rw c.if-n-eq0.true at c.requires.room in omega (arith, h, length-piece 0 [])

pub returns-then-n-eq0 : goal.returns-then-n-eq0
unfolding piece
returns-then-n-eq0 c =
    rw c.if-n-eq0.true c.put_head.ensures

pub put_piece-requires : goal.put_piece-requires
put_piece-requires c =
    let h = rw (ne_eqb c.args.n 0 c.if-n-eq0.false) at c.requires.room in
    rw c.digest.ensures (omega (arith, digest-length c.args.s.now c.args.n (c.requires.hidden_at c.if-n-eq0.false)), h)
