use native.Mathlib.Omega.{arith}
use Rattle.cbor.proofs.Answering.{no_room, can-put, was-put}
use Rattle.cbor.proofs.exchange.Goals as goal

pub returns-then-met-eq0 : goal.returns-then-met-eq0
returns-then-met-eq0 c =
    no_room c.args.way c.args.s.now c.args.out.now (λ i. omega (arith, c.type_inv.s i)) c.in-Some.met c.in-Some.ensures (omega (arith, c.if-met-s.true)) c.if-met-eq0.true

pub put_items-requires : goal.put_items-requires
put_items-requires c =
    can-put c.args.way c.args.s.now c.args.out.now (λ i. omega (arith, c.type_inv.s i)) c.in-Some.met c.in-Some.ensures (omega (arith, c.if-met-s.true)) c.if-met-eq0.false

pub returns-else-met-eq0 : goal.returns-else-met-eq0
returns-else-met-eq0 c =
    was-put c.args.way c.args.s.now c.args.out.now (λ i. omega (arith, c.type_inv.s i)) c.in-Some.met c.in-Some.ensures (omega (arith, c.if-met-s.true)) _ _ c.if-met-eq0.false c.put_items.ensures
