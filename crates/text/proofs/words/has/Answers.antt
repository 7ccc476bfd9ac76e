use Rattle.std.proofs.Common.{◌≡◌, ◌∙◌, length, arith}
use borrow.Author.Tests.{le-ltb}
use Rattle.text.proofs.Lines.{has-none, has-fewer, has-so-many}
use Rattle.text.proofs.words.has.Goals as goal

pub returns-then-n-eq0 : goal.returns-then-n-eq0
returns-then-n-eq0 c = has-none c.args.line.now c.args.n _ c.if-n-eq0.true c.start.ensures.value

pub returns-then-start-line : goal.returns-then-start-line
returns-then-start-line c =
    has-so-many c.args.line.now c.args.n c.start-2.result _ c.if-n-eq0.false c.start-2.ensures.value (omega arith) c.start-then-start-line.ensures.value

pub returns-else-start-line : goal.returns-else-start-line
returns-else-start-line c =
    let e : c.start-2.result ≡ length c.args.line.now = omega (arith, c.start-2.ensures.upper_bound) in
    le-ltb _ _ c.if-start-line.false ∙ has-fewer c.args.line.now c.args.n _ c.if-n-eq0.false c.start-2.ensures.value e
