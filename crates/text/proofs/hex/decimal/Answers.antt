use Rattle.std.proofs.Common.{sym, ◌∙◌, arith}
use borrow.Author.Tests.{eqb-true, eqb-false}
use Rattle.text.proofs.Numbers.{no-digits, begins, ends, at_other, at-digit}
use Rattle.text.proofs.hex.decimal.Goals as goal

pub returns-then-is_empty : goal.returns-then-is_empty
returns-then-is_empty c = no-digits c.args.word.now (eqb-true _ _ (sym c.is_empty.ensures ∙ c.if-is_empty.true))

pub loop-b-init : goal.loop-b-init
loop-b-init c = begins c.args.word.now (eqb-false _ _ (sym c.is_empty.ensures ∙ c.if-is_empty.false))

pub returns-in_err-n : goal.returns-in_err-n
returns-in_err-n c = c.from_residual.ensures ∙ at_other c.loop-b.invariant (omega arith) (sym c.appended.ensures ∙ c.in_err-n.was)

pub loop-b-preserved : goal.loop-b-preserved
loop-b-preserved c = at-digit c.loop-b.invariant (omega arith) _ (sym c.appended.ensures ∙ c.in_ok-n.was)

pub returns : goal.returns
returns c = ends c.loop-b.invariant (omega arith)
