use Rattle.parts.specs.declared.Verdict.TheVariants.{Never, More, Closed}
use mathlib.Core.Path.{◌∙◌}
use native.Mathlib.Omega.{arith}
use Prim.Native.Nat.{◌+◌}
use Rattle.parts.proofs.Doing.{closed-shown, step-whole, step-none, step-go}
use Rattle.parts.proofs.take_byte.Goals as goal

pub returns-then-s-eq-WHOLE : goal.returns-then-s-eq-WHOLE
returns-then-s-eq-WHOLE c =
    step-whole c.args.s.now c.args.x c.if-s-eq-WHOLE.true

pub returns-in_default : goal.returns-in_default
returns-in_default c =
    step-none c.args.s.now c.args.x c.if-s-eq-WHOLE.false c.in_default.ensures

pub close-requires : goal.close-requires
close-requires c =
    let h = closed-shown c.in-Some.field-0.levels (c.in-Some.field-0.held + 1) c.wide.result c.wide-2.result _ _ c.judge.result c.judge.ensures c.in-Closed.is in (omega (arith, h.0), h.1)

pub returns-in-Never : goal.returns-in-Never
returns-in-Never c = step-go c.args.s.now c.args.x c.in-Some.field-0 c.in-Some.ensures c.wide.result c.wide-2.result c.judge.result Never c.wide.ensures.0 c.wide-2.ensures.0 c.judge.ensures c.in-Never.is

pub returns-in-More : goal.returns-in-More
returns-in-More c = step-go c.args.s.now c.args.x c.in-Some.field-0 c.in-Some.ensures c.wide.result c.wide-2.result c.judge.result More c.wide.ensures.0 c.wide-2.ensures.0 c.judge.ensures c.in-More.is

pub returns-in-Closed : goal.returns-in-Closed
returns-in-Closed c = c.close.ensures ∙ step-go c.args.s.now c.args.x c.in-Some.field-0 c.in-Some.ensures c.wide.result c.wide-2.result c.judge.result (Closed c.in-Closed.kind c.in-Closed.len) c.wide.ensures.0 c.wide-2.ensures.0 c.judge.ensures c.in-Closed.is
