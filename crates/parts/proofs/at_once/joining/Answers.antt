use Rattle.parts.proofs.Runs.{joins-most}
use Rattle.parts.proofs.at_once.joining.Goals as goal

pub overflow_sub-result : goal.overflow_sub-result
overflow_sub-result c =
    (joins-most c.args.s.now c.in-Some.field-0 c.wide.result c.wide-len.result c.judge.result c.in-Some.ensures c.wide.ensures.0 c.wide-len.ensures.0 c.if-held-lt2.false c.judge.ensures c.in-More.is).0

pub returns : goal.returns
returns c = λ h.
    (joins-most c.args.s.now c.in-Some.field-0 c.wide.result c.wide-len.result c.judge.result c.in-Some.ensures c.wide.ensures.0 c.wide-len.ensures.0 c.if-held-lt2.false c.judge.ensures c.in-More.is).1
