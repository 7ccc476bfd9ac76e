use Rattle.slots.proofs.Coding.{head-is}
use Rattle.slots.proofs.head_of.Goals as goal

pub returns : goal.returns
returns c =
    head-is _ _ _ _ c.head_at-a.ensures.0 c.six-h.ensures
