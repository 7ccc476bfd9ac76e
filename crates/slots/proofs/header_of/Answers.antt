use Rattle.slots.proofs.Coding.{header_is}
use Rattle.slots.proofs.header_of.Goals as goal

pub returns : goal.returns
returns c =
    header_is _ _ c.eight-h.ensures
