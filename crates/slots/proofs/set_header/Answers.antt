use Rattle.slots.proofs.Coding.{header-set}
use Rattle.slots.proofs.set_header.Goals as goal

pub returns : goal.returns
returns c =
    header-set _ _ _ c.put_eight.ensures
