use Rattle.slots.proofs.Coding.{head-red-fits, head-red-set}
use Rattle.slots.proofs.set_red.Goals as goal

pub set_head-requires : goal.set_head-requires
set_head-requires c =
    record { has_slot = c.requires; head_fits = head-red-fits _ c.requires c.head_of-h.ensures }

pub returns : goal.returns
returns c =
    head-red-set _ _ _ _ c.head_of-h.ensures c.set_head.ensures
