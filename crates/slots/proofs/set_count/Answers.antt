use Rattle.slots.proofs.Coding.{head-count-fits, head-count-set}
use Rattle.slots.proofs.set_count.Goals as goal

pub set_head-requires : goal.set_head-requires
set_head-requires c =
    record { has_slot = c.requires.has_slot; head_fits = head-count-fits _ c.requires.has_slot c.head_of-h.ensures c.requires.x_bound }

pub returns : goal.returns
returns c =
    head-count-set _ _ _ _ c.head_of-h.ensures c.set_head.ensures
