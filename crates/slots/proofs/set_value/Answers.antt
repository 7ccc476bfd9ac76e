use Rattle.slots.proofs.Copying.{value-head-fits, value_set}
use Rattle.slots.proofs.set_value.Goals as goal

pub set_head-requires : goal.set_head-requires
set_head-requires c =
    record { has_slot = c.requires.has_slot; head_fits = value-head-fits _ c.requires.has_slot c.head_of-h.ensures c.requires.value_len_bound }

pub returns : goal.returns
returns c =
    value_set _ _ _ _ _ _ c.requires.has_slot c.head_of-h.ensures c.set_head.ensures c.value_at-v.ensures.0 c.put_padded.ensures
