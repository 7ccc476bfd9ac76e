use Rattle.slots.proofs.Coding.{value-length-fits, value-is}
use Rattle.slots.proofs.value.Goals as goal

pub value_part-requires : goal.value_part-requires
value_part-requires c =
    record { has_slot = c.requires.has_slot; n_le_max_value = value-length-fits _ _ c.head_of-n.ensures c.requires.length_bound }

pub returns : goal.returns
returns c =
    value-is _ _ c.head_of-n.ensures _ c.value_part.ensures
