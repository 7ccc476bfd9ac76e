use Rattle.slots.proofs.Coding.{key-length-fits, key-is}
use Rattle.slots.proofs.key.Goals as goal

pub key_part-requires : goal.key_part-requires
key_part-requires c =
    record { has_slot = c.requires.has_slot; n_le_max_key = key-length-fits _ _ c.head_of-n.ensures c.requires.length_bound }

pub returns : goal.returns
returns c =
    key-is _ _ c.head_of-n.ensures _ c.key_part.ensures
