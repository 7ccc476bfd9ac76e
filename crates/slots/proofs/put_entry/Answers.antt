use Rattle.slots.proofs.Coding.{head-new-fits}
use Rattle.slots.proofs.Copying.{entry-put}
use Rattle.slots.proofs.put_entry.Goals as goal

pub set_head-requires : goal.set_head-requires
set_head-requires c =
    record { has_slot = c.requires.has_slot; head_fits = head-new-fits _ c.requires.has_slot c.head_of-h.ensures c.requires.length_bounds.0 c.requires.length_bounds.1 }

pub returns : goal.returns
returns c =
    entry-put _ _ _ _ _ _ _ _ _ c.requires.has_slot c.head_of-h.ensures c.set_head.ensures c.key_at-k.ensures.0 c.put_padded.ensures c.value_at-v.ensures.0 c.put_padded-2.ensures
