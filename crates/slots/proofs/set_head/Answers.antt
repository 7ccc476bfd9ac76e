use Rattle.slots.proofs.Coding.{bit-is, head-set}
use Rattle.slots.proofs.set_head.Goals as goal

pub returns : goal.returns
returns c =
    head-set _ _ _ _ _ _ _ c.requires.has_slot c.head_at-a.ensures.0 (bit-is _ c.from.ensures) (bit-is _ c.from-2.ensures) c.put_six.ensures
