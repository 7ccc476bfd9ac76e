use Rattle.slots.proofs.Copying.{value-front}
use Rattle.slots.proofs.value_part.Goals as goal

pub returns : goal.returns
returns c = value-front _ _ _ _ c.value_at-b.ensures.0 c.requires.n_le_max_value
