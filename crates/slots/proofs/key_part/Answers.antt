use Rattle.slots.proofs.Copying.{key-front}
use Rattle.slots.proofs.key_part.Goals as goal

pub returns : goal.returns
returns c = key-front _ _ _ _ c.key_at-b.ensures.0 c.requires.n_le_max_key
