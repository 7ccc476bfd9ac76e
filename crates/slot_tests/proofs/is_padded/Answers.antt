use Rattle.slot_tests.proofs.Testing.{padded-by}
use Rattle.slot_tests.proofs.is_padded.Goals as goal

pub returns : goal.returns
returns c = padded-by _ _ _ c.is_zero.result _ c.requires.in_bounds c.requires.n_bound c.is_zero.ensures
