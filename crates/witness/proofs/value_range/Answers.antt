use mathlib.Core.Path.{refl}
use Rattle.witness_trees.specs.Witness.{values}
use Rattle.store.specs.Calls.{value_range_answer}
use Rattle.witness.proofs.value_range.Goals as goal

pub returns : goal.returns
unfolding value_range_answer
returns c = c.range.ensures values refl
