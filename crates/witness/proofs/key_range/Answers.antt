use mathlib.Core.Path.{refl}
use Rattle.witness_trees.specs.Witness.{keys_only}
use Rattle.store.specs.Calls.{key_range_answer}
use Rattle.witness.proofs.key_range.Goals as goal

pub returns : goal.returns
unfolding key_range_answer
returns c = c.range.ensures keys_only refl
