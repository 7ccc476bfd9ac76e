use Rattle.slots.proofs.Equal.{equal-decides}
use mathlib.Core.Path.{refl}
use Rattle.rb_tree.proofs.has_value.Goals as goal

pub returns : goal.returns
returns c = equal-decides _ c.eq.ensures c.value.ensures refl
