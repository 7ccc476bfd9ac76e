use Rattle.slots.specs.Layout.{zeros}
use Rattle.slots.proofs.Equal.{equal-decides}
use Rattle.rb_nodes.proofs.is_stale.Goals as goal

pub returns : goal.returns
unfolding zeros
returns c = equal-decides _ c.eq.ensures c.digest.ensures c.as_slice.ensures
