use Rattle.slots.specs.Layout.{zeros}
use Rattle.rb_nodes.specs.Heap.{mark_stale}
use Rattle.rb_nodes.proofs.mark_stale.Goals as goal

pub returns : goal.returns
unfolding mark_stale zeros
returns c =
    c.set_digest.ensures
