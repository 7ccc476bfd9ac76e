use Rattle.rb_tree.proofs.Asking.{held_at}
use Rattle.rb_tree.proofs.Settling.{settled}
use Rattle.rb_tree.proofs.settle.Goals as goal

pub refresh-requires : goal.refresh-requires
refresh-requires c =
    (c.requires.0.tree, held_at c.header_of-root.ensures c.requires.1)

pub returns : goal.returns
returns c =
    settled c.header_of-root.ensures c.refresh.ensures
