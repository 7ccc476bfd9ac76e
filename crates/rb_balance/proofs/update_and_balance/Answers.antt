use Rattle.rb_nodes.proofs.Heap.{full-in}
use Rattle.rb_nodes.proofs.Steps.{after, marks}
use Rattle.rb_balance.proofs.update_and_balance.Goals as goal

pub mark_stale-requires : goal.mark_stale-requires
mark_stale-requires c =
    full-in c.requires.0 c.requires.1 c.requires.2

pub balance-requires : goal.balance-requires
balance-requires c =
    (c.requires.0, (marks c.requires.0 c.requires.1 c.requires.2 c.mark_stale.ensures).held, c.requires.2, c.requires.3, c.requires.4)

pub returns : goal.returns
returns c =
    λ t u a f w. let b = marks t a f c.mark_stale.ensures in after b (c.balance.ensures t u b.held f w)
