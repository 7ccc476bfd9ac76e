use Rattle.store.specs.Model.{modified}
use Rattle.rb_tree.proofs.Settling.{stale-of, after_holds}
use Rattle.rb_tree.proofs.modify.Goals as goal

pub modify_stale-requires : goal.modify_stale-requires
modify_stale-requires c =
    ((c.requires.0.0, stale-of c.requires.0.1), c.requires.1)

pub settle-requires : goal.settle-requires
settle-requires c =
    (modified c.args.key.now c.args.value.now c.requires.0.0, (c.in_ok-modify_stale.ensures c.requires.0.0 (stale-of c.requires.0.1)).1.holds)

pub returns : goal.returns
returns c =
    λ m a. let b = c.in_ok-modify_stale.ensures m (stale-of a) in (b.0, after_holds c.settle.ensures b.1)
