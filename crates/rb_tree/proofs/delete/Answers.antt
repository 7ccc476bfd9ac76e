use Rattle.store.specs.Model.{deleted}
use Rattle.rb_tree.proofs.Settling.{stale-of, after_holds}
use Rattle.rb_tree.proofs.delete.Goals as goal

pub delete_stale-requires : goal.delete_stale-requires
delete_stale-requires c =
    (c.requires.0, stale-of c.requires.1)

pub settle-requires : goal.settle-requires
settle-requires c =
    (deleted c.args.key.now c.requires.0, (c.in_ok-delete_stale.ensures c.requires.0 (stale-of c.requires.1)).1.holds)

pub returns : goal.returns
returns c =
    λ m a. let b = c.in_ok-delete_stale.ensures m (stale-of a) in (b.0, after_holds c.settle.ensures b.1)
