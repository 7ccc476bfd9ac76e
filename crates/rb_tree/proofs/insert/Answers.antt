use Rattle.store.specs.Model.{inserted}
use Rattle.rb_tree.proofs.Settling.{stale-of, after_holds}
use Rattle.rb_tree.proofs.insert.Goals as goal

pub insert_stale-requires : goal.insert_stale-requires
insert_stale-requires c =
    record { sound = (c.requires.sound.0, stale-of c.requires.sound.1); key = c.requires.key; value = c.requires.value }

pub settle-requires : goal.settle-requires
settle-requires c =
    (inserted c.args.key.now c.args.value.now c.requires.sound.0, (c.in_ok-insert_stale.ensures c.requires.sound.0 (stale-of c.requires.sound.1)).1.holds)

pub returns : goal.returns
returns c =
    λ m a. let b = c.in_ok-insert_stale.ensures m (stale-of a) in (b.0, after_holds c.settle.ensures b.1)
