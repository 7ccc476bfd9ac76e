use Rattle.replay.specs.declared.Operation.TheVariants.{Insert, Modify, Delete}
use Rattle.replay.proofs.Running.{inserts, modifies, deletes, by_operation}
use Rattle.replay.proofs.edit_stale.Goals as goal

pub insert_stale-requires : goal.insert_stale-requires
insert_stale-requires c =
    c.requires

pub returns-in-Insert : goal.returns-in-Insert
returns-in-Insert c =
    λ m a. by_operation Insert _ _ c.in-Insert.is (inserts _ c.requires.key a _ c.requires.value _ (c.insert_stale.ensures m a))

pub modify_stale-requires : goal.modify_stale-requires
modify_stale-requires c =
    (c.requires.sound, c.requires.value)

pub returns-in-Modify : goal.returns-in-Modify
returns-in-Modify c =
    λ m a. by_operation Modify _ _ c.in-Modify.is (modifies _ c.requires.key a _ c.requires.value _ (c.modify_stale.ensures m a))

pub delete_stale-requires : goal.delete_stale-requires
delete_stale-requires c =
    c.requires.sound

pub returns-in-Delete : goal.returns-in-Delete
returns-in-Delete c =
    λ m a. by_operation Delete _ _ c.in-Delete.is (deletes _ c.requires.key a _ (c.delete_stale.ensures m a))
