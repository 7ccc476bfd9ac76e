use Rattle.witness.proofs.Saving.{can-full, as-hash-tree-answer}
use Rattle.witness.proofs.as_hash_tree.Goals as goal

pub save-requires : goal.save-requires
save-requires c = can-full c.requires c.root_of-root.ensures.is

pub returns : goal.returns
returns c =
    as-hash-tree-answer c.requires c.root_of-root.ensures.is c.args.out.now _ _ c.save.ensures
