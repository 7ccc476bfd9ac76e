use Rattle.witness.proofs.Saving.{can-full, keys-answer}
use Rattle.witness.proofs.keys.Goals as goal

pub save-requires : goal.save-requires
save-requires c = can-full c.requires c.root_of-root.ensures.is

pub returns : goal.returns
returns c =
    keys-answer c.requires c.root_of-root.ensures.is c.args.out.now _ _ c.save.ensures
