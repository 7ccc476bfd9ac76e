use Rattle.text.proofs.Fews.{copied}
use Rattle.text.proofs.hex.plain.Goals as goal

pub returns : goal.returns
returns c = copied c.args.word.now _ _ c.min-len.ensures c.copy_from_slice.ensures.after
