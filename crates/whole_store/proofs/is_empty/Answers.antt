use Rattle.whole_store.proofs.Answering.{empty-done}
use Rattle.whole_store.proofs.is_empty.Goals as goal

pub returns : goal.returns
returns c = empty-done c.args.s.now c.requires c.header_of-h.ensures
