use Rattle.whole_store.proofs.Answering.{count-done}
use Rattle.whole_store.proofs.count.Goals as goal

pub returns : goal.returns
returns c = count-done c.args.s.now c.requires c.header_of.ensures
