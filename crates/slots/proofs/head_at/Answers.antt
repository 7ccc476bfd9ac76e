use borrow.Author.Rules.{rules}
use Rattle.slots.specs.Layout.{head_at}
use Rattle.slots.proofs.head_at.Goals as goal

pub returns : goal.returns
unfolding head_at
returns c = search rules
