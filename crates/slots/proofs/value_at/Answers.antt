use Rattle.std.proofs.Common.{rules}
use Rattle.slots.specs.Layout.{value_at}
use Rattle.slots.proofs.value_at.Goals as goal

pub returns : goal.returns
unfolding value_at
returns c = search rules
