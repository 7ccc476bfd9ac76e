use Rattle.std.proofs.Common.{rules}
use Rattle.slots.specs.Layout.{key_at}
use Rattle.slots.proofs.key_at.Goals as goal

pub returns : goal.returns
unfolding key_at
returns c = search rules
