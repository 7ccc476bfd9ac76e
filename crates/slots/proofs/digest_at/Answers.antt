use Rattle.std.proofs.Common.{rules}
use Rattle.slots.specs.Layout.{digest_at}
use Rattle.slots.proofs.digest_at.Goals as goal

pub returns : goal.returns
unfolding digest_at
returns c = search rules
