use Rattle.slots.proofs.Copying.{digest-part}
use Rattle.slots.proofs.digest.Goals as goal

pub returns : goal.returns
returns c =
    digest-part _ _ _ c.digest_at-b.ensures.0
