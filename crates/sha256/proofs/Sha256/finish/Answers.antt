use Rattle.sha256.proofs.Absorbing.{absorbed-end}
use Rattle.std.proofs.Common.{◌∙◌}
use Rattle.sha256.proofs.Sha256.finish.Goals as goal

pub returns : goal.returns
returns c m h =
    (rw c.used-used.ensures at c.ended.ensures) ∙ absorbed-end m c.tail.result h c.tail.ensures.0 (rw c.used-used.ensures at c.tail.ensures.1)
