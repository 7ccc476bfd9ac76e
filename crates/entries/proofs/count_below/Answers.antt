use Rattle.slots.proofs.Lenses.{count_fits}
use Rattle.entries.proofs.Laws.{below-some}
use Rattle.entries.proofs.count_below.Goals as goal

pub returns : goal.returns
returns c =
    (below-some _ _ c.if-link-eq0.false c.count.ensures, rw c.count.ensures (count_fits _ _))
