use mathlib.Core.Path.{ap}
use Rattle.slots.specs.declared.Head.{Head}
use Rattle.slots.proofs.count.Goals as goal

pub returns : goal.returns
returns c =
    ap (λ (h : Head). h.count) c.head_of.ensures
