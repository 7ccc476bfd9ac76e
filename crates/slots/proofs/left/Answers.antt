use mathlib.Core.Path.{ap}
use Rattle.slots.specs.declared.Head.{Head}
use Rattle.slots.proofs.left.Goals as goal

pub returns : goal.returns
returns c =
    ap (λ (h : Head). h.left) c.head_of.ensures
