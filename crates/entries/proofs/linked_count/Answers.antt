use mathlib.Core.Path.{ap, ◌∙◌}
use Prim.Native.Nat.{◌+◌}
use Rattle.entries.specs.Digests.{count_below, linked_count}
use Rattle.entries.proofs.linked_count.Goals as goal

pub returns : goal.returns
unfolding linked_count
returns c =
    let a = c.count_below.ensures.0 ∙ ap (count_below _) c.left.ensures in
    let b = c.count_below-2.ensures.0 ∙ ap (count_below _) c.right.ensures in
    λ i. 1 + (a i + b i)
