use mathlib.Core.Path.{◌≡◌, ap, ◌∙◌}
use Prim.Native.Nat.{◌+◌, ◌-◌}
use native.Mathlib.Nat.{add-sub_cancel_left}
use lib.ListN.{length}
use Rattle.runs.specs.Runs.{part, zeros}
use Rattle.runs.proofs.Padding.{length-zeros}
use Rattle.runs.proofs.Runs.{filled, part_length}
use Rattle.runs.proofs.wipe.Goals as goal

pub returns : goal.returns
unfolding zeros
returns c =
    let a = c.args in
    let k : a.a + a.n - a.a ≡ a.n = add-sub_cancel_left a.a a.n in
    let long : length (part a.a (a.a + a.n - a.a) a.s.now) ≡ a.n = rw k (part_length a.a a.n a.s.now c.requires) in
    filled a.s.now (zeros a.n) _ a.a a.n c.requires (length-zeros a.n) (c.fill.ensures.after (λ y e. e) ∙ ap zeros long)
