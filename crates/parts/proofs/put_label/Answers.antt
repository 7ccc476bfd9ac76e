use mathlib.Core.Path.{◌∙◌}
use native.Mathlib.Omega.{arith}
use Prim.Native.Nat.{◌+◌, ◌-◌}
use mathlib.Core.Path.{◌≡◌}
use lib.ListN.{length, drop, length-drop}
use lib.Seq.{sets-eq, length-take-le}
use Rattle.parts.specs.Layout.{part}
use Rattle.parts.proofs.put_label.Goals as goal

pub returns : goal.returns
returns c =
    let s = c.args.s.now in
    let n = c.args.n in
    let e : 6 + n - 6 ≡ n = omega arith in
    let l : length (part 6 n s) ≡ n = length-take-le n (drop 6 s) (omega (arith, length-drop 6 s)) in
    c.copy_within.ensures.after ∙ rw (e, sets-eq (part 6 n s) s c.args.at (omega arith), l)
