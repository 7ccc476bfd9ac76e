use mathlib.Core.Path.{◌≡◌, ◌∙◌}
use native.Mathlib.Omega.{arith}
use Prim.Native.Nat.{◌+◌, ◌-◌}
use lib.ListN.{length, drop, length-drop}
use lib.Seq.{sets-eq, length-take-le}
use Rattle.runs.specs.Runs.{part}
use Rattle.runs.proofs.copy_within.Goals as goal

pub returns : goal.returns
returns c =
    let s = c.args.s.now in
    let b = c.args.b in
    let n = c.args.n in
    let e : b + n - b ≡ n = omega arith in
    let l : length (part b n s) ≡ n = length-take-le n (drop b s) (omega (arith, length-drop b s, c.requires.from)) in
    c.copy_within.ensures.after ∙ rw (e, sets-eq (part b n s) s c.args.a (omega (arith, c.requires.to, l)), l)
