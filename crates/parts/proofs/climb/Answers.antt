use Rattle.parts.proofs.Climbing.{climbed-stop, climbed-go, climbed-zero}
use mathlib.Core.Path.{◌≡◌, sym, ◌∙◌}
use Prim.Native.Nat.{◌+◌, ◌-◌}
use native.Mathlib.Omega.{arith}
use Rattle.parts.proofs.climb.Goals as goal

pub returns-then-s-level_at-eq-LEFT : goal.returns-then-s-level_at-eq-LEFT
returns-then-s-level_at-eq-LEFT c =
    let n : c.loop-i.i - 1 + 1 ≡ c.loop-i.i = omega arith in
    rw n (sym (c.loop-i.invariant ∙ climbed-stop c.args.s.now c.loop-i.i _ c.loop-i.digest (omega arith) c.level_at.ensures c.if-s-level_at-eq-LEFT.true))

pub loop-i-preserved : goal.loop-i-preserved
loop-i-preserved c =
    c.loop-i.invariant ∙ climbed-go c.args.s.now c.loop-i.i _ c.loop-i.digest (omega arith) c.level_at.ensures c.if-s-level_at-eq-LEFT.false ∙ rw c.join-digest.ensures

pub returns : goal.returns
returns c =
    sym (c.loop-i.invariant ∙ climbed-zero c.args.s.now c.loop-i.i c.loop-i.digest (omega arith))
