use native.Mathlib.Omega.{arith}
use Rattle.difference.proofs.Saving.{line-length, no-length}
use Rattle.difference.proofs.Stores.fit.Goals as goal

pub returns-in_err-left : goal.returns-in_err-left
returns-in_err-left c =
    let e = line-length c.in-Some.ensures c.key.ensures.is in
    rw c.from_residual.ensures (λ h. c.in_err-left.ensures (omega arith))

pub loop-line-preserved : goal.loop-line-preserved
loop-line-preserved c =
    let e = line-length c.in-Some.ensures c.key.ensures.is in
    record { ready = c.in-Some.ensures.further.ready; same = omega arith }

pub returns : goal.returns
returns c =
    let e = no-length c.in_default.ensures in (omega arith, omega arith)
