use native.Mathlib.Omega.{arith}
use Rattle.replay.proofs.Reading.{whole-at, not-delete}
use Rattle.replay.proofs.record_at.Goals as goal
use Rattle.replay.proofs.record_at.Goals.{else-eq-via-then-eq+else-value_length-ne0, else-eq-via-else-eq}

pub returns : goal.returns
returns c =
    whole-at c.args.log.now c.args.at c.from-key_length.ensures c.from-value_length.ensures (omega arith) c.in_ok-operation.ensures (omega arith) (omega arith)
    (elim c.else-eq.branch [ else-eq-via-then-eq+else-value_length-ne0 w ↦ λ _. omega arith | else-eq-via-else-eq w ↦ λ z. absurd (not-delete w.if-eq.false c.eq.ensures z) ]) c.if-b-eq1.false (omega arith)
