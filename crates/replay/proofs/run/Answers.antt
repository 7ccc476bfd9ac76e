use mathlib.Core.Path.{subst, ap, ◌∙◌}
use native.Mathlib.Omega.{arith}
use Rattle.std.specs.Prelude.{Ok, Err}
use Rattle.store.specs.Numbers.{Refusal, Full, Absent}
use Rattle.replay.specs.Records.{Tells}
use Rattle.replay.proofs.Reading.{has-record, fits}
use Rattle.replay.proofs.Running.{short-key, short-value, one_more, is-full, is-absent, counted-as, finished}
use Rattle.replay.proofs.run.Goals as goal

pub unwrap-record-requires : goal.unwrap-record-requires
unwrap-record-requires c =
    has-record _ _ c.loop-at-test.true _ c.record_at.ensures (c.loop-at.invariant.halfway c.requires.0.0 c.requires.1.0 c.requires.0.1 c.requires.1.1).left

pub slice_bounds-edit_stale-end : goal.slice_bounds-edit_stale-end
slice_bounds-edit_stale-end c =
    omega (arith, fits _ _ c.loop-at-test.true (subst (Tells _) c.unwrap-record.ensures c.record_at.ensures))

pub slice_bounds-edit_stale-end-in-loop-at : goal.slice_bounds-edit_stale-end-in-loop-at
slice_bounds-edit_stale-end-in-loop-at c =
    omega (arith, fits _ _ c.loop-at-test.true (subst (Tells _) c.unwrap-record.ensures c.record_at.ensures))

pub edit_stale-requires : goal.edit_stale-requires
edit_stale-requires c =
    let x = c.loop-at.invariant.halfway c.requires.0.0 c.requires.1.0 c.requires.0.1 c.requires.1.1 in record { sound = (x.model, x.stale); key = short-key _ _ c.loop-at-test.true (subst (Tells _) c.unwrap-record.ensures c.record_at.ensures); value = short-value _ _ c.loop-at-test.true (subst (Tells _) c.unwrap-record.ensures c.record_at.ensures) }

pub loop-at-preserved-then-eq : goal.loop-at-preserved-then-eq
loop-at-preserved-then-eq c =
    let x = c.loop-at.invariant.halfway c.requires.0.0 c.requires.1.0 c.requires.0.1 c.requires.1.1 in
    let e = is-full (c.in-Err.ensures x.model x.stale).why c.if-eq.true c.eq.ensures in
    counted-as _ _ (Err Full) (c.in-Err.is ∙ ap (λ (z : Refusal). Err z) e) (omega arith) (omega arith) (one_more _ _ c.loop-at-test.true (subst (Tells _) c.unwrap-record.ensures c.record_at.ensures) (omega arith) c.edit_stale.result c.edit_stale.ensures c.loop-at.invariant)

pub loop-at-preserved-else-eq : goal.loop-at-preserved-else-eq
loop-at-preserved-else-eq c =
    let x = c.loop-at.invariant.halfway c.requires.0.0 c.requires.1.0 c.requires.0.1 c.requires.1.1 in
    let e = is-absent (c.in-Err.ensures x.model x.stale).why c.if-eq.false c.eq.ensures in
    counted-as _ _ (Err Absent) (c.in-Err.is ∙ ap (λ (z : Refusal). Err z) e) (omega arith) (omega arith) (one_more _ _ c.loop-at-test.true (subst (Tells _) c.unwrap-record.ensures c.record_at.ensures) (omega arith) c.edit_stale.result c.edit_stale.ensures c.loop-at.invariant)

pub loop-at-preserved : goal.loop-at-preserved
loop-at-preserved c =
    counted-as _ _ (Ok tt) c.in_default.is (omega arith) (omega arith) (one_more _ _ c.loop-at-test.true (subst (Tells _) c.unwrap-record.ensures c.record_at.ensures) (omega arith) c.edit_stale.result c.edit_stale.ensures c.loop-at.invariant)

pub settle-requires : goal.settle-requires
settle-requires c =
    let x = c.loop-at.invariant.halfway c.requires.0.0 c.requires.1.0 c.requires.0.1 c.requires.1.1 in (x.model, x.stale)

pub returns : goal.returns
returns c =
    finished _ c.loop-at.invariant c.loop-at-test.false c.settle.ensures (λ k. omega (arith, c.slice_known-1.given k)) c.requires.0.1 c.requires.1.1
