use Rattle.std.proofs.Common.{[], eqb, arith}
use borrow.Author.Tests.{eqb-false}
use Rattle.hash_tree.proofs.ParseLaws.{length-piece}
use Rattle.llrb.specs.Tree.{left, right}
use Rattle.witness.proofs.Lengths.{hidden-length}
use Rattle.witness.proofs.Stepping.{parts_in, nil-bytes, hidden-bytes, nothing-at, hidden_at, left-lies, right-lies, less-left, less-right, node-entry, node-length, falls-to, room-iff, same-left}
use Rattle.witness.proofs.+fit.Goals as goal

pub returns-then-n-eq0 : goal.returns-then-n-eq0
returns-then-n-eq0 t c =
    λ u L. rw (c.in-Walked.is, nil-bytes c.if-n-eq0.true c.in-Walked.walk c.args.f u L, length-piece 0 []) (room-iff _ _ c.less-then-n-eq0.ensures)

pub records_at-x-requires-clause-entry_at : goal.records_at-x-requires-clause-entry_at
records_at-x-requires-clause-entry_at t c =
    let p = c.requires in node-entry c.if-n-eq0.false p.0 p.1

-- each step that finds too little room tells that the records do not fit

pub returns-in_err-a-in-Walked : goal.returns-in_err-a-in-Walked
returns-in_err-a-in-Walked t c =
    λ u L.
    let e = node-length c.if-n-eq0.false c.in-Walked.walk c.args.f c.records_at-x.result c.records_at-x.ensures u L in
    let n = rw c.in_err-a-in-Walked.was at (room-iff _ _ c.less-in-Walked.ensures) in
    rw (c.in-Walked.is, c.from_residual.ensures) (λ h. n (omega arith))

pub fit-requires : goal.fit-requires
fit-requires t c =
    let p = c.requires in
    let b = rw c.in-Walked.is at p.2 in
    let e = c.left.ensures in
    (falls-to (less-left c.if-n-eq0.false p.0 p.1 e) c.decreases, (left p.0, left-lies c.if-n-eq0.false p.0 p.1 e, rw c.records_at-x.ensures (parts_in c.args.s.now c.args.n c.in-Walked.walk c.args.f b).0))

pub returns-in_err-b-in-Walked : goal.returns-in_err-b-in-Walked
returns-in_err-b-in-Walked t c =
    λ u L.
    let ne = c.if-n-eq0.false in
    let e = node-length ne c.in-Walked.walk c.args.f c.records_at-x.result c.records_at-x.ensures u L in
    let a = rw c.in_ok-a-in-Walked.was at (room-iff _ _ c.less-in-Walked.ensures) in
    let n = rw c.in_err-b-in-Walked.was at (c.fit.ensures (left u) (left-lies ne u L c.left.ensures)) in
    rw (c.in-Walked.is, c.from_residual-in_err-b-in-Walked.ensures) (λ h. n (omega arith))

pub returns-in_err-c-in-Walked : goal.returns-in_err-c-in-Walked
returns-in_err-c-in-Walked t c =
    λ u L.
    let ne = c.if-n-eq0.false in
    let e = node-length ne c.in-Walked.walk c.args.f c.records_at-x.result c.records_at-x.ensures u L in
    let a = rw c.in_ok-a-in-Walked.was at (room-iff _ _ c.less-in-Walked.ensures) in
    let b = rw c.in_ok-b-in-Walked.was at (c.fit.ensures (left u) (left-lies ne u L c.left.ensures)) in
    let n = rw c.in_err-c-in-Walked.was at (room-iff _ _ c.less-in-Walked-2.ensures) in
    rw (c.in-Walked.is, c.from_residual-in_err-c-in-Walked.ensures) (λ h. n (omega arith))

pub middle_len-requires : goal.middle_len-requires
middle_len-requires t c =
    let p = c.requires in node-entry c.if-n-eq0.false p.0 p.1

pub returns-in_err-d-in-Walked : goal.returns-in_err-d-in-Walked
returns-in_err-d-in-Walked t c =
    λ u L.
    let ne = c.if-n-eq0.false in
    let e = node-length ne c.in-Walked.walk c.args.f c.records_at-x.result c.records_at-x.ensures u L in
    let a = rw c.in_ok-a-in-Walked.was at (room-iff _ _ c.less-in-Walked.ensures) in
    let b = rw c.in_ok-b-in-Walked.was at (c.fit.ensures (left u) (left-lies ne u L c.left.ensures)) in
    let k = rw c.in_ok-c-in-Walked.was at (room-iff _ _ c.less-in-Walked-2.ensures) in
    let n = rw c.in_err-d-in-Walked.was at (room-iff _ _ c.less-in-Walked-3.ensures) in
    rw (c.in-Walked.is, c.from_residual-in_err-d-in-Walked.ensures) (λ h. n (omega arith))

pub fit-requires-in-Walked : goal.fit-requires-in-Walked
fit-requires-in-Walked t c =
    let p = c.requires in
    let b = rw c.in-Walked.is at p.2 in
    let e = c.right.ensures in
    (falls-to (less-right c.if-n-eq0.false p.0 p.1 e) c.decreases, (right p.0, right-lies c.if-n-eq0.false p.0 p.1 e, rw c.records_at-x.ensures (parts_in c.args.s.now c.args.n c.in-Walked.walk c.args.f b).1))

pub returns-in-Nothing : goal.returns-in-Nothing
returns-in-Nothing t c =
    λ u L. rw (c.in-Nothing.is, nothing-at c.args.s.now c.args.f u) (omega arith, omega arith)

pub returns-in-Hidden : goal.returns-in-Hidden
returns-in-Hidden t c =
    λ u L.
    let e = hidden-length c.args.s.now c.args.n (eqb c.args.n 0) (λ q. hidden_at u L (eqb-false c.args.n 0 q)) in
    rw (c.in-Hidden.is, ← (hidden-bytes c.args.f u L), ← e, ← c.hidden_len.ensures) (room-iff _ _ c.less.ensures)

pub returns-in_ok-d-in-Walked : goal.returns-in_ok-d-in-Walked
returns-in_ok-d-in-Walked t c =
    λ u L.
    let ne = c.if-n-eq0.false in
    let e = node-length ne c.in-Walked.walk c.args.f c.records_at-x.result c.records_at-x.ensures u L in
    let a = rw c.in_ok-a-in-Walked.was at (room-iff _ _ c.less-in-Walked.ensures) in
    let b = rw c.in_ok-b-in-Walked.was at (c.fit.ensures (left u) (left-lies ne u L c.left.ensures)) in
    let k = rw c.in_ok-c-in-Walked.was at (room-iff _ _ c.less-in-Walked-2.ensures) in
    let d = rw c.in_ok-d-in-Walked.was at (room-iff _ _ c.less-in-Walked-3.ensures) in
    rw c.in-Walked.is
    (same-left _ (c.fit-in-Walked.ensures (right u) (right-lies ne u L c.right.ensures))
    (λ h. omega arith)
    (λ h. omega arith)
    (λ h. omega arith))
