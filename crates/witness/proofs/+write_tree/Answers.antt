use mathlib.Core.List.{[]}
use native.Mathlib.Omega.{arith}
use Rattle.hash_tree.proofs.ParseLaws.{length-piece}
use Rattle.llrb.specs.Tree.{left, right}
use Rattle.output.proofs.Putting.{puts_none, puts-empty}
use Rattle.witness.proofs.Stepping.{parts_in, nil-bytes, hidden-bytes, nothing-at, hidden_at, left-lies, right-lies, less-left, less-right, node-entry, node-middle, falls-to, write-node, room₁, room₂, room₃, room₄, room₅}
use Rattle.witness.proofs.+write_tree.Goals as goal

pub put_hidden-requires : goal.put_hidden-requires
put_hidden-requires t c =
    let p = c.requires in
    record { hidden_at = hidden_at p.0 p.1; room = rw (hidden-bytes c.args.f p.0 p.1) (rw c.in-Hidden.is at p.3) }

pub put_head-requires : goal.put_head-requires
put_head-requires t c =
    let p = c.requires in
    let h = rw (c.in-Walked.is, nil-bytes c.if-n-eq0.true c.in-Walked.walk c.args.f p.0 p.1) at p.3 in
    (omega arith, omega (arith, h, length-piece 0 []))

pub returns-then-n-eq0 : goal.returns-then-n-eq0
returns-then-n-eq0 t c =
    λ u L. rw (c.in-Walked.is, nil-bytes c.if-n-eq0.true c.in-Walked.walk c.args.f u L) (puts-empty c.put_head.ensures)

pub records_at-x-requires-clause-entry_at : goal.records_at-x-requires-clause-entry_at
records_at-x-requires-clause-entry_at t c =
    let p = c.requires in node-entry c.if-n-eq0.false p.0 p.1

pub put_fork-a-requires : goal.put_fork-a-requires
put_fork-a-requires t c =
    let p = c.requires in
    let h = rw c.in-Walked.is at p.3 in
    room₁ c.if-n-eq0.false c.in-Walked.walk c.args.f c.records_at-x.result c.records_at-x.ensures p.0 p.1 c.args.out.now c.args.at h

pub write_tree-b-requires : goal.write_tree-b-requires
write_tree-b-requires t c =
    let p = c.requires in
    let ne = c.if-n-eq0.false in
    let h = rw c.in-Walked.is at p.3 in
    let b = rw c.in-Walked.is at p.2 in
    let e = c.left.ensures in (
      falls-to (less-left ne p.0 p.1 e) c.decreases,
      (
        left p.0,
        left-lies ne p.0 p.1 e,
        rw c.records_at-x.ensures (parts_in c.args.s.now c.args.n c.in-Walked.walk c.args.f b).0,
        room₂ ne c.in-Walked.walk c.args.f c.records_at-x.result c.records_at-x.ensures p.0 p.1 c.args.out.now c.args.at h c.put_fork-a.ensures,
      ),
    )

pub put_fork-c-requires : goal.put_fork-c-requires
put_fork-c-requires t c =
    let p = c.requires in
    let ne = c.if-n-eq0.false in
    let h = rw c.in-Walked.is at p.3 in
    room₃ ne c.in-Walked.walk c.args.f c.records_at-x.result c.records_at-x.ensures p.0 p.1 c.args.out.now c.args.at h c.put_fork-a.ensures (c.write_tree-b.ensures (left p.0) (left-lies ne p.0 p.1 c.left.ensures))

pub put_middle-d-requires : goal.put_middle-d-requires
put_middle-d-requires t c =
    let p = c.requires in
    let ne = c.if-n-eq0.false in
    let h = rw c.in-Walked.is at p.3 in
    record { entry_at = node-entry ne p.0 p.1; middle_at = rw c.records_at-x.ensures (node-middle ne p.0 p.1 c.in-Walked.walk c.args.f); room = room₄ ne c.in-Walked.walk c.args.f c.records_at-x.result c.records_at-x.ensures p.0 p.1 c.args.out.now c.args.at h c.put_fork-a.ensures (c.write_tree-b.ensures (left p.0) (left-lies ne p.0 p.1 c.left.ensures)) c.put_fork-c.ensures }

pub write_tree-requires : goal.write_tree-requires
write_tree-requires t c =
    let p = c.requires in
    let ne = c.if-n-eq0.false in
    let h = rw c.in-Walked.is at p.3 in
    let b = rw c.in-Walked.is at p.2 in
    let e = c.right.ensures in (
      falls-to (less-right ne p.0 p.1 e) c.decreases,
      (
        right p.0,
        right-lies ne p.0 p.1 e,
        rw c.records_at-x.ensures (parts_in c.args.s.now c.args.n c.in-Walked.walk c.args.f b).1,
        room₅ ne c.in-Walked.walk c.args.f c.records_at-x.result c.records_at-x.ensures p.0 p.1 c.args.out.now c.args.at h c.put_fork-a.ensures (c.write_tree-b.ensures (left p.0) (left-lies ne p.0 p.1 c.left.ensures)) c.put_fork-c.ensures c.put_middle-d.ensures,
      ),
    )

pub returns-in-Nothing : goal.returns-in-Nothing
returns-in-Nothing t c =
    λ u L. rw (c.in-Nothing.is, nothing-at c.args.s.now c.args.f u) (puts_none c.args.out.now c.args.at)

pub returns-in-Hidden : goal.returns-in-Hidden
returns-in-Hidden t c =
    λ u L. rw (c.in-Hidden.is, ← (hidden-bytes c.args.f u L)) c.put_hidden.ensures

pub returns-else-n-eq0 : goal.returns-else-n-eq0
returns-else-n-eq0 t c =
    λ u L.
    let ne = c.if-n-eq0.false in
    rw c.in-Walked.is
    (write-node ne c.in-Walked.walk c.args.f c.records_at-x.result c.records_at-x.ensures u L
    c.put_fork-a.ensures (c.write_tree-b.ensures (left u) (left-lies ne u L c.left.ensures)) c.put_fork-c.ensures c.put_middle-d.ensures
    (c.write_tree.ensures (right u) (right-lies ne u L c.right.ensures)))
