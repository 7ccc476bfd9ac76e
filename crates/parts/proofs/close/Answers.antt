use mathlib.Core.List.{[]}
use Rattle.hash_tree.specs.Record.{kind_number}
use Rattle.hash_tree.proofs.RecordLaws.{is_fork, is_labeled}
use Rattle.parts.specs.Layout.{climbed}
use Rattle.parts.specs.declared.Climbed.{Climbed}
use Rattle.parts.proofs.Bounds.{fork-room, label-room, most-64, most-label}
use Rattle.parts.proofs.Doing.{shut-fork, shut-label, shut-single, climbed-levels}
use lib.ListN.{length-set}
use mathlib.Core.Path.{◌≡◌, ap}
use native.Mathlib.Omega.{arith}
use Rattle.parts.proofs.close.Goals as goal

pub bounds-s-level_at : goal.bounds-s-level_at
bounds-s-level_at c =
    omega (arith, fork-room c.args.n (kind_number c.args.kind) (ap kind_number c.in-Fork.is) c.requires.0)

pub returns-in-Fork : goal.returns-in-Fork
returns-in-Fork c =
    shut-fork c.args.s.now _ [] c.args.n c.level_at.result c.args.len c.level_at.ensures _ (ap kind_number c.in-Fork.is) c.put_heading.ensures

pub overflow_cast-s : goal.overflow_cast-s
overflow_cast-s c =
    omega (arith, most-64 (kind_number c.args.kind))

pub bounds-s-at : goal.bounds-s-at
bounds-s-at c =
    omega (arith, label-room c.args.n (kind_number c.args.kind) (ap kind_number c.in-Labeled.is) c.requires.0)

pub put_label-requires : goal.put_label-requires
put_label-requires c =
    (omega (arith, most-64 (kind_number c.args.kind)), simp length-set (omega (arith, most-label (kind_number c.args.kind) (ap kind_number c.in-Labeled.is), label-room c.args.n (kind_number c.args.kind) (ap kind_number c.in-Labeled.is) c.requires.0)))

pub returns-in-Labeled : goal.returns-in-Labeled
returns-in-Labeled c =
    shut-label c.args.s.now c.put_label.new.s _ c.args.n c.level_at-at.result c.args.len c.level_at-at.ensures _ (λ e. omega (arith, e, ap kind_number c.in-Labeled.is)) (ap kind_number c.in-Labeled.is) (omega (arith, most-64 (kind_number c.args.kind))) c.put_label.ensures c.put_heading-in-Labeled.ensures

pub single-requires : goal.single-requires
single-requires c =
    omega (arith, most-64 (kind_number c.args.kind))

pub land-requires : goal.land-requires
land-requires c =
    let e : c.climb-c.result.levels ≡ (climbed c.args.s.now c.args.n c.single.result).levels = ap (λ (r : Climbed). r.levels) c.climb-c.ensures in omega (arith, e, climbed-levels c.args.s.now c.args.n c.single.result)

pub returns-in_default : goal.returns-in_default
returns-in_default c =
    shut-single c.args.s.now _ c.args.n (kind_number c.args.kind) c.args.len c.single.result c.climb-c.result (λ e. c.in_default.not-Fork (is_fork _ e)) (λ e. c.in_default.not-Labeled (is_labeled _ e)) c.single.ensures c.climb-c.ensures c.land.ensures
