use borrow.Author.Rules.{rules}
use mathlib.Core.Path.{ap, sym, ◌∙◌}
use native.Mathlib.Omega.{arith}
use Prim.Native.Nat.{◌+◌, ◌-◌}
use Rattle.std.specs.Prelude.{true, false}
use lib.ListN.{take, drop}
use Rattle.hash_tree.specs.Record.{kind_number}
use Rattle.hash_tree.specs.Parse.{parse}
use Rattle.hash_tree.proofs.RecordLaws.{is_fork, is_labeled}
use Rattle.hash_tree.proofs.Rebuilding.{knows, at-kind, at_fork, at-labeled, parse-none, parse-bad}
use Rattle.lookup.proofs.Walking.{lies, own-length, fork-next, walk-fits, walk-on, fork-bad, labeled-bad, walk-fork, walk-labeled, walk-single}
use Rattle.lookup.proofs.+walk_on.Goals as goal

pub returns-then-depth-eq0 : goal.returns-then-depth-eq0
returns-then-depth-eq0 t c = rw (parse-none c.args.depth (drop c.args.at c.args.s.now) c.if-depth-eq0.true)

pub returns-in_err-kind : goal.returns-in_err-kind
returns-in_err-kind t c =
    rw (parse-bad c.args.depth (drop c.args.at c.args.s.now) (sym c.record_at.ensures ∙ c.in_err-kind.was)) c.from_residual.ensures

pub overflow_add-start : goal.overflow_add-start
overflow_add-start t c =
    let h = knows c.args.s.now c.args.at c.args.depth _ _ c.if-depth-eq0.false (sym c.record_at.ensures ∙ c.in_ok-kind.was) in
    omega (arith, h.seen.fits)

pub overflow_add-next : goal.overflow_add-next
overflow_add-next t c =
    let h = knows c.args.s.now c.args.at c.args.depth _ _ c.if-depth-eq0.false (sym c.record_at.ensures ∙ c.in_ok-kind.was) in
    omega (arith, h.seen.fits)

pub returns-in_err-middle-in-Fork : goal.returns-in_err-middle-in-Fork
returns-in_err-middle-in-Fork t c =
    let h = knows c.args.s.now c.args.at c.args.depth _ _ c.if-depth-eq0.false (sym c.record_at.ensures ∙ c.in_ok-kind.was) in
    rw (at_fork c.args.s.now c.args.at c.args.depth (kind_number c.in_ok-kind.field-0.kind) c.in_ok-kind.field-0.len h (ap kind_number c.in-Fork.is), fork-bad c.args.s.now c.args.key.now (parse (c.args.depth - 1)) (c.args.at + 2 + c.in_ok-kind.field-0.len) c.args.level.now c.walk_on.new.level (parse (c.args.depth - 1) (drop (c.args.at + 2 + c.in_ok-kind.field-0.len) c.args.s.now)) c.in_err-middle-in-Fork.ensures) c.from_residual-in_err-middle-in-Fork.ensures

pub walk_on-requires-in-Fork : goal.walk_on-requires-in-Fork
walk_on-requires-in-Fork t c =
    (search rules, walk-fits c.args.s.now c.args.key.now false (c.args.at + 2 + c.in_ok-kind.field-0.len) c.args.level.now c.in_ok-middle-in-Fork.middle c.walk_on.new.level (parse (c.args.depth - 1) (drop (c.args.at + 2 + c.in_ok-kind.field-0.len) c.args.s.now)) c.in_ok-middle-in-Fork.ensures (lies c.args.s.now (c.args.depth - 1) (c.args.at + 2 + c.in_ok-kind.field-0.len)) c.requires)

pub returns-in_ok-middle-in-Fork : goal.returns-in_ok-middle-in-Fork
returns-in_ok-middle-in-Fork t c =
    let h = knows c.args.s.now c.args.at c.args.depth _ _ c.if-depth-eq0.false (sym c.record_at.ensures ∙ c.in_ok-kind.was) in
    let n = fork-next c.args.s.now c.args.at (kind_number c.in_ok-kind.field-0.kind) c.in_ok-kind.field-0.len h.seen (ap kind_number c.in-Fork.is) in
    rw (at_fork c.args.s.now c.args.at c.args.depth (kind_number c.in_ok-kind.field-0.kind) c.in_ok-kind.field-0.len h (ap kind_number c.in-Fork.is), n)
    (walk-fork c.args.s.now c.args.key.now (parse (c.args.depth - 1)) c.args.lone c.args.at c.args.level.now c.in_ok-middle-in-Fork.middle c.walk_on.new.level c.walk_on-in-Fork.result c.walk_on-in-Fork.new.level (parse (c.args.depth - 1) (drop (c.args.at + 2) c.args.s.now)) (lies c.args.s.now (c.args.depth - 1) (c.args.at + 2)) (rw n at c.in_ok-middle-in-Fork.ensures) c.walk_on-in-Fork.ensures)

pub returns-in_err-end-in-Labeled : goal.returns-in_err-end-in-Labeled
returns-in_err-end-in-Labeled t c =
    let h = knows c.args.s.now c.args.at c.args.depth _ _ c.if-depth-eq0.false (sym c.record_at.ensures ∙ c.in_ok-kind.was) in
    let n = own-length c.args.s.now c.args.at (kind_number c.in_ok-kind.field-0.kind) c.in_ok-kind.field-0.len h.seen in
    rw (at-labeled c.args.s.now c.args.at c.args.depth (kind_number c.in_ok-kind.field-0.kind) c.in_ok-kind.field-0.len h (ap kind_number c.in-Labeled.is), c.from_residual-in_err-end-in-Labeled.ensures)
    (labeled-bad c.args.s.now c.args.key.now (parse (c.args.depth - 1)) c.args.lone c.args.at c.args.level.now c.fresh-under.result c.walk_on-in-Labeled.new.level c.args.level.now (take c.in_ok-kind.field-0.len (drop (c.args.at + 2) c.args.s.now)) (parse (c.args.depth - 1) (drop (c.args.at + 2 + c.in_ok-kind.field-0.len) c.args.s.now)) (rw n c.in_err-end-in-Labeled.ensures))

pub after_label-requires : goal.after_label-requires
after_label-requires t c =
    let h = knows c.args.s.now c.args.at c.args.depth _ _ c.if-depth-eq0.false (sym c.record_at.ensures ∙ c.in_ok-kind.was) in
    (c.requires, (omega arith, omega (arith, h.seen.fits)), walk-on c.args.s.now c.args.key.now true (c.args.at + 2 + c.in_ok-kind.field-0.len) c.fresh-under.result c.in_ok-end-in-Labeled.end c.walk_on-in-Labeled.new.level (parse (c.args.depth - 1) (drop (c.args.at + 2 + c.in_ok-kind.field-0.len) c.args.s.now)) c.in_ok-end-in-Labeled.ensures)

pub returns-in_ok-end-in-Labeled : goal.returns-in_ok-end-in-Labeled
returns-in_ok-end-in-Labeled t c =
    let h = knows c.args.s.now c.args.at c.args.depth _ _ c.if-depth-eq0.false (sym c.record_at.ensures ∙ c.in_ok-kind.was) in
    let n = own-length c.args.s.now c.args.at (kind_number c.in_ok-kind.field-0.kind) c.in_ok-kind.field-0.len h.seen in
    rw (at-labeled c.args.s.now c.args.at c.args.depth (kind_number c.in_ok-kind.field-0.kind) c.in_ok-kind.field-0.len h (ap kind_number c.in-Labeled.is))
    (walk-labeled c.args.s.now c.args.key.now (parse (c.args.depth - 1)) c.args.lone c.args.at c.args.level.now (take c.in_ok-kind.field-0.len (drop (c.args.at + 2) c.args.s.now)) c.in_ok-end-in-Labeled.end c.walk_on-in-Labeled.new.level c.after_label.new.level (parse (c.args.depth - 1) (drop (c.args.at + 2 + c.in_ok-kind.field-0.len) c.args.s.now)) (rw n (rw c.fresh-under.ensures at c.in_ok-end-in-Labeled.ensures)) (rw n c.after_label.ensures))

pub returns-in_default : goal.returns-in_default
returns-in_default t c =
    let h = knows c.args.s.now c.args.at c.args.depth _ _ c.if-depth-eq0.false (sym c.record_at.ensures ∙ c.in_ok-kind.was) in
    rw (at-kind c.args.s.now c.args.at c.args.depth (kind_number c.in_ok-kind.field-0.kind) c.in_ok-kind.field-0.len h)
    (walk-single c.args.s.now c.args.key.now (parse (c.args.depth - 1)) c.args.lone c.args.at (kind_number c.in_ok-kind.field-0.kind) c.in_ok-kind.field-0.len c.args.level.now c.single.new.level h.seen (λ e. c.in_default.not-Fork (is_fork _ e)) (λ e. c.in_default.not-Labeled (is_labeled _ e)) c.single.ensures)
