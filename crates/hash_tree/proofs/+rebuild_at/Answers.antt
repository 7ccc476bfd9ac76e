use mathlib.Core.Path.{◌≡◌, sym, ap, ◌∙◌}
use Rattle.hash_tree.specs.Record.{kind_number}
use Rattle.hash_tree.proofs.RecordLaws.{is_fork, is_labeled}
use native.Mathlib.Omega.{arith}
use native.Mathlib.Nat.{add-sub_cancel_left}
use Prim.Native.Nat.{ℕ, ◌+◌, ◌-◌}
use Rattle.hash_tree.specs.Steps.{step_of}
use Rattle.hash_tree.proofs.Rebuilding.{knows, pruned, parse-none, parse-bad, joined, labels, fork-none, fork-then, labeled-then, single-then}
use Rattle.hash_tree.proofs.Standing.{body}
use Rattle.hash_tree.proofs.+rebuild_at.Goals as goal

-- the part that is hashed is as long as the record says
cut : (at len : ℕ) → at + 2 + len - (at + 2) ≡ len
cut at len = add-sub_cancel_left (at + 2) len

pub returns-then-depth-eq0 : goal.returns-then-depth-eq0
returns-then-depth-eq0 t c =
    sym (ap (step_of c.args.s.now) (parse-none _ _ c.if-depth-eq0.true))

pub returns-in_err-kind : goal.returns-in_err-kind
returns-in_err-kind t c =
    c.from_residual.ensures ∙ sym (ap (step_of c.args.s.now) (parse-bad _ _ (sym c.record_at.ensures ∙ c.in_err-kind.was)))

pub overflow_add-start : goal.overflow_add-start
overflow_add-start t c =
    let h = knows c.args.s.now c.args.at c.args.depth _ _ c.if-depth-eq0.false (sym c.record_at.ensures ∙ c.in_ok-kind.was) in
    omega (arith, h.seen.fits)

pub overflow_add-next : goal.overflow_add-next
overflow_add-next t c =
    let h = knows c.args.s.now c.args.at c.args.depth _ _ c.if-depth-eq0.false (sym c.record_at.ensures ∙ c.in_ok-kind.was) in
    omega (arith, h.seen.fits)

pub returns-in_err-l-in-Fork : goal.returns-in_err-l-in-Fork
returns-in_err-l-in-Fork t c =
    let h = knows c.args.s.now c.args.at c.args.depth _ _ c.if-depth-eq0.false (sym c.record_at.ensures ∙ c.in_ok-kind.was) in
    c.from_residual-in_err-l-in-Fork.ensures ∙ sym (fork-none _ _ _ _ _ h (ap kind_number c.in-Fork.is) (sym c.rebuild_at.ensures ∙ c.in_err-l-in-Fork.was))

pub returns-in_err-r-in-Fork : goal.returns-in_err-r-in-Fork
returns-in_err-r-in-Fork t c =
    let h = knows c.args.s.now c.args.at c.args.depth _ _ c.if-depth-eq0.false (sym c.record_at.ensures ∙ c.in_ok-kind.was) in
    c.from_residual-in_err-r-in-Fork.ensures
    ∙ sym (fork-then _ _ _ _ _ h (ap kind_number c.in-Fork.is) c.in_ok-l-in-Fork.l (sym c.rebuild_at.ensures ∙ c.in_ok-l-in-Fork.was)
    ∙ ap (joined c.in_ok-l-in-Fork.l) (sym c.rebuild_at-in-Fork.ensures ∙ c.in_err-r-in-Fork.was))

pub returns-in_ok-r-in-Fork : goal.returns-in_ok-r-in-Fork
returns-in_ok-r-in-Fork t c =
    let h = knows c.args.s.now c.args.at c.args.depth _ _ c.if-depth-eq0.false (sym c.record_at.ensures ∙ c.in_ok-kind.was) in
    rw c.join_fork.ensures (sym (fork-then _ _ _ _ _ h (ap kind_number c.in-Fork.is) c.in_ok-l-in-Fork.l (sym c.rebuild_at.ensures ∙ c.in_ok-l-in-Fork.was)
    ∙ ap (joined c.in_ok-l-in-Fork.l) (sym c.rebuild_at-in-Fork.ensures ∙ c.in_ok-r-in-Fork.was)))

pub returns-in_err-t-in-Labeled : goal.returns-in_err-t-in-Labeled
returns-in_err-t-in-Labeled t c =
    let h = knows c.args.s.now c.args.at c.args.depth _ _ c.if-depth-eq0.false (sym c.record_at.ensures ∙ c.in_ok-kind.was) in
    c.from_residual-in_err-t-in-Labeled.ensures
    ∙ sym (labeled-then _ _ _ _ _ h (ap kind_number c.in-Labeled.is) ∙ ap (labels _) (sym c.rebuild_at-in-Labeled.ensures ∙ c.in_err-t-in-Labeled.was))

pub slice_bounds-join_labeled-end : goal.slice_bounds-join_labeled-end
slice_bounds-join_labeled-end t c =
    let h = knows c.args.s.now c.args.at c.args.depth _ _ c.if-depth-eq0.false (sym c.record_at.ensures ∙ c.in_ok-kind.was) in
    omega (arith, h.seen.fits)

pub returns-in_ok-t-in-Labeled : goal.returns-in_ok-t-in-Labeled
returns-in_ok-t-in-Labeled t c =
    let h = knows c.args.s.now c.args.at c.args.depth _ _ c.if-depth-eq0.false (sym c.record_at.ensures ∙ c.in_ok-kind.was) in
    rw (c.join_labeled.ensures, cut c.args.at c.in_ok-kind.field-0.len)
    (sym (labeled-then _ _ _ _ _ h (ap kind_number c.in-Labeled.is) ∙ ap (labels _) (sym c.rebuild_at-in-Labeled.ensures ∙ c.in_ok-t-in-Labeled.was)))

pub slice_bounds-single-end : goal.slice_bounds-single-end
slice_bounds-single-end t c =
    let h = knows c.args.s.now c.args.at c.args.depth _ _ c.if-depth-eq0.false (sym c.record_at.ensures ∙ c.in_ok-kind.was) in
    omega (arith, h.seen.fits)

pub single-requires : goal.single-requires
single-requires t c =
    let h = knows c.args.s.now c.args.at c.args.depth _ _ c.if-depth-eq0.false (sym c.record_at.ensures ∙ c.in_ok-kind.was) in
    λ f. rw (cut c.args.at c.in_ok-kind.field-0.len) (body c.args.s.now c.args.at _ h.seen.fits ∙ pruned c.args.s.now c.args.at _ _ h.seen f)

pub returns-in_default : goal.returns-in_default
returns-in_default t c =
    let h = knows c.args.s.now c.args.at c.args.depth _ _ c.if-depth-eq0.false (sym c.record_at.ensures ∙ c.in_ok-kind.was) in
    rw (c.single.ensures, cut c.args.at c.in_ok-kind.field-0.len) (sym (single-then _ _ _ _ _ h (λ e. c.in_default.not-Fork (is_fork _ e)) (λ e. c.in_default.not-Labeled (is_labeled _ e))))
