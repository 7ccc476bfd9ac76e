use borrow.Author.Rules.{rules}
use mathlib.Core.Path.{◌≡◌, sym, ap, ◌∙◌}
use Rattle.hash_tree.specs.declared.Kind.TheVariants.{Pruned}
use Rattle.hash_tree.specs.Record.{kind_number}
use Rattle.hash_tree.proofs.RecordLaws.{is_fork, is_labeled}
use Rattle.merge.proofs.Standing.{is_pruned, number_same}
use native.Mathlib.Omega.{arith}
use lib.ListN.{drop}
use Rattle.hash_tree.specs.Parse.{parse}
use Rattle.hash_tree.proofs.Rebuilding.{knows, parse-none, parse-bad}
use Rattle.merge.proofs.Agreeing.{met-bad, met-bad-right, pair-cut-none, pair-cut, pair-cut-none-right, pair-cut-right, pair-kinds, pair-bytes, pair-fork-bad, pair-fork, pair-labeled, pair-single}
use Rattle.merge.proofs.+agree.Goals as goal

pub returns-then-depth-eq0 : goal.returns-then-depth-eq0
returns-then-depth-eq0 t c =
    met-bad c.args.at.one c.args.at.other c.args.room (parse c.args.depth (drop c.args.at.one c.args.one.now)) (parse c.args.depth (drop c.args.at.other c.args.other.now)) (parse-none _ _ c.if-depth-eq0.true)

pub returns-in_err-kind : goal.returns-in_err-kind
returns-in_err-kind t c =
    c.from_residual.ensures ∙ met-bad c.args.at.one c.args.at.other c.args.room (parse c.args.depth (drop c.args.at.one c.args.one.now)) (parse c.args.depth (drop c.args.at.other c.args.other.now)) (parse-bad _ _ (sym c.record_at.ensures ∙ c.in_err-kind.was))

pub returns-in_err-facing : goal.returns-in_err-facing
returns-in_err-facing t c =
    c.from_residual-in_err-facing.ensures ∙ met-bad-right c.args.at.one c.args.at.other c.args.room (parse c.args.depth (drop c.args.at.one c.args.one.now)) (parse c.args.depth (drop c.args.at.other c.args.other.now)) (parse-bad _ _ (sym c.record_at-2.ensures ∙ c.in_err-facing.was))

pub overflow_add-start : goal.overflow_add-start
overflow_add-start t c =
    let h = knows c.args.one.now c.args.at.one c.args.depth _ _ c.if-depth-eq0.false (sym c.record_at.ensures ∙ c.in_ok-kind.was) in
    let g = knows c.args.other.now c.args.at.other c.args.depth _ _ c.if-depth-eq0.false (sym c.record_at-2.ensures ∙ c.in_ok-facing.was) in
    omega (arith, h.seen.fits, g.seen.fits)

pub overflow_add-begin : goal.overflow_add-begin
overflow_add-begin t c =
    let h = knows c.args.one.now c.args.at.one c.args.depth _ _ c.if-depth-eq0.false (sym c.record_at.ensures ∙ c.in_ok-kind.was) in
    let g = knows c.args.other.now c.args.at.other c.args.depth _ _ c.if-depth-eq0.false (sym c.record_at-2.ensures ∙ c.in_ok-facing.was) in
    omega (arith, h.seen.fits, g.seen.fits)

pub overflow_add-after : goal.overflow_add-after
overflow_add-after t c =
    let h = knows c.args.one.now c.args.at.one c.args.depth _ _ c.if-depth-eq0.false (sym c.record_at.ensures ∙ c.in_ok-kind.was) in
    let g = knows c.args.other.now c.args.at.other c.args.depth _ _ c.if-depth-eq0.false (sym c.record_at-2.ensures ∙ c.in_ok-facing.was) in
    omega (arith, h.seen.fits, g.seen.fits)

pub overflow_add-after-2 : goal.overflow_add-after-2
overflow_add-after-2 t c =
    let h = knows c.args.one.now c.args.at.one c.args.depth _ _ c.if-depth-eq0.false (sym c.record_at.ensures ∙ c.in_ok-kind.was) in
    let g = knows c.args.other.now c.args.at.other c.args.depth _ _ c.if-depth-eq0.false (sym c.record_at-2.ensures ∙ c.in_ok-facing.was) in
    omega (arith, h.seen.fits, g.seen.fits)

pub slice_bounds-own-end : goal.slice_bounds-own-end
slice_bounds-own-end t c =
    let h = knows c.args.one.now c.args.at.one c.args.depth _ _ c.if-depth-eq0.false (sym c.record_at.ensures ∙ c.in_ok-kind.was) in
    let g = knows c.args.other.now c.args.at.other c.args.depth _ _ c.if-depth-eq0.false (sym c.record_at-2.ensures ∙ c.in_ok-facing.was) in
    omega (arith, h.seen.fits, g.seen.fits)

pub slice_bounds-theirs-end : goal.slice_bounds-theirs-end
slice_bounds-theirs-end t c =
    let h = knows c.args.one.now c.args.at.one c.args.depth _ _ c.if-depth-eq0.false (sym c.record_at.ensures ∙ c.in_ok-kind.was) in
    let g = knows c.args.other.now c.args.at.other c.args.depth _ _ c.if-depth-eq0.false (sym c.record_at-2.ensures ∙ c.in_ok-facing.was) in
    omega (arith, h.seen.fits, g.seen.fits)

pub returns-in_err-end : goal.returns-in_err-end
returns-in_err-end t c =
    let kp : c.in_ok-kind.field-0.kind ≡ Pruned = search rules in
    let h = knows c.args.one.now c.args.at.one c.args.depth _ _ c.if-depth-eq0.false (sym c.record_at.ensures ∙ c.in_ok-kind.was) in
    let g = knows c.args.other.now c.args.at.other c.args.depth _ _ c.if-depth-eq0.false (sym c.record_at-2.ensures ∙ c.in_ok-facing.was) in
    c.from_residual-in_err-end.ensures ∙ pair-cut-none c.args.one.now c.args.other.now c.args.at.one c.args.at.other c.args.depth _ _ _ _ c.args.room h g (ap kind_number kp) c.in_err-end.ensures

pub returns-then-eq : goal.returns-then-eq
returns-then-eq t c =
    let kp : c.in_ok-kind.field-0.kind ≡ Pruned = search rules in
    let h = knows c.args.one.now c.args.at.one c.args.depth _ _ c.if-depth-eq0.false (sym c.record_at.ensures ∙ c.in_ok-kind.was) in
    let g = knows c.args.other.now c.args.at.other c.args.depth _ _ c.if-depth-eq0.false (sym c.record_at-2.ensures ∙ c.in_ok-facing.was) in
    rw c.less.ensures (pair-cut c.args.one.now c.args.other.now c.args.at.one c.args.at.other c.args.depth _ _ _ _ c.args.room h g c.in_ok-end.end (ap kind_number kp) c.in_ok-end.ensures)

pub returns-in_err-end-2 : goal.returns-in_err-end-2
returns-in_err-end-2 t c =
    let fp : c.in_ok-facing.field-0.kind ≡ Pruned = search rules in
    let h = knows c.args.one.now c.args.at.one c.args.depth _ _ c.if-depth-eq0.false (sym c.record_at.ensures ∙ c.in_ok-kind.was) in
    let g = knows c.args.other.now c.args.at.other c.args.depth _ _ c.if-depth-eq0.false (sym c.record_at-2.ensures ∙ c.in_ok-facing.was) in
    c.from_residual-in_err-end-2.ensures ∙ pair-cut-none-right c.args.one.now c.args.other.now c.args.at.one c.args.at.other c.args.depth _ _ _ _ c.args.room h g (ap kind_number fp) c.in_err-end-2.ensures

pub returns-then-eq-2 : goal.returns-then-eq-2
returns-then-eq-2 t c =
    let fp : c.in_ok-facing.field-0.kind ≡ Pruned = search rules in
    let h = knows c.args.one.now c.args.at.one c.args.depth _ _ c.if-depth-eq0.false (sym c.record_at.ensures ∙ c.in_ok-kind.was) in
    let g = knows c.args.other.now c.args.at.other c.args.depth _ _ c.if-depth-eq0.false (sym c.record_at-2.ensures ∙ c.in_ok-facing.was) in
    rw c.less-then-eq-2.ensures (pair-cut-right c.args.one.now c.args.other.now c.args.at.one c.args.at.other c.args.depth _ _ _ _ c.args.room h g c.in_ok-end-2.end (ap kind_number fp) c.in_ok-end-2.ensures)

pub returns-then-ne : goal.returns-then-ne
returns-then-ne t c =
    let kn : c.in_ok-kind.field-0.kind ≡ Pruned → ⊥ = search rules in
    let fn : c.in_ok-facing.field-0.kind ≡ Pruned → ⊥ = search rules in
    let ne : c.in_ok-kind.field-0.kind ≡ c.in_ok-facing.field-0.kind → ⊥ = search rules in
    let h = knows c.args.one.now c.args.at.one c.args.depth _ _ c.if-depth-eq0.false (sym c.record_at.ensures ∙ c.in_ok-kind.was) in
    let g = knows c.args.other.now c.args.at.other c.args.depth _ _ c.if-depth-eq0.false (sym c.record_at-2.ensures ∙ c.in_ok-facing.was) in
    pair-kinds c.args.one.now c.args.other.now c.args.at.one c.args.at.other c.args.depth _ _ _ _ c.args.room h g (λ z. kn (is_pruned _ z)) (λ z. fn (is_pruned _ z)) (λ z. ne (number_same _ _ z))

pub returns-then-not-same : goal.returns-then-not-same
returns-then-not-same t c =
    let kn : c.in_ok-kind.field-0.kind ≡ Pruned → ⊥ = search rules in
    let fn : c.in_ok-facing.field-0.kind ≡ Pruned → ⊥ = search rules in
    let h = knows c.args.one.now c.args.at.one c.args.depth _ _ c.if-depth-eq0.false (sym c.record_at.ensures ∙ c.in_ok-kind.was) in
    let g = knows c.args.other.now c.args.at.other c.args.depth _ _ c.if-depth-eq0.false (sym c.record_at-2.ensures ∙ c.in_ok-facing.was) in
    pair-bytes c.args.one.now c.args.other.now c.args.at.one c.args.at.other c.args.depth _ _ _ _ c.args.room h g c.same.result (λ z. kn (is_pruned _ z)) (λ z. fn (is_pruned _ z)) c.same.ensures c.if-not-same.true

pub returns-in_err-l-in-Fork : goal.returns-in_err-l-in-Fork
returns-in_err-l-in-Fork t c =
    let eq : c.in_ok-kind.field-0.kind ≡ c.in_ok-facing.field-0.kind = search rules in
    let h = knows c.args.one.now c.args.at.one c.args.depth _ _ c.if-depth-eq0.false (sym c.record_at.ensures ∙ c.in_ok-kind.was) in
    let g = knows c.args.other.now c.args.at.other c.args.depth _ _ c.if-depth-eq0.false (sym c.record_at-2.ensures ∙ c.in_ok-facing.was) in
    c.from_residual-in_err-l-in-Fork.ensures ∙ pair-fork-bad c.args.one.now c.args.other.now c.args.at.one c.args.at.other c.args.depth _ _ _ _ c.args.room h g _ (ap kind_number c.in-Fork.is) (ap kind_number (sym eq ∙ c.in-Fork.is)) c.in_err-l-in-Fork.ensures

pub returns-in_ok-l-in-Fork : goal.returns-in_ok-l-in-Fork
returns-in_ok-l-in-Fork t c =
    let eq : c.in_ok-kind.field-0.kind ≡ c.in_ok-facing.field-0.kind = search rules in
    let h = knows c.args.one.now c.args.at.one c.args.depth _ _ c.if-depth-eq0.false (sym c.record_at.ensures ∙ c.in_ok-kind.was) in
    let g = knows c.args.other.now c.args.at.other c.args.depth _ _ c.if-depth-eq0.false (sym c.record_at-2.ensures ∙ c.in_ok-facing.was) in
    pair-fork c.args.one.now c.args.other.now c.args.at.one c.args.at.other c.args.depth _ _ _ _ c.args.room h g c.in_ok-l-in-Fork.l _ _ (ap kind_number c.in-Fork.is) (ap kind_number (sym eq ∙ c.in-Fork.is)) c.less-in-Fork.ensures c.in_ok-l-in-Fork.ensures c.agree-in-Fork.ensures

pub returns-in-Labeled : goal.returns-in-Labeled
returns-in-Labeled t c =
    let eq : c.in_ok-kind.field-0.kind ≡ c.in_ok-facing.field-0.kind = search rules in
    let h = knows c.args.one.now c.args.at.one c.args.depth _ _ c.if-depth-eq0.false (sym c.record_at.ensures ∙ c.in_ok-kind.was) in
    let g = knows c.args.other.now c.args.at.other c.args.depth _ _ c.if-depth-eq0.false (sym c.record_at-2.ensures ∙ c.in_ok-facing.was) in
    pair-labeled c.args.one.now c.args.other.now c.args.at.one c.args.at.other c.args.depth _ _ _ _ c.args.room h g _ _ c.same.result (ap kind_number c.in-Labeled.is) (ap kind_number (sym eq ∙ c.in-Labeled.is)) c.same.ensures c.if-not-same.false c.less-in-Labeled.ensures c.agree-in-Labeled.ensures

pub returns-in_default : goal.returns-in_default
returns-in_default t c =
    let kn : c.in_ok-kind.field-0.kind ≡ Pruned → ⊥ = search rules in
    let eq : c.in_ok-kind.field-0.kind ≡ c.in_ok-facing.field-0.kind = search rules in
    let h = knows c.args.one.now c.args.at.one c.args.depth _ _ c.if-depth-eq0.false (sym c.record_at.ensures ∙ c.in_ok-kind.was) in
    let g = knows c.args.other.now c.args.at.other c.args.depth _ _ c.if-depth-eq0.false (sym c.record_at-2.ensures ∙ c.in_ok-facing.was) in
    rw c.less-in_default.ensures (pair-single c.args.one.now c.args.other.now c.args.at.one c.args.at.other c.args.depth _ _ _ _ c.args.room h g c.same.result (ap kind_number eq) c.same.ensures c.if-not-same.false (λ z. kn (is_pruned _ z)) (λ e. c.in_default.not-Fork (is_fork _ e)) (λ e. c.in_default.not-Labeled (is_labeled _ e)))
