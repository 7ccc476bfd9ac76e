use mathlib.Core.Path.{sym, ap, ◌∙◌}
use Rattle.hash_tree.specs.Record.{kind_number}
use Rattle.hash_tree.proofs.RecordLaws.{is_fork, is_labeled}
use native.Mathlib.Omega.{arith}
use Rattle.hash_tree.proofs.Rebuilding.{knows, parse-none, parse-bad}
use Rattle.hash_tree.proofs.Standing.{place-bad, tree-fork-bad, tree-fork, tree-labeled, tree-single}
use Rattle.hash_tree.proofs.+tree_at.Goals as goal

pub returns-then-depth-eq0 : goal.returns-then-depth-eq0
returns-then-depth-eq0 t c =
    place-bad _ _ (parse-none _ _ c.if-depth-eq0.true)

pub returns-in_err-kind : goal.returns-in_err-kind
returns-in_err-kind t c =
    c.from_residual.ensures ∙ place-bad _ _ (parse-bad _ _ (sym c.record_at.ensures ∙ c.in_err-kind.was))

pub overflow_add-next : goal.overflow_add-next
overflow_add-next t c =
    let h = knows c.args.s.now c.args.at c.args.depth _ _ c.if-depth-eq0.false (sym c.record_at.ensures ∙ c.in_ok-kind.was) in
    omega (arith, h.seen.fits)

pub overflow_add-next-2 : goal.overflow_add-next-2
overflow_add-next-2 t c =
    let h = knows c.args.s.now c.args.at c.args.depth _ _ c.if-depth-eq0.false (sym c.record_at.ensures ∙ c.in_ok-kind.was) in
    omega (arith, h.seen.fits)

pub returns-in_err-middle-in-Fork : goal.returns-in_err-middle-in-Fork
returns-in_err-middle-in-Fork t c =
    let h = knows c.args.s.now c.args.at c.args.depth _ _ c.if-depth-eq0.false (sym c.record_at.ensures ∙ c.in_ok-kind.was) in
    c.from_residual-in_err-middle-in-Fork.ensures
    ∙ tree-fork-bad c.args.s.now c.args.at c.args.depth _ _ h (ap kind_number c.in-Fork.is) (sym c.tree_at.ensures ∙ c.in_err-middle-in-Fork.was)

pub returns-in_ok-middle-in-Fork : goal.returns-in_ok-middle-in-Fork
returns-in_ok-middle-in-Fork t c =
    let h = knows c.args.s.now c.args.at c.args.depth _ _ c.if-depth-eq0.false (sym c.record_at.ensures ∙ c.in_ok-kind.was) in
    tree-fork c.args.s.now c.args.at c.args.depth _ _ h (ap kind_number c.in-Fork.is) _ _ (sym c.tree_at.ensures ∙ c.in_ok-middle-in-Fork.was) c.tree_at-in-Fork.ensures

pub returns-in-Labeled : goal.returns-in-Labeled
returns-in-Labeled t c =
    let h = knows c.args.s.now c.args.at c.args.depth _ _ c.if-depth-eq0.false (sym c.record_at.ensures ∙ c.in_ok-kind.was) in
    tree-labeled c.args.s.now c.args.at c.args.depth _ _ h (ap kind_number c.in-Labeled.is) _ c.tree_at-in-Labeled.ensures

pub returns-in_default : goal.returns-in_default
returns-in_default t c =
    let h = knows c.args.s.now c.args.at c.args.depth _ _ c.if-depth-eq0.false (sym c.record_at.ensures ∙ c.in_ok-kind.was) in
    tree-single c.args.s.now c.args.at c.args.depth _ _ h (λ e. c.in_default.not-Fork (is_fork _ e)) (λ e. c.in_default.not-Labeled (is_labeled _ e))
