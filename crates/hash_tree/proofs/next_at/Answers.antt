use mathlib.Core.Path.{sym, ap, ◌∙◌}
use native.Mathlib.Omega.{arith}
use Rattle.hash_tree.specs.Record.{after_record, place_after}
use Rattle.hash_tree.proofs.Rebuilding.{seen}
use Rattle.hash_tree.proofs.next_at.Goals as goal

pub returns-in-None : goal.returns-in-None
unfolding place_after
returns-in-None c =
    let a = c.args in
    sym (ap (after_record a.at) (sym c.record_at.ensures ∙ c.in-None.is))

pub overflow_add-result : goal.overflow_add-result
overflow_add-result c =
    let a = c.args in
    let h = seen a.s.now a.at _ _ (sym c.record_at.ensures ∙ c.in-Some.is) in
    omega (arith, h.fits)

pub overflow_add-result-in-Some : goal.overflow_add-result-in-Some
overflow_add-result-in-Some c =
    let a = c.args in
    let h = seen a.s.now a.at _ _ (sym c.record_at.ensures ∙ c.in-Some.is) in
    omega (arith, h.fits)

pub returns-in-Some : goal.returns-in-Some
unfolding place_after
returns-in-Some c =
    let a = c.args in
    sym (ap (after_record a.at) (sym c.record_at.ensures ∙ c.in-Some.is))
