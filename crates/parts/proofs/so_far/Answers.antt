use mathlib.Core.Path.{sym, ap, ◌∙◌}
use borrow.Author.Tests.{eq-eqb}
use Rattle.parts.specs.Machine.{part_number}
use Rattle.parts.proofs.Doing.{parts_whole, some_number, none_number}
use Rattle.parts.proofs.so_far.Goals as goal
use Rattle.parts.proofs.so_far.Goals.{then-s-eq-WHOLE, else-s-eq-WHOLE}

pub returns-then-is_some : goal.returns-then-is_some
returns-then-is_some c =
    elim c.if-s-eq-WHOLE.branch [
      | then-s-eq-WHOLE w ↦ sym (ap part_number (parts_whole c.args.s.now w.if-s-eq-WHOLE.true))
      | else-s-eq-WHOLE w ↦ some_number c.args.s.now w.under_way.result w.under_way.ensures (sym (w.value-is ∙ w.is_some.ensures) ∙ c.if-is_some.true)
    ]

pub returns-else-is_some : goal.returns-else-is_some
returns-else-is_some c =
    elim c.if-s-eq-WHOLE.branch [
      | then-s-eq-WHOLE w ↦ let e = sym (eq-eqb _ _ w.if-s-eq-WHOLE.true) ∙ sym w.value-is ∙ c.if-is_some.false in cc
      | else-s-eq-WHOLE w ↦ none_number c.args.s.now w.under_way.result w.under_way.ensures (sym (w.value-is ∙ w.is_some.ensures) ∙ c.if-is_some.false) w.if-s-eq-WHOLE.false
    ]
