use mathlib.Core.Path.{sym, ap, ◌∙◌}
use Rattle.slots.specs.Layout.{Slot, Mark}
use Rattle.runs.proofs.Testing.{decides-via, decides-yes, decides-no}
use Rattle.slot_tests.proofs.Testing.{key-at-is, value-at-is, digest-at-is, free-by}
use Rattle.slot_tests.proofs.is_free.Goals as goal
use Rattle.slot_tests.proofs.is_free.Goals.{then-not-is_zero-via-then-not-is_zero, then-not-is_zero-via-else-not-is_zero+then-not-is_zero-2}

pub returns-then-not-is_zero : goal.returns-then-not-is_zero
returns-then-not-is_zero c q =
    elim c.then-not-is_zero.branch [
      | then-not-is_zero-via-then-not-is_zero w ↦ decides-no c.is_zero.result w.if-not-is_zero.true c.is_zero.ensures (key-at-is _ _ _ c.key_at.ensures.0 ∙ ap (λ (v : Slot). v.key_room) q.0)
      | then-not-is_zero-via-else-not-is_zero+then-not-is_zero-2 w ↦ decides-no w.is_zero-else-not-is_zero.result w.if-not-is_zero-2.true w.is_zero-else-not-is_zero.ensures (value-at-is _ _ _ w.value_at.ensures.0 ∙ ap (λ (v : Slot). v.value_room) q.0)
    ]

pub returns : goal.returns
returns c =
    decides-via c.is_zero-2.result
    (λ d. free-by _ _ _ c.head_of-h.ensures c.if-h.false c.if-h-2.false c.if-h-ne0.false c.if-h-ne0-2.false c.if-h-ne0-3.false c.if-h-ne0-4.false
    (sym (key-at-is _ _ _ c.key_at.ensures.0) ∙ decides-yes c.is_zero.result c.if-not-is_zero.false c.is_zero.ensures)
    (sym (value-at-is _ _ _ c.value_at.ensures.0) ∙ decides-yes c.is_zero-else-not-is_zero.result c.if-not-is_zero-2.false c.is_zero-else-not-is_zero.ensures)
    (sym (digest-at-is _ _ _ c.digest_at.ensures.0) ∙ d))
    (λ q. digest-at-is _ _ _ c.digest_at.ensures.0 ∙ ap (λ (m : Mark). m.digest) q.1) c.is_zero-2.ensures
