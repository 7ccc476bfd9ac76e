use borrow.Author.Tests.{not-true, not-false}
use native.Mathlib.Omega.{arith}
use Rattle.runs.proofs.Testing.{clash, decides-via, decides-yes, decides-no}
use Rattle.slot_tests.proofs.Testing.{is_live, is-short, is-small, is_key, is-value, entry-by, key-at-is, value-at-is, room-padded, refuses}
use Rattle.slot_tests.proofs.is_entry.Goals as goal
use Rattle.slot_tests.proofs.is_entry.Goals.{then-not-h-via-then-not-h, then-not-h-via-else-not-h+then-h-gt-MAX_KEY, then-not-h-via-else-not-h+else-h-gt-MAX_KEY+then-h-gt-MAX_VALUE}

pub returns-then-not-h : goal.returns-then-not-h
returns-then-not-h c q =
    elim c.then-not-h.branch [
      | then-not-h-via-then-not-h w ↦ clash (is_live _ _ _ c.requires.has_slot c.requires.h_value q) (not-true _ w.if-not-h.true)
      | then-not-h-via-else-not-h+then-h-gt-MAX_KEY w ↦ omega (arith, is-short _ _ _ c.requires.has_slot c.requires.h_value q, w.if-h-gt-MAX_KEY.true)
      | then-not-h-via-else-not-h+else-h-gt-MAX_KEY+then-h-gt-MAX_VALUE w ↦ omega (arith, is-small _ _ _ c.requires.has_slot c.requires.h_value q, w.if-h-gt-MAX_VALUE.true)
    ]

pub returns-then-is_padded : goal.returns-then-is_padded
returns-then-is_padded c =
    let k = room-padded c.args.s.now _ _ c.is_padded.result 48 (key-at-is _ c.args.i _ c.key_at.ensures.0) c.is_padded.ensures in
    let v = room-padded c.args.s.now _ _ c.is_padded-then-is_padded.result 64 (value-at-is _ c.args.i _ c.value_at.ensures.0) c.is_padded-then-is_padded.ensures in
    decides-via c.is_padded-then-is_padded.result
    (entry-by _ _ _ c.requires.has_slot c.requires.h_value (not-false _ c.if-not-h.false) c.if-h-gt-MAX_KEY.false c.if-h-gt-MAX_VALUE.false (decides-yes c.is_padded.result c.if-is_padded.true k))
    (is-value _ _ _ c.requires.has_slot c.requires.h_value) v

pub returns-else-is_padded : goal.returns-else-is_padded
returns-else-is_padded c =
    let k = room-padded c.args.s.now _ _ c.is_padded.result 48 (key-at-is _ c.args.i _ c.key_at.ensures.0) c.is_padded.ensures in
    refuses c.is_padded.result c.if-is_padded.false (λ q. decides-no c.is_padded.result c.if-is_padded.false k (is_key _ _ _ c.requires.has_slot c.requires.h_value q))
