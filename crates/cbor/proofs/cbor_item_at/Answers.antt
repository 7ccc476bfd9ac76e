use borrow.Author.Rules.{rules}
use mathlib.Core.Path.{refl, sym, ◌∙◌}
use Prim.Native.Nat.{◌<◌, ◌≤◌}
use native.Mathlib.Omega.{arith}
use Rattle.hash_tree.specs.Record.{kind_number}
use lib.ListN.{get_or}
use Rattle.hash_tree.proofs.RecordLaws.{number_lt}
use Rattle.cbor.proofs.Reading.{number-is, number_none, too_few, other-kind, other-array, no-string, no-head, low-head, short-head, other-head, no_length, short-length, long-head}
use Rattle.cbor.proofs.cbor_item_at.Goals as goal

pub returns-then-left-lt2 : goal.returns-then-left-lt2
returns-then-left-lt2 c =
    too_few c.args.s.now c.args.at (omega arith)

pub returns-in_err-kind : goal.returns-in_err-kind
returns-in_err-kind c =
    rw c.from_residual.ensures (other-kind c.args.s.now c.args.at (get_or c.args.s.now c.args.at 0) c.wide.result (omega arith) refl c.wide.ensures.0 (number_none c.wide.result (sym c.from_number.ensures ∙ c.in_err-kind.was)))

pub returns-then-s-at : goal.returns-then-s-at
returns-then-s-at c =
    other-array c.args.s.now c.args.at (get_or c.args.s.now c.args.at 0) (kind_number c.in_ok-kind.kind) (omega arith) refl (number-is c.wide.result _ c.in_ok-kind.kind c.wide.ensures.0 (sym c.from_number.ensures ∙ c.in_ok-kind.was)) (λ e. omega arith)

pub returns-then-is_bare : goal.returns-then-is_bare
returns-then-is_bare c =
    let b : kind_number c.in_ok-kind.kind < 2 = search rules in
    no-string c.args.s.now c.args.at (get_or c.args.s.now c.args.at 0) (kind_number c.in_ok-kind.kind) (omega arith) refl (number-is c.wide.result _ c.in_ok-kind.kind c.wide.ensures.0 (sym c.from_number.ensures ∙ c.in_ok-kind.was)) (omega arith) b

pub returns-then-left-lt3 : goal.returns-then-left-lt3
returns-then-left-lt3 c =
    let b : 2 ≤ kind_number c.in_ok-kind.kind = search rules in
    no-head c.args.s.now c.args.at (get_or c.args.s.now c.args.at 0) (kind_number c.in_ok-kind.kind) (omega arith) refl (number-is c.wide.result _ c.in_ok-kind.kind c.wide.ensures.0 (sym c.from_number.ensures ∙ c.in_ok-kind.was)) (omega arith) b (omega arith)

pub returns-then-head-lt-STRING : goal.returns-then-head-lt-STRING
returns-then-head-lt-STRING c =
    let b : 2 ≤ kind_number c.in_ok-kind.kind = search rules in
    low-head c.args.s.now c.args.at (get_or c.args.s.now c.args.at 0) (kind_number c.in_ok-kind.kind) (omega arith) refl (number-is c.wide.result _ c.in_ok-kind.kind c.wide.ensures.0 (sym c.from_number.ensures ∙ c.in_ok-kind.was)) (omega arith) b _ (omega arith) c.wide-head.ensures.0 (number_lt c.in_ok-kind.kind) c.if-head-lt-STRING.true

pub returns-then-head-lt-LONG_STRING : goal.returns-then-head-lt-LONG_STRING
returns-then-head-lt-LONG_STRING c =
    let b : 2 ≤ kind_number c.in_ok-kind.kind = search rules in
    rw (short-head c.args.s.now c.args.at (get_or c.args.s.now c.args.at 0) (kind_number c.in_ok-kind.kind) (omega arith) refl (number-is c.wide.result _ c.in_ok-kind.kind c.wide.ensures.0 (sym c.from_number.ensures ∙ c.in_ok-kind.was)) (omega arith) b _ (omega arith) c.wide-head.ensures.0 (number_lt c.in_ok-kind.kind) c.if-head-lt-STRING.false c.if-head-lt-LONG_STRING.true) c.sized_at.ensures

pub returns-then-head-ne-LONG_STRING : goal.returns-then-head-ne-LONG_STRING
returns-then-head-ne-LONG_STRING c =
    let b : 2 ≤ kind_number c.in_ok-kind.kind = search rules in
    other-head c.args.s.now c.args.at (get_or c.args.s.now c.args.at 0) (kind_number c.in_ok-kind.kind) (omega arith) refl (number-is c.wide.result _ c.in_ok-kind.kind c.wide.ensures.0 (sym c.from_number.ensures ∙ c.in_ok-kind.was)) (omega arith) b _ (omega arith) c.wide-head.ensures.0 (number_lt c.in_ok-kind.kind) c.if-head-lt-LONG_STRING.false c.if-head-ne-LONG_STRING.true

pub returns-then-left-lt4 : goal.returns-then-left-lt4
returns-then-left-lt4 c =
    let b : 2 ≤ kind_number c.in_ok-kind.kind = search rules in
    no_length c.args.s.now c.args.at (get_or c.args.s.now c.args.at 0) (kind_number c.in_ok-kind.kind) (omega arith) refl (number-is c.wide.result _ c.in_ok-kind.kind c.wide.ensures.0 (sym c.from_number.ensures ∙ c.in_ok-kind.was)) (omega arith) b _ (omega arith) c.wide-head.ensures.0 (number_lt c.in_ok-kind.kind) c.if-head-ne-LONG_STRING.false (omega arith)

pub returns-then-len-lt-SHORT : goal.returns-then-len-lt-SHORT
returns-then-len-lt-SHORT c =
    let b : 2 ≤ kind_number c.in_ok-kind.kind = search rules in
    short-length c.args.s.now c.args.at (get_or c.args.s.now c.args.at 0) (kind_number c.in_ok-kind.kind) (omega arith) refl (number-is c.wide.result _ c.in_ok-kind.kind c.wide.ensures.0 (sym c.from_number.ensures ∙ c.in_ok-kind.was)) (omega arith) b _ (omega arith) c.wide-head.ensures.0 (number_lt c.in_ok-kind.kind) c.if-head-ne-LONG_STRING.false _ (omega arith) c.wide-len.ensures.0 (omega arith)

pub returns : goal.returns
returns c =
    let b : 2 ≤ kind_number c.in_ok-kind.kind = search rules in
    rw (long-head c.args.s.now c.args.at (get_or c.args.s.now c.args.at 0) (kind_number c.in_ok-kind.kind) (omega arith) refl (number-is c.wide.result _ c.in_ok-kind.kind c.wide.ensures.0 (sym c.from_number.ensures ∙ c.in_ok-kind.was)) (omega arith) b _ (omega arith) c.wide-head.ensures.0 (number_lt c.in_ok-kind.kind) c.if-head-ne-LONG_STRING.false _ (omega arith) c.wide-len.ensures.0 (omega arith)) c.sized_at-2.ensures
