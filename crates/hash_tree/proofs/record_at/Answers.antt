use mathlib.Core.Path.{sym, ◌∙◌}
use native.Mathlib.Omega.{arith}
use lib.ListN.{length-drop}
use Rattle.hash_tree.proofs.RecordLaws.{shuts, shuts-at, opens_at, with_kind, no_kind}
use Rattle.hash_tree.proofs.record_at.Goals as goal

pub returns-then-left-lt2 : goal.returns-then-left-lt2
returns-then-left-lt2 c =
    let a = c.args in
    sym (shuts _ (λ o. omega (arith, c.left_at-left.ensures, length-drop a.at a.s.now)))

pub returns-in_err-kind : goal.returns-in_err-kind
returns-in_err-kind c =
    let a = c.args in
    c.from_residual.ensures
    ∙ sym (shuts-at a.s.now a.at _ _ c.from-a.ensures c.from-b.ensures (λ h₁ h₂ h₃ h₄ h₅. no_kind _ (sym c.from_number.ensures ∙ c.in_err-kind.was) h₂))

pub returns-then-len-left : goal.returns-then-len-left
returns-then-len-left c =
    let a = c.args in
    let k = with_kind _ _ (sym c.from_number.ensures ∙ c.in_ok-kind.was) in
    rw (← k.1) (sym (opens_at a.s.now a.at _ _ c.from-a.ensures c.from-b.ensures (omega arith) k.0 (omega arith) (omega arith) (omega arith)))

pub returns-else-least_len-len : goal.returns-else-least_len-len
returns-else-least_len-len c =
    let a = c.args in
    sym (shuts-at a.s.now a.at _ _ c.from-a.ensures c.from-b.ensures (λ h₁ h₂ h₃ h₄ h₅. grind arith))
