use Prim.Native.Nat.{ℕ, ◌/◌, ◌<◌}
use Rattle.hash_tree.specs.declared.Kind.{Kind}
use Rattle.hash_tree.specs.Record.{kind_number, kind_of_number}
use Rattle.hash_tree.proofs.RecordLaws.{numbered, with_kind, no_kind}
use Rattle.std.specs.Prelude.{Option, Some}
use Rattle.parts.proofs.Cuts.{below_one}
use Rattle.parts.proofs.Verdicts.{never-kind, never-deep, never-high, more-one, never-low, never-most, more-body, closed_all}
use mathlib.Core.Path.{◌≡◌, sym, ap, ◌∙◌}
use native.Mathlib.Omega.{arith}
use Rattle.parts.proofs.judge.Goals as goal

-- the kind that was found, and its number
found : (k : ℕ) (kind : Kind) (o : Option Kind) → o ≡ kind_of_number k → o ≡ Some kind → (k < 5) × (kind_number kind ≡ k)
found k kind o e f =
    let w = with_kind k kind (sym e ∙ f) in
    (w.0, ap kind_number (sym w.1) ∙ numbered k w.0)

pub returns-in_default : goal.returns-in_default
returns-in_default c =
    let a = c.args in
    let l : a.a / 32 < 5 → ⊥ = no_kind _ (sym c.in_default.ensures) in
    sym (never-kind a.n a.held a.a a.b (omega (arith, l)))

pub overflow_add-deep : goal.overflow_add-deep
overflow_add-deep c =
    omega (arith, c.below_it.ensures, below_one (kind_number c.in-Some.kind))

pub returns-then-deep-gt-LEVELS : goal.returns-then-deep-gt-LEVELS
returns-then-deep-gt-LEVELS c =
    let a = c.args in
    let k = found _ _ _ c.from_number.ensures c.in-Some.is in
    sym (never-deep a.n a.held a.a a.b k.0 (omega (arith, rw k.1 at c.below_it.ensures)))

pub returns-then-high-ne0 : goal.returns-then-high-ne0
returns-then-high-ne0 c =
    let a = c.args in
    let k = found _ _ _ c.from_number.ensures c.in-Some.is in
    sym (never-high a.n a.held a.a a.b k.0 (omega (arith, rw k.1 at c.below_it.ensures)) (λ e. omega arith))

pub returns-then-held-lt2 : goal.returns-then-held-lt2
returns-then-held-lt2 c =
    let a = c.args in
    let k = found _ _ _ c.from_number.ensures c.in-Some.is in
    sym (more-one a.n a.held a.a a.b k.0 (omega (arith, rw k.1 at c.below_it.ensures)) (omega arith) (omega arith))

pub returns-then-len-least_len : goal.returns-then-len-least_len
returns-then-len-least_len c =
    let a = c.args in
    let k = found _ _ _ c.from_number.ensures c.in-Some.is in
    sym (never-low a.n a.held a.a a.b k.0 (omega (arith, rw k.1 at c.below_it.ensures)) (omega arith) (omega arith) (omega arith))

pub returns-then-most_len-len : goal.returns-then-most_len-len
returns-then-most_len-len c =
    let a = c.args in
    let k = found _ _ _ c.from_number.ensures c.in-Some.is in
    sym (never-most a.n a.held a.a a.b k.0 (omega (arith, rw k.1 at c.below_it.ensures)) (omega arith) (omega arith) (omega arith) (omega arith))

pub returns-then-held-len : goal.returns-then-held-len
returns-then-held-len c =
    let a = c.args in
    let k = found _ _ _ c.from_number.ensures c.in-Some.is in
    sym (more-body a.n a.held a.a a.b k.0 (omega (arith, rw k.1 at c.below_it.ensures)) (omega arith) (omega arith) (omega arith) (omega arith) (omega arith))

pub returns : goal.returns
returns c =
    let a = c.args in
    let k = found _ _ _ c.from_number.ensures c.in-Some.is in
    let w = with_kind _ _ (sym c.from_number.ensures ∙ c.in-Some.is) in
    rw (← w.1) (sym (closed_all a.n a.held a.a a.b k.0 (omega (arith, rw k.1 at c.below_it.ensures)) (omega arith) (omega arith) (omega arith) (omega arith) (omega arith)))
