use mathlib.Core.Path.{sym, ◌∙◌}
use borrow.Author.Tests.{lt-ltb, le-ltb}
use Rattle.hash_tree.specs.Written.{max_depth}
use Rattle.hash_tree.specs.Parse.{parse}
use Rattle.lookup.specs.Answer.{lookup_answer}
use Rattle.lookup.proofs.Walking.{lies}
use Rattle.lookup.proofs.Answers.{of-walk, none-of, none-alone, more-alone, ill-alone, well-alone}
use Rattle.lookup.proofs.lookup.Goals as goal

pub returns-then-key-gt-MAX_LABEL : goal.returns-then-key-gt-MAX_LABEL
unfolding lookup_answer
returns-then-key-gt-MAX_LABEL c =
    rw (lt-ltb _ _ c.if-key-gt-MAX_LABEL.true)

pub returns-then-level : goal.returns-then-level
unfolding lookup_answer
returns-then-level c =
    let s = c.args.witness.now in
    rw (le-ltb _ _ c.if-key-gt-MAX_LABEL.false, well-alone s c.args.key.now c.in-Some.walk.level c.in-Some.walk.next (parse max_depth s) (of-walk _ _ _ _ _ _ _ _ (rw c.fresh.ensures at (sym c.in-Some.is ∙ c.walk_at.ensures))) (lies s max_depth 0) c.if-walk-witness.true c.if-level.true, c.unwrap_or.ensures, c.gap.ensures)

pub returns-else-level : goal.returns-else-level
unfolding lookup_answer
returns-else-level c =
    let s = c.args.witness.now in
    rw (le-ltb _ _ c.if-key-gt-MAX_LABEL.false, ill-alone s c.args.key.now c.in-Some.walk.level c.in-Some.walk.next (parse max_depth s) (of-walk _ _ _ _ _ _ _ _ (rw c.fresh.ensures at (sym c.in-Some.is ∙ c.walk_at.ensures))) (lies s max_depth 0) c.if-walk-witness.true c.if-level.false)

pub returns-in_default : goal.returns-in_default
unfolding lookup_answer
returns-in_default c =
    let s = c.args.witness.now in
    rw (le-ltb _ _ c.if-key-gt-MAX_LABEL.false, more-alone s c.args.key.now c.in-Some.walk.level c.in-Some.walk.next (parse max_depth s) (of-walk _ _ _ _ _ _ _ _ (rw c.fresh.ensures at (sym c.in-Some.is ∙ c.walk_at.ensures))) (lies s max_depth 0) c.if-walk-witness.false)

pub returns-in_default-2 : goal.returns-in_default-2
unfolding lookup_answer
returns-in_default-2 c =
    let s = c.args.witness.now in
    rw (le-ltb _ _ c.if-key-gt-MAX_LABEL.false, none-alone s c.args.key.now c.fresh.result (parse max_depth s) (none-of _ _ _ _ _ _ _ (rw c.fresh.ensures at (sym c.in_default.is ∙ c.walk_at.ensures))))
