use mathlib.Core.Path.{◌≡◌, sym, ◌∙◌}
use borrow.Author.Rules.{rules}
use Rattle.std.specs.Prelude.{None}
use Rattle.hash_tree.specs.Written.{max_depth}
use Rattle.hash_tree.specs.Parse.{parse}
use Rattle.hash_tree.specs.Whole.{rebuilt}
use Rattle.hash_tree.proofs.Rebuilding.{left, none-alone, more-alone, all-alone}
use Rattle.hash_tree.proofs.rebuild.Goals as goal

pub returns-in-Some : goal.returns-in-Some
unfolding rebuilt
returns-in-Some c =
    let s = c.args.witness.now in
    sym (all-alone s c.in-Some.t (parse max_depth s) (left s max_depth 0) (sym c.rebuild_at.ensures ∙ c.in-Some.is) c.if-t-witness.true)

-- a byte more, or fewer

pub returns-in_default : goal.returns-in_default
unfolding rebuilt
returns-in_default c =
    let s = c.args.witness.now in
    sym (more-alone s c.in-Some.t (parse max_depth s) (sym c.rebuild_at.ensures ∙ c.in-Some.is) c.if-t-witness.false)

-- no tree

pub returns-in_default-2 : goal.returns-in_default-2
unfolding rebuilt
returns-in_default-2 c =
    let s = c.args.witness.now in
    let none : c.rebuild_at.result ≡ None = search rules in
    sym (none-alone s (parse max_depth s) (sym c.rebuild_at.ensures ∙ none))
