use mathlib.Core.Path.{◌∙◌}
use Rattle.hash_tree.specs.Written.{max_depth}
use Rattle.hash_tree.specs.Parse.{parse}
use Rattle.merge.proofs.Standing.{stands, whole-test}
use Rattle.merge.proofs.is_whole.Goals as goal

pub returns : goal.returns
returns c = c.eq.ensures ∙ whole-test c.args.s.now c.tree_at.result (parse max_depth c.args.s.now) (stands c.args.s.now max_depth 0) c.tree_at.ensures
