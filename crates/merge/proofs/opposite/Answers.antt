use mathlib.Core.Path.{◌∙◌}
use lib.ListN.{drop}
use Rattle.hash_tree.specs.Parse.{parse}
use Rattle.merge.proofs.Standing.{stands, opposite-is}
use Rattle.merge.proofs.opposite.Goals as goal

pub returns : goal.returns
returns c =
    c.then_some.ensures ∙ rw c.same.ensures (opposite-is c.args.s.now c.args.at c.args.cut.now c.in_ok-t.t (parse c.args.depth (drop c.args.at c.args.s.now)) (stands c.args.s.now c.args.depth c.args.at) c.in_ok-t.ensures)
