use Prim.Native.Nat.{◌-◌}
use Rattle.regmap_page.proofs.+tree.Given as goal

abbrev pub decreases-tree : goal.decreases-tree
decreases-tree l = 65 - l.depth
