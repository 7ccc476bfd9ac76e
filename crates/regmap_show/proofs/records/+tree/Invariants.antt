use Prim.Native.Nat.{◌-◌}
use Rattle.regmap_show.proofs.records.+tree.Given as goal

abbrev pub decreases-tree : goal.decreases-tree
decreases-tree l = 65 - l.depth
