use Rattle.hash_tree.proofs.+tree_at.Given as goal

abbrev pub decreases-tree_at : goal.decreases-tree_at
decreases-tree_at l = l.depth
