use Rattle.hash_tree.proofs.+rebuild_at.Given as goal

abbrev pub decreases-rebuild_at : goal.decreases-rebuild_at
decreases-rebuild_at l = l.depth
