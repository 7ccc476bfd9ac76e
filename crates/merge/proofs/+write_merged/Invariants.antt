use Rattle.merge.proofs.+write_merged.Given as goal

abbrev pub decreases-write_merged : goal.decreases-write_merged
decreases-write_merged l = l.depth
