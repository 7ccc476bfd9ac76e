use Rattle.merge.proofs.+agree.Given as goal

abbrev pub decreases-agree : goal.decreases-agree
decreases-agree l = l.depth
