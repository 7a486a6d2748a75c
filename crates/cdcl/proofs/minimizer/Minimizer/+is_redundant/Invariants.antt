use Rattle.cdcl.proofs.minimizer.Minimizer.+is_redundant.Given as goal

abbrev pub decreases-is_redundant : goal.decreases-is_redundant
decreases-is_redundant l = l.depth
