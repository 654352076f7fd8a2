use Rattle.optimistic.proofs.tree.get.Tree.+try_last.Given as goal

abbrev pub decreases-try_last : goal.decreases-try_last
decreases-try_last l = l.to
