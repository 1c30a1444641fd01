use Rattle.ld_reduce.proofs.head.+has_beta.Given as goal

abbrev pub decreases-has_beta : goal.decreases-has_beta
decreases-has_beta l = l.t.0
