use Rattle.ld_convert.proofs.whole.+congruence.Given as goal

abbrev pub decreases-congruence : goal.decreases-congruence
decreases-congruence l = l.a.0
