use Rattle.fb_show.proofs.names.+own_least_free.Given as goal

abbrev pub decreases-own_least_free : goal.decreases-own_least_free
decreases-own_least_free l = l.tries
