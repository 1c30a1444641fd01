use Rattle.fb_show.proofs.names.+least_free.Given as goal

abbrev pub decreases-least_free : goal.decreases-least_free
decreases-least_free l = l.tries
