use Rattle.fb_show.proofs.term.+avoids.Given as goal

abbrev pub decreases-avoids : goal.decreases-avoids
decreases-avoids l = l.t.0
