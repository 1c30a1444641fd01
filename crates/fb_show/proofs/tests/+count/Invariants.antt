use Rattle.fb_show.proofs.tests.+count.Given as goal

abbrev pub decreases-count : goal.decreases-count
decreases-count l = l.t.0
