use Rattle.fb_show.proofs.tests.+is_formed.Given as goal

abbrev pub decreases-is_formed : goal.decreases-is_formed
decreases-is_formed l = l.t.0

abbrev pub decreases-are_formed : goal.decreases-are_formed
decreases-are_formed l = l.t.0
