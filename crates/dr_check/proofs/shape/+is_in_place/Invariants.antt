use Rattle.dr_check.proofs.shape.+is_in_place.Given as goal

abbrev pub decreases-is_in_place : goal.decreases-is_in_place
decreases-is_in_place l = l.us.0
