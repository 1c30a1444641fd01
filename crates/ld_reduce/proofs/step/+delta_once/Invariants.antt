use Rattle.ld_reduce.proofs.step.+delta_once.Given as goal

abbrev pub decreases-delta_once : goal.decreases-delta_once
decreases-delta_once l = l.t.0
