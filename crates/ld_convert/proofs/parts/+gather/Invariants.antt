use Rattle.ld_convert.proofs.parts.+gather.Given as goal

abbrev pub decreases-gather : goal.decreases-gather
decreases-gather l = l.a.0
