use Rattle.ld_convert.proofs.parts.+gather_arguments.Given as goal

abbrev pub decreases-gather_arguments : goal.decreases-gather_arguments
decreases-gather_arguments l = l.us.0
