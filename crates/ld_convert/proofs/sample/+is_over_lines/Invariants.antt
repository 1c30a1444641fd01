use Rattle.ld_convert.proofs.sample.+is_over_lines.Given as goal

abbrev pub decreases-is_over_lines : goal.decreases-is_over_lines
decreases-is_over_lines l = l.t.0
