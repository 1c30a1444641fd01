use Rattle.ld_reduce.proofs.head.+defined_head.Given as goal

abbrev pub decreases-defined_head : goal.decreases-defined_head
decreases-defined_head l = l.t.0
