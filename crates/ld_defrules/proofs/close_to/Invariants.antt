use Rattle.std.proofs.Common.{◌≡◌, ◌≤◌, ◌-◌}
use Rattle.ld_terms.specs.Tree.{count}
use Rattle.ld_infer.specs.Standing.{without}
use Rattle.ld_defrules.proofs.close_to.Given as goal

abbrev pub invariant-loop-theory : goal.invariant-loop-theory
invariant-loop-theory l =
    (l.theory ≡ record l.fn.theory { context = without (count l.fn.theory.context - count l.theory.context) l.fn.theory.context })
    × (l.depth ≤ count l.theory.context)
    × (count l.theory.context ≤ count l.fn.theory.context)

abbrev pub decreases-loop-theory : goal.decreases-loop-theory
decreases-loop-theory l = count l.theory.context
