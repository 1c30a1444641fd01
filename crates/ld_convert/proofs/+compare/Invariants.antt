use Rattle.std.proofs.Common.{◌+◌, ◌-◌, ◌*◌}
use Rattle.ld_convert.proofs.AfterTurns.{TurnsGoing, weight}
use Rattle.ld_convert.proofs.Walking.{WalkGoing}
use Rattle.ld_convert.proofs.+compare.Given as goal

abbrev pub decreases-comparison::compare : goal.decreases-comparison::compare
decreases-comparison::compare l = 7 * (1001 - l.nest) + 6

abbrev pub decreases-comparison::turns : goal.decreases-comparison::turns
decreases-comparison::turns l = 7 * (1001 - l.nest) + 5

abbrev pub decreases-comparison::next_turn : goal.decreases-comparison::next_turn
decreases-comparison::next_turn l = 7 * (1001 - l.nest) + 4

abbrev pub decreases-turning::turn : goal.decreases-turning::turn
decreases-turning::turn l = 7 * (1001 - l.nest) + 3

abbrev pub decreases-turning::by_heads : goal.decreases-turning::by_heads
decreases-turning::by_heads l = 7 * (1001 - l.nest) + 2

abbrev pub decreases-turning::by_parts : goal.decreases-turning::by_parts
decreases-turning::by_parts l = 7 * (1001 - l.nest) + 1

abbrev pub decreases-turning::walk : goal.decreases-turning::walk
decreases-turning::walk l = 7 * (1001 - l.nest)

abbrev pub invariant-comparison::turns-turns : goal.invariant-comparison::turns-turns
invariant-comparison::turns-turns l = TurnsGoing l.fn.bank l.bank l.fn.deriv l.deriv l.fn.env l.fn.a l.fn.b l.fn.nest l.fn.job l.job l.turned

abbrev pub decreases-comparison::turns-turns : goal.decreases-comparison::turns-turns
decreases-comparison::turns-turns l = 2 * l.job.budget.left + weight l.turned

abbrev pub invariant-turning::walk-parts : goal.invariant-turning::walk-parts
invariant-turning::walk-parts l = WalkGoing l.fn.bank l.bank l.fn.deriv l.deriv l.fn.env l.fn.parts l.part-index l.fn.nest l.fn.job l.job l.equals.items
