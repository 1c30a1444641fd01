use Rattle.std.proofs.Common.{length, ◌-◌}
use Rattle.dr_check.proofs.Walking.{HasRead}
use Rattle.dr_check.proofs.check.check_file.Given as goal

abbrev pub invariant-loop-number : goal.invariant-loop-number
invariant-loop-number l = HasRead l.bytes l.records l.checker.state l.number

abbrev pub decreases-loop-number : goal.decreases-loop-number
decreases-loop-number l = length l.bytes - l.records.at
