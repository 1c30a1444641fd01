use Rattle.std.proofs.Common.{◌≡◌, ◌++◌, length}
use Rattle.dr_check.specs.Decoded.{others}
use Rattle.dr_check.proofs.decode.take_counted.Given as goal

abbrev pub invariant-loop-n : goal.invariant-loop-n
invariant-loop-n l = l.taken.items ++ l.numbers ≡ others l.fn.numbers

abbrev pub decreases-loop-n : goal.decreases-loop-n
decreases-loop-n l = length l.numbers
