use Rattle.ld_defrules.proofs.Rightness.{judging_right}
use Rattle.ld_defrules.proofs.laws.judging_right.Goals as goal

pub returns : goal.returns
returns c = judging_right
