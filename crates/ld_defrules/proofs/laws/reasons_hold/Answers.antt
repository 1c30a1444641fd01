use Rattle.ld_defrules.proofs.Rightness.{reasons_hold}
use Rattle.ld_defrules.proofs.laws.reasons_hold.Goals as goal

pub returns : goal.returns
returns c = reasons_hold
