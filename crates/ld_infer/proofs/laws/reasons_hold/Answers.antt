use Rattle.ld_infer.proofs.Rightness.{reasons_hold}
use Rattle.ld_infer.proofs.laws.reasons_hold.Goals as goal

pub returns : goal.returns
returns c = reasons_hold
