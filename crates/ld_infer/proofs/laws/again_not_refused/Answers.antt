use Rattle.ld_infer.proofs.Rightness.{again_not_refused}
use Rattle.ld_infer.proofs.laws.again_not_refused.Goals as goal

pub returns : goal.returns
returns c = again_not_refused
