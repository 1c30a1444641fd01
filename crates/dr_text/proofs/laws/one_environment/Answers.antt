use Rattle.dr_text.proofs.Once.{one_environment}
use Rattle.dr_text.proofs.laws.one_environment.Goals as goal

pub returns : goal.returns
returns c = one_environment
