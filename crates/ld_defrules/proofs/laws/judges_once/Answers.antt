use Rattle.ld_defrules.proofs.Once.{judges_once}
use Rattle.ld_defrules.proofs.laws.judges_once.Goals as goal

pub returns : goal.returns
returns c = judges_once
