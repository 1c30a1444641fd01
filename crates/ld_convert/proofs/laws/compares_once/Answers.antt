use Rattle.ld_convert.proofs.Once.{compares_once}
use Rattle.ld_convert.proofs.laws.compares_once.Goals as goal

pub returns : goal.returns
returns c = compares_once
