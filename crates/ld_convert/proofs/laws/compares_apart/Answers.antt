use Rattle.ld_convert.proofs.Apartness.{compares_apart}
use Rattle.ld_convert.proofs.laws.compares_apart.Goals as goal

pub returns : goal.returns
returns c = compares_apart
