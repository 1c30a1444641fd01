use Rattle.ld_convert.proofs.Sameness.{compares_same}
use Rattle.ld_convert.proofs.laws.compares_same.Goals as goal

pub returns : goal.returns
returns c = compares_same
