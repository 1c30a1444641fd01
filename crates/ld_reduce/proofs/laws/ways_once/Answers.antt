use Rattle.ld_reduce.proofs.Once.{ways_once}
use Rattle.ld_reduce.proofs.laws.ways_once.Goals as goal

pub returns : goal.returns
returns c = ways_once
