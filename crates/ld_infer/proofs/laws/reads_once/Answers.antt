use Rattle.ld_infer.proofs.Once.{reads_once}
use Rattle.ld_infer.proofs.laws.reads_once.Goals as goal

pub returns : goal.returns
returns c = reads_once
