use Rattle.ld_infer.proofs.Rightness.{reading_derivable}
use Rattle.ld_infer.proofs.laws.reading_derivable.Goals as goal

pub returns : goal.returns
returns c = reading_derivable
