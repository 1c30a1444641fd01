use Rattle.ld_infer.proofs.Rightness.{refused_untyped}
use Rattle.ld_infer.proofs.laws.refused_untyped.Goals as goal

pub returns : goal.returns
returns c = refused_untyped
