use Rattle.ld_record.proofs.Derived.{environment_is_legal}
use Rattle.ld_record.proofs.laws.environment_is_legal.Goals as goal

pub returns : goal.returns
returns c = environment_is_legal
