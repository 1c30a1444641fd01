use Rattle.dr_text.proofs.Once.{one_of_parts}
use Rattle.dr_text.proofs.laws.one_of_parts.Goals as goal

pub returns : goal.returns
returns c = one_of_parts
