use Rattle.dr_text.proofs.Legal.{derived_is_legal}
use Rattle.dr_text.proofs.laws.derived_is_legal.Goals as goal

pub returns : goal.returns
returns c = derived_is_legal
