use Rattle.dr_text.proofs.Reading.{one_number}
use Rattle.dr_text.proofs.laws.one_number.Goals as goal

pub returns : goal.returns
returns c = one_number
