use Rattle.dr_text.proofs.Once.{one_list}
use Rattle.dr_text.proofs.laws.one_list.Goals as goal

pub returns : goal.returns
returns c = one_list
