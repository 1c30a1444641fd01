use Rattle.fb_show.proofs.Bases.{base_is_least}
use Rattle.fb_show.proofs.laws.bases_are_least.Goals as goal

pub returns : goal.returns
returns c = base_is_least
