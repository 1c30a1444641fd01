use Rattle.fb_steps.proofs.OneEnd.{spells_once}
use Rattle.fb_steps.proofs.laws.spells_once.Goals as goal

pub returns : goal.returns
returns c = spells_once
