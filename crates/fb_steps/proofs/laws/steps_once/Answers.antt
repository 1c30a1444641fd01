use Rattle.fb_steps.proofs.OneEnd.{steps_once}
use Rattle.fb_steps.proofs.laws.steps_once.Goals as goal

pub returns : goal.returns
returns c = steps_once
