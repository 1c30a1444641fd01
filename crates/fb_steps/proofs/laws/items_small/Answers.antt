use Rattle.fb_steps.proofs.Smallness.{items_small}
use Rattle.fb_steps.proofs.laws.items_small.Goals as goal

pub returns : goal.returns
returns c = items_small
