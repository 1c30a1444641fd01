use Rattle.fb_steps.proofs.Printed.{items_shown}
use Rattle.fb_steps.proofs.laws.items_shown.Goals as goal

pub returns : goal.returns
returns c = items_shown
