use Rattle.fb_steps.proofs.Printed.{items_unfold}
use Rattle.fb_steps.proofs.laws.items_unfold.Goals as goal

pub returns : goal.returns
returns c = items_unfold
