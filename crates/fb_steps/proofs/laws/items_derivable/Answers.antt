use Rattle.fb_steps.proofs.Printed.{items_derivable}
use Rattle.fb_steps.proofs.laws.items_derivable.Goals as goal

pub returns : goal.returns
returns c = items_derivable
