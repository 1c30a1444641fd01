use Rattle.fb_steps.proofs.Printed.{never_refused}
use Rattle.fb_steps.proofs.laws.never_refused.Goals as goal

pub returns : goal.returns
returns c = never_refused
