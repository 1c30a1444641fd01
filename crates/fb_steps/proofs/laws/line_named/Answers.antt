use Rattle.fb_steps.proofs.LineNames.{line_named}
use Rattle.fb_steps.proofs.laws.line_named.Goals as goal

pub returns : goal.returns
returns c = line_named
