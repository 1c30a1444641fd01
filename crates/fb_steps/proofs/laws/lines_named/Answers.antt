use Rattle.fb_steps.proofs.Spelling.{lines_named}
use Rattle.fb_steps.proofs.laws.lines_named.Goals as goal

pub returns : goal.returns
returns c = lines_named
