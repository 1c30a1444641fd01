use Rattle.fb_steps.proofs.Agreement.{places_agree}
use Rattle.fb_steps.proofs.laws.places_agree.Goals as goal

pub returns : goal.returns
returns c = places_agree
