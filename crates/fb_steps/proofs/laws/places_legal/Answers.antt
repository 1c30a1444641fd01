use Rattle.fb_steps.proofs.Onwards.{places_legal}
use Rattle.fb_steps.proofs.laws.places_legal.Goals as goal

pub returns : goal.returns
returns c = places_legal
