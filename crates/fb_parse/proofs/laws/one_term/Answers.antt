use Rattle.fb_parse.proofs.TextsOnce.{one_term}
use Rattle.fb_parse.proofs.laws.one_term.Goals as goal

pub returns : goal.returns
returns c = one_term
