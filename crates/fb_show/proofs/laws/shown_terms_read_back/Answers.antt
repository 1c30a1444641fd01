use Rattle.fb_show.proofs.ReadTerms.{reads_as_shown}
use Rattle.fb_show.proofs.laws.shown_terms_read_back.Goals as goal

pub returns : goal.returns
returns c = reads_as_shown
