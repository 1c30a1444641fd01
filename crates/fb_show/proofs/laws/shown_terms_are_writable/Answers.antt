use Rattle.fb_show.proofs.Writes.{shown_is_writable}
use Rattle.fb_show.proofs.laws.shown_terms_are_writable.Goals as goal

pub returns : goal.returns
returns c = shown_is_writable
