use Rattle.fb_parse.proofs.TextsOnce.{one_book}
use Rattle.fb_parse.proofs.laws.one_book.Goals as goal

pub returns : goal.returns
returns c = one_book
