use Rattle.fb_parse.proofs.TextsOnce.{one_reading_as_term, one_reading_as_book}
use Rattle.fb_parse.proofs.laws.one_reading.Goals as goal

pub returns-clause-as_term : goal.returns-clause-as_term
returns-clause-as_term c = one_reading_as_term

pub returns-clause-as_book : goal.returns-clause-as_book
returns-clause-as_book c = one_reading_as_book
