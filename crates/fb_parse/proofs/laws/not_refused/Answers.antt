use Rattle.fb_parse.proofs.TextsOnce.{terms_are_not_refused, books_are_not_refused}
use Rattle.fb_parse.proofs.laws.not_refused.Goals as goal

pub returns-clause-terms : goal.returns-clause-terms
returns-clause-terms c = terms_are_not_refused

pub returns-clause-books : goal.returns-clause-books
returns-clause-books c = books_are_not_refused
