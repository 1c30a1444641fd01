use Rattle.fb_parse.proofs.RefusedOnce.{one_refusal_of_terms, one_refusal_of_books}
use Rattle.fb_parse.proofs.laws.one_refusal.Goals as goal

pub returns-clause-terms : goal.returns-clause-terms
returns-clause-terms c = one_refusal_of_terms

pub returns-clause-books : goal.returns-clause-books
returns-clause-books c = one_refusal_of_books
