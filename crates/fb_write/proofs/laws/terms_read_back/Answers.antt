use Rattle.fb_write.proofs.Bare.{spans_dont_count}
use Rattle.fb_write.proofs.TermsBack.{given_terms_are_writable, terms_read_back}
use Rattle.fb_write.proofs.laws.terms_read_back.Goals as goal

pub returns : goal.returns
returns c = record { given = given_terms_are_writable; spans = spans_dont_count; back = terms_read_back }
