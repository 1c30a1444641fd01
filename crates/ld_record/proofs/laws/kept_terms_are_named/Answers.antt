use Rattle.ld_record.proofs.Named.{kept_terms_are_named}
use Rattle.ld_record.proofs.laws.kept_terms_are_named.Goals as goal

pub returns : goal.returns
returns c = kept_terms_are_named
