use Rattle.ld_record.proofs.Derived.{kept_equalities_are_convertible}
use Rattle.ld_record.proofs.laws.kept_equalities_are_convertible.Goals as goal

pub returns : goal.returns
returns c = kept_equalities_are_convertible
