use Rattle.ld_record.proofs.Derived.{equalities_are_convertible}
use Rattle.ld_record.proofs.laws.equalities_are_convertible.Goals as goal

pub returns : goal.returns
returns c = equalities_are_convertible
