-- The environment that a file derives is legal, since its last record may end it.
use Rattle.std.proofs.Common.{subst}
use Rattle.ld_terms.specs.Derivable.{IsLegal}
use Rattle.ld_record.proofs.Derived.{environment_is_legal}
use Rattle.dr_text.specs.Laws.{DerivedIsLegal}

pub derived_is_legal : DerivedIsLegal
derived_is_legal bytes entries kept d = subst IsLegal d.env (environment_is_legal d.listed d.stand d.last d.end.meets)
