use Rattle.ld_laws.proofs.Entries.{unfolds_scoped}
use Rattle.ld_laws.proofs.unfolds_scoped.Goals as goal

pub returns : goal.returns
returns c = unfolds_scoped
