use Rattle.ld_laws.proofs.Entries.{legal_scoped}
use Rattle.ld_laws.proofs.legal_scoped.Goals as goal

pub returns : goal.returns
returns c = legal_scoped
