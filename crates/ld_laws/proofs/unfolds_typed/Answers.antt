use Rattle.ld_laws.proofs.Entries.{unfolds_typed}
use Rattle.ld_laws.proofs.unfolds_typed.Goals as goal

pub returns : goal.returns
returns c = unfolds_typed
