use Rattle.ld_laws.proofs.Entries.{unfolds_kept}
use Rattle.ld_laws.proofs.unfolds_kept.Goals as goal

pub returns : goal.returns
returns c = unfolds_kept
