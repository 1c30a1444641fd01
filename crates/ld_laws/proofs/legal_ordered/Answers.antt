use Rattle.ld_laws.proofs.BoxFree.{legal_ordered}
use Rattle.ld_laws.proofs.legal_ordered.Goals as goal

pub returns : goal.returns
returns c = legal_ordered
