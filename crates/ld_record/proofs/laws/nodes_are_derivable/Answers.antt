use Rattle.ld_record.proofs.Derived.{nodes_are_derivable}
use Rattle.ld_record.proofs.laws.nodes_are_derivable.Goals as goal

pub returns : goal.returns
returns c = nodes_are_derivable
