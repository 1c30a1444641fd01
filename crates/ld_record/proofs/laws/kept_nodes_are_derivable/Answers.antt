use Rattle.ld_record.proofs.Derived.{kept_nodes_are_derivable}
use Rattle.ld_record.proofs.laws.kept_nodes_are_derivable.Goals as goal

pub returns : goal.returns
returns c = kept_nodes_are_derivable
