use Rattle.std.proofs.Common.{subst}
use Rattle.ld_terms.specs.Bank.{AreOnce}
use Rattle.ld_terms.proofs.Nodes.{are_once}
use Rattle.ld_terms.proofs.bank.Bank.keeps_once.Goals as goal

pub returns : goal.returns
returns c = subst AreOnce c.self.view_is (are_once c.self.inside.nodes.entries c.self.invariant c.len-len.ensures.unique)
