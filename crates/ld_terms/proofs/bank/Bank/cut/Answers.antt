use Rattle.ld_terms.proofs.Banks.{cut_back}
use Rattle.ld_terms.proofs.bank.Bank.cut.Goals as goal

pub invariant_of-self : goal.invariant_of-self
invariant_of-self c = (cut_back _ _ _ _ c.self.invariant c.self.view_is c.truncate.ensures.entries).stored

pub returns : goal.returns
returns c = (cut_back _ _ _ _ c.self.invariant c.self.view_is c.truncate.ensures.entries).items
