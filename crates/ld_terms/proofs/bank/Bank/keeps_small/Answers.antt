use Rattle.ld_terms.proofs.Banks.{all_small}
use Rattle.ld_terms.proofs.bank.Bank.keeps_small.Goals as goal

pub returns : goal.returns
returns c = all_small _ _ c.self.invariant c.self.view_is
