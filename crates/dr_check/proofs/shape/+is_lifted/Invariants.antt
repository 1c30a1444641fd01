use Rattle.ld_terms.specs.Item.{size_of}
use Rattle.ld_terms.specs.Bank.{item_at}
use Rattle.dr_check.proofs.shape.+is_lifted.Given as goal

abbrev pub decreases-is_lifted : goal.decreases-is_lifted
decreases-is_lifted l = size_of (item_at l.bank.now l.t)
