use Rattle.ld_terms.specs.Item.{size_of}
use Rattle.ld_terms.specs.Bank.{item_at}
use Rattle.dr_check.proofs.shape.+is_put.Given as goal

abbrev pub decreases-is_put : goal.decreases-is_put
decreases-is_put l = size_of (item_at l.bank.now l.body)
