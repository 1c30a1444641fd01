use Rattle.std.proofs.Common.{sym, arith}
use Rattle.ld_terms.proofs.Reach.{lift_item_within}
use Rattle.ld_terms.proofs.bank.Bank.+lift.Goals as goal

pub returns-then-reach-from-clause-tree : goal.returns-then-reach-from-clause-tree
returns-then-reach-from-clause-tree t c =
    record { live = c.requires.live; item = sym (lift_item_within _ c.args.by c.args.from (omega (arith, c.reach.ensures.reach, c.if-reach-from.true))) }
