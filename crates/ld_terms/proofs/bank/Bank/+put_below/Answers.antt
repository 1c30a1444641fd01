use Rattle.std.proofs.Common.{sym, arith}
use Rattle.ld_terms.proofs.Reach.{put_item_within}
use Rattle.ld_terms.proofs.bank.Bank.+put_below.Goals as goal

pub returns-then-reach-below-clause-tree : goal.returns-then-reach-below-clause-tree
returns-then-reach-below-clause-tree t c =
    record { live = c.requires.live; item = sym (put_item_within _ _ c.args.below (omega (arith, c.reach.ensures.reach, c.if-reach-below.true))) }
