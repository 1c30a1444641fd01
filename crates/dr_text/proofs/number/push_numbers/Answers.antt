use Rattle.dr_text.proofs.Numbers.{pushed_more, each_fits}
use Rattle.dr_text.proofs.number.push_numbers.Goals as goal

pub loop-n-preserved : goal.loop-n-preserved
loop-n-preserved c =
    pushed_more c.args.out.now.items c.loop-n.out.items _ c.args.numbers.now c.loop-n.n-index c.loop-n-test.true c.loop-n.invariant (c.in_ok-push_number.ensures {u = tt})

pub returns-clause-range : goal.returns-clause-range
returns-clause-range c = each_fits c.args.numbers.now c.type_inv.numbers
