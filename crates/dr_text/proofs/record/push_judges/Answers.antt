use Rattle.std.proofs.Common.{arith}
use Rattle.dr_text.proofs.Numbers.{made_more, made_fit}
use Rattle.dr_text.proofs.record.push_judges.Goals as goal

pub loop-j-preserved : goal.loop-j-preserved
loop-j-preserved c = (
  made_more (λ j. j.0) c.args.out.now.items c.loop-j.out.items _ c.args.judges.now c.loop-j.j-index c.number.result _ c.loop-j-test.true c.number.ensures
      c.loop-j.invariant.0 (c.in_ok-push_number.ensures {u = tt}),
  made_fit (λ j. j.0) c.args.judges.now c.loop-j.j-index c.number.result _ c.loop-j-test.true c.number.ensures c.loop-j.invariant.1 (omega (arith, c.number.type_inv)),
)
