use Rattle.std.proofs.Common.{arith}
use Rattle.dr_text.proofs.Numbers.{made_more, made_fit}
use Rattle.dr_text.proofs.record.push_eqs.Goals as goal

pub loop-e-preserved : goal.loop-e-preserved
loop-e-preserved c = (
  made_more (λ e. e.0) c.args.out.now.items c.loop-e.out.items _ c.args.eqs.now c.loop-e.e-index c.number.result _ c.loop-e-test.true c.number.ensures
      c.loop-e.invariant.0 (c.in_ok-push_number.ensures {u = tt}),
  made_fit (λ e. e.0) c.args.eqs.now c.loop-e.e-index c.number.result _ c.loop-e-test.true c.number.ensures c.loop-e.invariant.1 (omega (arith, c.number.type_inv)),
)
