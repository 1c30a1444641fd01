use Rattle.std.proofs.Common.{refl}
use Rattle.dr_check.proofs.EqualBy.{trans_rule}
use Rattle.dr_check.proofs.equal.by_trans.Goals as goal

pub returns-then-equates : goal.returns-then-equates
returns-then-equates c = trans_rule c.args.checker.now.state.known _ _ _ c.args.e c.args.f (c.if-equates.ensures.0 refl) c.equates-then-equates.ensures
