use Rattle.dr_check.proofs.Comparing.{tree_by, instance_by}
use Rattle.ld_terms.specs.declared.bank.Node.TheVariants as node
use Rattle.dr_check.specs.declared.shape.Filling.TheVariants as filling
use Rattle.dr_check.proofs.EqualBy.{beta_rule}
use Rattle.dr_check.proofs.equal.by_beta.Goals as goal

pub returns-in-Lam : goal.returns-in-Lam
returns-in-Lam c =
    let l = tree_by c.args.checker.now.items c.bank-bank.result.now c.args.l (node.App c.in-App.f c.in-App.u) c.bank-bank.ensures c.in-App.ensures.tree in
    let f = tree_by c.args.checker.now.items c.bank-bank.result.now c.in-App.f (node.Lam c.in-Lam.field-0 c.in-Lam.body) c.bank-bank.ensures c.in-Lam.ensures.tree in
    let h = instance_by c.args.checker.now.items c.bank-bank.result.now c.args.r c.in-Lam.body (filling.One c.in-App.u) c.bank-bank.ensures c.is_instance.ensures in
    beta_rule c.args.checker.now.state.known _ _ _ _ _ _ l f h
