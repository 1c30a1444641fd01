use Rattle.std.proofs.Common.{refl}
use Rattle.ld_terms.specs.declared.bank.Node.TheVariants as node
use Rattle.dr_check.proofs.Comparing.{tree_by}
use Rattle.dr_check.proofs.EqualBy.{app_rule}
use Rattle.dr_check.proofs.equal.by_app.Goals as goal

pub returns-then-equates : goal.returns-then-equates
returns-then-equates c =
    let items = c.args.checker.now.items in
    let l = tree_by items c.bank.result.now c.args.l (node.App c.in-App-App.g c.in-App-App.u) c.bank.ensures c.in-App-App.ensures.tree in
    let r = tree_by items c.bank-2.result.now c.args.r (node.App c.in-App-App.h c.in-App-App.v) c.bank-2.ensures c.in-App-App.ensures'.tree in
    app_rule c.args.checker.now.state.known _ _ _ _ _ _ c.args.e c.args.f l r (c.if-equates.ensures.0 refl) c.equates-then-equates.ensures
