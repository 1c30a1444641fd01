use Rattle.ld_terms.specs.declared.bank.Node.TheVariants as node
use Rattle.dr_check.proofs.Comparing.{tree_by}
use Rattle.dr_check.proofs.EqualBy.{const_rule}
use Rattle.dr_check.proofs.equal.by_const.Goals as goal

pub returns-then-k-j : goal.returns-then-k-j
returns-then-k-j c =
    let items = c.args.checker.now.items in
    let l = tree_by items c.bank.result.now c.args.l (node.Const c.in-Const-Const.k c.in-Const-Const.us) c.bank.ensures c.in-Const-Const.ensures.tree in
    let r = tree_by items c.bank-2.result.now c.args.r (node.Const c.in-Const-Const.j c.in-Const-Const.vs) c.bank-2.ensures c.in-Const-Const.ensures'.tree in
    const_rule c.args.checker.now.state.known _ _ c.in-Const-Const.k c.in-Const-Const.j _ _ c.args.es.now l r c.if-k-j.true c.equate_all.ensures
