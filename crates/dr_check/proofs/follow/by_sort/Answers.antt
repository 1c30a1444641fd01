use Rattle.ld_terms.specs.declared.bank.Node.TheVariants as node
use Rattle.dr_check.proofs.Deciding.{no}
use Rattle.dr_check.proofs.Comparing.{tree_by, list_by, not_star}
use Rattle.dr_check.proofs.FollowBy.{sort_rule, sort_is}
use Rattle.dr_check.proofs.follow.by_sort.Goals as goal

pub returns-then-m-eq0 : goal.returns-then-m-eq0
returns-then-m-eq0 c =
    let items = c.args.checker.now.items in
    let t = tree_by items c.bank.result.now c.args.t node.Star c.bank.ensures c.in-Star-Box_.ensures.tree in
    let u = tree_by items c.bank-2.result.now c.args.u node.Box_ c.bank-2.ensures c.in-Star-Box_.ensures'.tree in
    sort_rule c.args.checker.now.state.known c.args.m _ _ _ c.if-m-eq0.true t u (list_by items c.bank-then-m-eq0.result.now c.args.ctx c.bank-then-m-eq0.ensures c.is_empty.ensures)

pub returns-in_default-2 : goal.returns-in_default-2
returns-in_default-2 c =
    let items = c.args.checker.now.items in
    no (λ d. not_star items c.bank.result.now c.args.t c.node.result c.bank.ensures c.node.ensures.tree c.requires.term c.in_default.not-Star-0 (sort_is c.args.checker.now.state.known _ _ _ _ d).term)
