use Rattle.std.proofs.Common.{◌≡◌, arith}
use Rattle.std.proofs.lemmas.Grind.{common_steps}
use Rattle.ld_terms.specs.Put.{lift}
use Rattle.ld_terms.specs.Bank.{tree_at, list_at}
use Rattle.ld_terms.specs.Known.{Judges}
use Rattle.dr_check.specs.Entered.{HasSortAt}
use Rattle.dr_check.proofs.Comparing.{last_at, weakened_by}
use Rattle.dr_check.proofs.FollowBy.{weak_rule}
use Rattle.dr_check.proofs.follow.by_weak.Goals as goal

pub returns-then-is_weakened : goal.returns-then-is_weakened
returns-then-is_weakened c =
    let items = c.args.checker.now.items in
    let known = c.args.checker.now.state.known in
    let e = last_at items c.bank.result.now c.args.ctx c.in-Cons.c c.in-Cons.outer c.bank.ensures c.in-Cons.ensures.tree in
    let j : Judges c.args.checker.now.state.known c.args.n c.args.m (list_at items c.in-Cons.outer) (tree_at items c.node-node.result.term) (tree_at items c.node-node.result.of) = grind (arith, common_steps) in
    let s : HasSortAt c.args.checker.now.state.known c.args.o c.args.m (list_at items c.in-Cons.outer) (tree_at items c.in-Cons.c) = grind (arith, common_steps) in
    let f : tree_at items c.args.t ≡ lift (tree_at items c.node-node.result.term) 1 0 = grind (arith, common_steps) in
    weak_rule c.args.checker.now.state.known c.args.m c.args.n c.args.o _ _ _ _ _ _ _ e j s f (weakened_by items c.bank-then-is_weakened.result.now c.args.u c.node-node.result.of c.bank-then-is_weakened.ensures c.is_weakened-then-is_weakened.ensures)
