use Rattle.std.proofs.Common.{◌≡◌, arith}
use Rattle.std.proofs.lemmas.Grind.{common_steps}
use Rattle.ld_terms.specs.Tree.{Var}
use Rattle.ld_terms.specs.Put.{lift}
use Rattle.ld_terms.specs.Bank.{tree_at}
use Rattle.dr_check.proofs.Comparing.{last_at}
use Rattle.dr_check.proofs.FollowBy.{var_rule}
use Rattle.dr_check.proofs.follow.by_var.Goals as goal

pub returns-then-is_weakened : goal.returns-then-is_weakened
returns-then-is_weakened c =
    let items = c.args.checker.now.items in
    let e = last_at items c.bank.result.now c.args.ctx c.in-Cons.a c.in-Cons.outer c.bank.ensures c.in-Cons.ensures.tree in
    let f : tree_at items c.args.t ≡ Var 0 = grind (arith, common_steps) in
    let g : tree_at items c.args.u ≡ lift (tree_at items c.in-Cons.a) 1 0 = grind (arith, common_steps) in
    var_rule c.args.checker.now.state.known c.args.m c.args.n _ _ _ _ _ e f g c.judges_sort.ensures
