use Rattle.std.proofs.Common.{arith}
use Rattle.std.proofs.lemmas.Grind.{common_steps}
use Rattle.ld_terms.specs.Derivable.{IsSort}
use Rattle.ld_terms.specs.Bank.{tree_at, list_at}
use Rattle.ld_terms.specs.declared.bank.Node.TheVariants as node
use Rattle.dr_check.specs.Entered.{HasSortAt}
use Rattle.dr_check.proofs.Comparing.{tree_by}
use Rattle.dr_check.proofs.FollowBy.{form_rule}
use Rattle.dr_check.proofs.follow.by_form.Goals as goal

pub returns-then-judges_sort : goal.returns-then-judges_sort
returns-then-judges_sort c =
    let items = c.args.checker.now.items in
    let e = tree_by items c.bank.result.now c.args.t (node.Pi c.in-Pi.a c.in-Pi.b) c.bank.ensures c.in-Pi.ensures.tree in
    let w : IsSort (tree_at items c.args.u) = grind (arith, common_steps) in
    let s : HasSortAt c.args.checker.now.state.known c.args.n c.args.m (list_at items c.args.ctx) (tree_at items c.in-Pi.a) = grind (arith, common_steps) in
    form_rule c.args.checker.now.state.known c.args.m c.args.n c.args.o _ _ _ _ _ e w s c.judges_below.ensures
