use Rattle.std.proofs.Common.{ap, arith}
use Rattle.std.proofs.lemmas.Grind.{common_steps}
use Rattle.ld_terms.specs.Bank.{tree_at, list_at}
use Rattle.ld_terms.specs.Known.{Judges, Equates}
use Rattle.dr_check.specs.Entered.{HasSortAt}
use Rattle.dr_check.proofs.Deciding.{at_most}
use Rattle.dr_check.proofs.FollowBy.{conv_rule}
use Rattle.dr_check.proofs.follow.by_conv.Goals as goal

pub returns-then-equates : goal.returns-then-equates
returns-then-equates c =
    let items = c.args.checker.now.items in
    let known = c.args.checker.now.state.known in
    let j : Judges c.args.checker.now.state.known c.args.n c.args.m (list_at items c.args.ctx) (tree_at items c.args.t) (tree_at items c.node.result.of) = grind (arith, common_steps) in
    let s : HasSortAt c.args.checker.now.state.known c.args.o c.args.m (list_at items c.args.ctx) (tree_at items c.args.u) = grind (arith, common_steps) in
    let q : Equates c.args.checker.now.state.known c.args.e (tree_at items c.node.result.of) (tree_at items c.args.u) = grind (arith, common_steps) in
    conv_rule c.args.checker.now.state.known c.args.m c.args.n c.args.o c.args.e _ _ _ _ j s q (at_most _ _ c.args.m (ap (λ x. x.bound) c.equality.ensures.is))
