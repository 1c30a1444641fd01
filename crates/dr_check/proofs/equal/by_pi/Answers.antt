use Rattle.std.proofs.Common.{refl}
use Rattle.ld_terms.specs.declared.bank.Node.TheVariants as node
use Rattle.dr_check.proofs.Comparing.{tree_by}
use Rattle.dr_check.proofs.EqualBy.{pi_rule}
use Rattle.dr_check.proofs.equal.by_pi.Goals as goal

pub returns-then-equates : goal.returns-then-equates
returns-then-equates c =
    let items = c.args.checker.now.items in
    let l = tree_by items c.bank.result.now c.args.l (node.Pi c.in-Pi-Pi.a c.in-Pi-Pi.c) c.bank.ensures c.in-Pi-Pi.ensures.tree in
    let r = tree_by items c.bank-2.result.now c.args.r (node.Pi c.in-Pi-Pi.b c.in-Pi-Pi.d) c.bank-2.ensures c.in-Pi-Pi.ensures'.tree in
    pi_rule c.args.checker.now.state.known _ _ _ _ _ _ c.args.e c.args.f l r (c.if-equates.ensures.0 refl) c.equates-then-equates.ensures
