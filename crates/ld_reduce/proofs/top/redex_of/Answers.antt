use Rattle.std.proofs.Common.{option_copied, ap, sym}
use Rattle.ld_terms.specs.Item.{tree}
use Rattle.ld_terms.specs.Bank.{tree_at}
use Rattle.ld_reduce.proofs.Redexes.{no_abstraction, no_redex, instance_step}
use Rattle.ld_reduce.proofs.top.redex_of.Goals as goal

pub returns-in_default-node : goal.returns-in_default-node
returns-in_default-node c = λ trees entries part.
    no_redex (option_copied c.args.env) trees (tree_at c.args.bank.now c.args.t) (tree_at c.args.bank.now c.in-App.f) (tree_at c.args.bank.now c.in-App.u)
    (sym (ap tree c.in-App.ensures.tree)) part
    (no_abstraction c.args.bank.now c.node-in-App.result c.in-App.f c.node-in-App.ensures.tree c.in_default-node.not-Lam)

pub returns-in_ok-body-in-Const : goal.returns-in_ok-body-in-Const
returns-in_ok-body-in-Const c = λ trees entries part.
    instance_step c.args.bank.now trees (option_copied c.args.env) c.in_ok-env-in-Const.field-0.now (tree_at c.args.bank.now c.args.t) c.in-Const.k c.in-Const.us
    c.in_ok-body-in-Const.body (ap option_copied c.in_ok-env-in-Const.was) entries (sym (ap tree c.in-Const.ensures.tree)) c.in-Const.ensures.parts
    c.in_ok-body-in-Const.ensures.0 c.in_ok-body-in-Const.ensures.1
