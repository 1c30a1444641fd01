use Rattle.std.proofs.Common.{ap}
use Rattle.ld_env.specs.Named.{named}
use Rattle.ld_env.specs.Entries.{entry_of, body_of}
use Rattle.ld_terms.specs.declared.bank.Node.TheVariants as node
use Rattle.dr_check.proofs.Comparing.{tree_by}
use Rattle.dr_check.proofs.FollowBy.{inst_rule}
use Rattle.dr_check.proofs.instance.by_inst.Goals as goal

pub returns-in-Some-body : goal.returns-in-Some-body
returns-in-Some-body c =
    let items = c.args.checker.now.items in
    let is = tree_by items c.bank.result.now c.args.t (node.Const c.in-Const.k c.in-Const.us) c.bank.ensures c.in-Const.ensures.tree in
    inst_rule c.args.checker.now.state.known c.args.m c.args.n c.in-Const.k c.args.ns.now _ _ _ _ _ (entry_of items (named c.in-Some.ensures.name c.in-Some.entry.now)) is c.in-Some.ensures.at (ap (body_of items) c.in-Some-body.is) c.judges_instance.ensures
