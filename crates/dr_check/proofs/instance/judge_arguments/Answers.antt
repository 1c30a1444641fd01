use Rattle.std.proofs.Common.{◌-◌, refl, arith, rules}
use Rattle.ld_terms.specs.Bank.{list_at, tree_at}
use Rattle.dr_check.proofs.Deciding.{no, no_truth}
use Rattle.dr_check.proofs.Comparing.{last_at, nil_at}
use Rattle.dr_check.proofs.Arguments.{IsStep, as_many_nodes, nothing_left, argument_is, gone_more}
use Rattle.dr_check.proofs.instance.judge_arguments.Goals as goal

pub returns-then-ns-params : goal.returns-then-ns-params
returns-then-ns-params c = no (λ h. let e = as_many_nodes c.args.checker.now.state.known c.args.m _ c.args.checker.now.items c.args.ns.now c.args.params.now _ h in absurd (c.if-ns-params.true e))

pub returns-in_default : goal.returns-in_default
returns-in_default c =
    let items = c.args.checker.now.items in
    let step : IsStep c.args.checker.now.state.known c.args.m (list_at items c.args.ctx) items c.args.ns.now c.args.params.now (list_at items c.args.us) c.loop-i.i (c.loop-i.i - 1) (list_at items c.loop-i.rest) =
    record { gone = c.loop-i.invariant.gone; next = omega arith; within = omega arith } in
    let empty = nil_at items c.bank.result.now c.loop-i.rest c.node.result c.bank.ensures c.node.ensures.tree c.loop-i.invariant.rest c.in_default.not-Cons in
    no (nothing_left c.args.checker.now.state.known c.args.m _ items c.args.ns.now c.args.params.now _ c.loop-i.i (c.loop-i.i - 1) _ (list_at items c.loop-i.rest) (tree_at items c.loop-i.rest) c.loop-i.rest step empty)

pub returns-then-not-is_argument : goal.returns-then-not-is_argument
returns-then-not-is_argument c =
    let items = c.args.checker.now.items in
    let step : IsStep c.args.checker.now.state.known c.args.m (list_at items c.args.ctx) items c.args.ns.now c.args.params.now (list_at items c.args.us) c.loop-i.i (c.loop-i.i - 1) (list_at items c.loop-i.rest) =
    record { gone = c.loop-i.invariant.gone; next = omega arith; within = omega arith } in
    let e = last_at items c.bank.result.now c.loop-i.rest c.in-Cons.u c.in-Cons.before c.bank.ensures c.in-Cons.ensures.tree in
    no (λ h. no_truth (c.if-not-is_argument.ensures.1 (argument_is c.args.checker.now.state.known c.args.m _ items c.args.ns.now c.args.params.now _ c.loop-i.i (c.loop-i.i - 1) _ _ _ _ step e h)))

pub loop-i-preserved : goal.loop-i-preserved
loop-i-preserved c =
    let items = c.args.checker.now.items in
    let step : IsStep c.args.checker.now.state.known c.args.m (list_at items c.args.ctx) items c.args.ns.now c.args.params.now (list_at items c.args.us) c.loop-i.i (c.loop-i.i - 1) (list_at items c.loop-i.rest) =
    record { gone = c.loop-i.invariant.gone; next = omega arith; within = omega arith } in
    let e = last_at items c.bank.result.now c.loop-i.rest c.in-Cons.u c.in-Cons.before c.bank.ensures c.in-Cons.ensures.tree in
    record {
      rest = search rules;
      within = omega arith;
      gone = gone_more c.args.checker.now.state.known c.args.m _ items c.args.ns.now c.args.params.now _ c.loop-i.i (c.loop-i.i - 1) _ _ _ _ step e (c.if-not-is_argument.ensures.0 refl);
    }
