use Rattle.std.proofs.Common.{◌-◌, refl, arith, rules}
use Rattle.dr_check.proofs.Deciding.{no, no_truth}
use Rattle.dr_check.proofs.Comparing.{last_at, nil_at}
use Rattle.dr_check.proofs.Equating.{left_out, right_out, last_equated, gone_more}
use Rattle.dr_check.proofs.equal.equate_all.Goals as goal

pub returns-in_default : goal.returns-in_default
returns-in_default c =
    let empty = nil_at c.args.checker.now.items c.bank-bank.result.now c.loop-i.left c.node.result c.bank-bank.ensures c.node.ensures.tree c.loop-i.invariant.left c.in_default.not-Cons in
    no (left_out c.args.checker.now.state.known c.args.es.now _ _ c.loop-i.i (c.loop-i.i - 1) _ _ (record { gone = c.loop-i.invariant.gone; next = omega arith; within = omega arith }) empty)

pub returns-in_default-node : goal.returns-in_default-node
returns-in_default-node c =
    let empty = nil_at c.args.checker.now.items c.bank-bank.result.now c.loop-i.right c.node-in-loop-i.result c.bank-bank.ensures c.node-in-loop-i.ensures.tree c.loop-i.invariant.right c.in_default-node.not-Cons in
    no (right_out c.args.checker.now.state.known c.args.es.now _ _ c.loop-i.i (c.loop-i.i - 1) _ _ (record { gone = c.loop-i.invariant.gone; next = omega arith; within = omega arith }) empty)

pub returns-then-not-equates : goal.returns-then-not-equates
returns-then-not-equates c =
    let l = last_at c.args.checker.now.items c.bank-bank.result.now c.loop-i.left c.in-Cons.u c.in-Cons.us_before c.bank-bank.ensures c.in-Cons.ensures.tree in
    let r = last_at c.args.checker.now.items c.bank-bank.result.now c.loop-i.right c.in-Cons-node.v c.in-Cons-node.vs_before c.bank-bank.ensures c.in-Cons-node.ensures.tree in
    no (λ all. absurd (no_truth (c.if-not-equates.ensures.1 (last_equated c.args.checker.now.state.known c.args.es.now _ _ c.loop-i.i (c.loop-i.i - 1) _ _ _ _ _ _ (record { gone = c.loop-i.invariant.gone; next = omega arith; within = omega arith }) l r all))))

pub loop-i-preserved : goal.loop-i-preserved
loop-i-preserved c =
    let l = last_at c.args.checker.now.items c.bank-bank.result.now c.loop-i.left c.in-Cons.u c.in-Cons.us_before c.bank-bank.ensures c.in-Cons.ensures.tree in
    let r = last_at c.args.checker.now.items c.bank-bank.result.now c.loop-i.right c.in-Cons-node.v c.in-Cons-node.vs_before c.bank-bank.ensures c.in-Cons-node.ensures.tree in
    record {
      left = search rules;
      right = search rules;
      within = omega arith;
      gone = gone_more c.args.checker.now.state.known c.args.es.now _ _ c.loop-i.i (c.loop-i.i - 1) _ _ _ _ _ _ (record { gone = c.loop-i.invariant.gone; next = omega arith; within = omega arith }) l r (c.if-not-equates.ensures.0 refl);
    }
