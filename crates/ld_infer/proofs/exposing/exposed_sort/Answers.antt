use Rattle.std.proofs.lemmas.Result.{err_from_is_err_and}
use Rattle.std.specs.Prelude.{false}
use Rattle.ld_terms.specs.Tree.{Box, count}
use Rattle.ld_terms.specs.Bank.{tree_at}
use Rattle.ld_terms.specs.Derivable as typing
use Rattle.ld_terms.specs.declared.bank.Node.TheVariants as node
use Rattle.ld_infer.specs.Reading.{sort_in}
use Rattle.ld_infer.specs.Standing.{env, account}
use Rattle.ld_infer.specs.Infers.{IsSorted}
use Rattle.ld_infer.proofs.Going.{continues_trans}
use Rattle.ld_infer.proofs.Pairs.{told_later}
use Rattle.ld_infer.proofs.Nodes.{node_item, node_tree, no_star_node}
use Rattle.ld_infer.proofs.Exposure.{conv_here, star_reached, sort_stopped, sort_reached, sort_not_reached}
use Rattle.ld_infer.proofs.exposing.exposed_sort.Goals as goal

pub returns-in_err-sort-clause-answer : goal.returns-in_err-sort-clause-answer
returns-in_err-sort-clause-answer c =
    let a = c.args.theory.now in
    let p = err_from_is_err_and c.from_residual.result c.from_residual.ensures.1 in
    sort_stopped a c.expose.new.self c.args.asked c.args.t (tree_at a.items c.args.typed.of) c.in_err-sort.field-0.0 p.0 c.from_residual.result (account c.args.theory.now c.args.job.now) (account c.expose.new.self c.expose.new.job) p.1 p.2 c.in_err-sort.ensures.answer

pub returns-in_err-star-in-Star-clause-continues : goal.returns-in_err-star-in-Star-clause-continues
returns-in_err-star-in-Star-clause-continues c = continues_trans _ _ _ c.expose.ensures.continues c.star_judgement.ensures.continues

pub conclude-requires-clause-follows : goal.conclude-requires-clause-follows
conclude-requires-clause-follows c =
    let b = c.expose.new.self in
    let is = node_tree c.bank.result.now b.items node.Star c.in_ok-sort.sort c.bank.ensures c.in-Star.ensures.tree in
    conv_here c.args.theory.now b c.star_judgement.new.self c.args.typed.judge c.in_ok-star-in-Star.star c.in_ok-sort.equal c.args.t c.in_ok-sort.sort _ Box
    c.expose.ensures.continues c.star_judgement.ensures.continues c.requires.term c.in_ok-sort.ensures.answer.term c.requires.judge c.in_ok-sort.ensures.answer.equal
    (star_reached b c.star_judgement.new.self c.in_ok-star-in-Star.star c.in_ok-sort.sort is c.in_ok-star-in-Star.ensures.number) typing.box

pub returns-in_err-judge-in-Star-clause-continues : goal.returns-in_err-judge-in-Star-clause-continues
returns-in_err-judge-in-Star-clause-continues c = continues_trans _ _ _ (continues_trans _ _ _ c.expose.ensures.continues c.star_judgement.ensures.continues) c.conclude.ensures.continues

pub returns-in_ok-judge-in-Star-clause-answer : goal.returns-in_ok-judge-in-Star-clause-answer
returns-in_ok-judge-in-Star-clause-answer c =
    let a = c.args.theory.now in
    let b = c.expose.new.self in
    let z = c.conclude.new.self in
    let is = node_tree c.bank.result.now b.items node.Star c.in_ok-sort.sort c.bank.ensures c.in-Star.ensures.tree in
    told_later b z c.expose.new.job
    (λ w. IsSorted a z (sort_in (env a) (count a.context) false c.args.asked (tree_at a.items c.args.typed.of)) c.args.t (account a c.args.job.now) w (c.in_ok-sort.sort, c.in_ok-judge-in-Star.judge))
    (continues_trans _ _ _ c.star_judgement.ensures.continues c.conclude.ensures.continues) c.expose.ensures.pairs
    (sort_reached a b c.star_judgement.new.self z c.args.asked c.args.t c.in_ok-sort.sort _ c.in_ok-judge-in-Star.judge (account a c.args.job.now) (account b c.expose.new.job)
    c.expose.ensures.continues c.star_judgement.ensures.continues c.conclude.ensures.continues c.requires.term c.in_ok-sort.ensures.answer.term c.in_ok-sort.ensures.answer.gives is c.in_ok-judge-in-Star.ensures.number)

pub returns-in_ok-judge-in-Star-clause-continues : goal.returns-in_ok-judge-in-Star-clause-continues
returns-in_ok-judge-in-Star-clause-continues c = continues_trans _ _ _ (continues_trans _ _ _ c.expose.ensures.continues c.star_judgement.ensures.continues) c.conclude.ensures.continues

pub returns-in_default-clause-answer : goal.returns-in_default-clause-answer
returns-in_default-clause-answer c =
    let b = c.expose.new.self in
    sort_not_reached c.args.theory.now b c.args.asked c.args.typed.of (tree_at b.items c.in_ok-sort.sort) c.refusal.result (account c.args.theory.now c.args.job.now) (account c.expose.new.self c.expose.new.job) c.expose.ensures.continues c.requires.of
    c.in_ok-sort.ensures.answer.gives
    (no_star_node b.items c.node.result c.in_ok-sort.sort c.in_default.not-Star c.in_ok-sort.ensures.answer.term (node_item c.bank.result.now b.items c.node.result c.in_ok-sort.sort c.bank.ensures c.node.ensures.tree))
    (c.refusal.ensures b.items)
