use Rattle.std.proofs.Common.{ap, ◌∙◌, arith}
use Rattle.ld_terms.specs.Tree.{count}
use Rattle.ld_infer.proofs.Closed.{formed_stays, star_formed, variable_formed, lambda_formed, readable}
use Rattle.ld_infer.proofs.tests.identity.Goals as goal

pub returns-clause-readable : goal.returns-clause-readable
returns-clause-readable c =
    let star = c.in_ok-star.star in
    let element = c.in_ok-element.element in
    let inner = c.in_ok-inner.inner in
    let at_star = formed_stays _ _ 0 star c.add-3.ensures.continues (formed_stays _ _ 0 star c.add-2.ensures.continues (star_formed _ 0 star c.in_ok-star.ensures.tree)) in
    let under = lambda_formed c.add-2.new.self c.add-3.new.self 1 element element inner c.add-3.ensures.continues (variable_formed _ 1 0 element c.in_ok-element.ensures.tree (omega arith))
    (variable_formed _ 2 0 element c.in_ok-element.ensures.tree (omega arith)) c.in_ok-inner.ensures.tree in
    readable c.add-4.new.self c.in_ok-term.term
    (c.add-4.ensures.continues.context ∙ c.add-3.ensures.continues.context ∙ c.add-2.ensures.continues.context ∙ c.add.ensures.continues.context ∙ c.requires)
    (lambda_formed c.add-3.new.self c.add-4.new.self 0 star inner c.in_ok-term.term c.add-4.ensures.continues at_star under c.in_ok-term.ensures.tree)

pub returns-clause-empty : goal.returns-clause-empty
returns-clause-empty c = ap count (c.add-4.ensures.continues.context ∙ c.add-3.ensures.continues.context ∙ c.add-2.ensures.continues.context ∙ c.add.ensures.continues.context ∙ c.requires)
