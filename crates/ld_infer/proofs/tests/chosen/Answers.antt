use Rattle.std.proofs.Common.{ap, ◌∙◌, arith}
use Rattle.ld_terms.specs.Tree.{count}
use Rattle.ld_infer.proofs.Closed.{formed_stays, star_formed, variable_formed, lambda_formed, product_formed, application_formed, readable}
use Rattle.ld_infer.proofs.tests.chosen.Goals as goal

pub returns-clause-readable : goal.returns-clause-readable
returns-clause-readable c =
    let star = c.in_ok-star.star in
    let element = c.in_ok-element.element in
    let function = c.in_ok-function.function in
    let argument = c.in_ok-argument.argument in
    let at_star = formed_stays _ _ 0 star c.add-2.ensures.continues (star_formed _ 0 star c.in_ok-star.ensures.tree) in
    let variable = variable_formed c.add-2.new.self 1 0 element c.in_ok-element.ensures.tree (omega arith) in
    let made = lambda_formed c.add-2.new.self c.add-3.new.self 0 star element function c.add-3.ensures.continues at_star variable c.in_ok-function.ensures.tree in
    let given = product_formed c.add-3.new.self c.add-4.new.self 0 star element argument c.add-4.ensures.continues (formed_stays _ _ 0 star c.add-3.ensures.continues at_star)
    (formed_stays _ _ 1 element c.add-3.ensures.continues variable) c.in_ok-argument.ensures.tree in
    readable c.add-5.new.self c.in_ok-term.term
    (c.add-5.ensures.continues.context ∙ c.add-4.ensures.continues.context ∙ c.add-3.ensures.continues.context ∙ c.add-2.ensures.continues.context ∙ c.add.ensures.continues.context ∙ c.requires)
    (application_formed c.add-4.new.self c.add-5.new.self 0 function argument c.in_ok-term.term c.add-5.ensures.continues (formed_stays _ _ 0 function c.add-4.ensures.continues made) given c.in_ok-term.ensures.tree)

pub returns-clause-empty : goal.returns-clause-empty
returns-clause-empty c = ap count (c.add-5.ensures.continues.context ∙ c.add-4.ensures.continues.context ∙ c.add-3.ensures.continues.context ∙ c.add-2.ensures.continues.context ∙ c.add.ensures.continues.context ∙ c.requires)
