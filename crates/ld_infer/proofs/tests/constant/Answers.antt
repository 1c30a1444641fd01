use Rattle.std.proofs.Common.{ap, ◌∙◌}
use Rattle.ld_terms.specs.Tree.{count}
use Rattle.ld_infer.proofs.Closed.{star_formed, lambda_formed, readable}
use Rattle.ld_infer.proofs.tests.constant.Goals as goal

pub returns-clause-readable : goal.returns-clause-readable
returns-clause-readable c =
    let star = c.in_ok-star.star in
    readable c.add-2.new.self c.in_ok-term.term (c.add-2.ensures.continues.context ∙ c.add.ensures.continues.context ∙ c.requires)
    (lambda_formed c.add.new.self c.add-2.new.self 0 star star c.in_ok-term.term c.add-2.ensures.continues (star_formed _ 0 star c.in_ok-star.ensures.tree) (star_formed _ 1 star c.in_ok-star.ensures.tree) c.in_ok-term.ensures.tree)

pub returns-clause-empty : goal.returns-clause-empty
returns-clause-empty c = ap count (c.add-2.ensures.continues.context ∙ c.add.ensures.continues.context ∙ c.requires)
