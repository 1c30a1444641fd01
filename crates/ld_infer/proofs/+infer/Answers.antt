mod Forms
mod Functions
mod Arguments
mod Applications
mod Bodies
mod Products
mod Abstractions
mod Instances
use Rattle.ld_infer.proofs.Going.{◌⨟◌, continues_around}
use Rattle.ld_infer.proofs.Pairs.{pairs_later, pairs_left}
use Rattle.ld_infer.proofs.+infer.Answers.Forms.{infer_part-in-Star-answer, infer_part-in-Box_-answer, infer_part-in-Var-answer, infer_part-in-Pi-answer, infer_part-in-Lam-answer, infer_part-in-App-answer, infer_part-in-Const-answer, sort_of_part-in_err-typed-answer, sort_of_part-in-Star-answer, sort_of_part-in_default-answer, domain_sort-in-Ok-answer, domain_sort-in-Err-answer, type_again-answer, sort_of_type-in-Some-answer, sort_of_type-in-None-answer}
use Rattle.ld_infer.proofs.+infer.Answers.Functions.{function_type-in-Ok-answer, function_type-in-Err-answer, product_type-in_err-typed-answer, product_type-in-Pi-answer, product_type-in_default-answer, exposed_product-in_err-product-answer, exposed_product-in_err-sort-in-Pi-answer, exposed_product-conclude-requires-follows, exposed_product-continues, exposed_product-in_ok-judge-in-Pi-answer, exposed_product-pairs, exposed_product-in_default-answer}
use Rattle.ld_infer.proofs.+infer.Answers.Arguments.{argument_judgement-in-Ok-answer, argument_judgement-in-Err-answer, suited_judgement-in_err-typed-answer, suited_judgement-then-same-answer, suited_judgement-answer, compared_judgement-in_err-compared-answer, compared_judgement-in_err-sort-in-Same-answer, compared_judgement-conclude-requires-follows, compared_judgement-in_ok-judge-in-Same-answer, compared_judgement-continues, compared_judgement-in-Apart-answer}
use Rattle.ld_infer.proofs.+infer.Answers.Applications.{application-in_err-function-answer, application-argument_judgement-requires, application-in_err-argument-answer, application-in_err-of-answer, application-continues, application-answer}
use Rattle.ld_infer.proofs.+infer.Answers.Bodies.{body_type-in-Err-answer, body_type-in-Box_-answer, body_type-sort_of_type-requires, body_type-in_err-sort, body_type}
use Rattle.ld_infer.proofs.+infer.Answers.Products.{product-in_err-domain-answer, product-in-Err-answer, product-continues, product-answer}
use Rattle.ld_infer.proofs.+infer.Answers.Abstractions.{abstraction-in_err-domain-answer, abstraction-in_err-body-answer, abstraction-in_err-of-answer, abstraction-conclude-requires-2-follows, abstraction-continues, abstraction-answer, abstraction-pairs}
use Rattle.ld_infer.proofs.+infer.Answers.Instances.{argument-in_err-wanted-answer, argument-argument_judgement-requires, argument-answer, arguments-loop-left-init, arguments-parameter-param-requires-there, arguments-parameter-param-requires-place, arguments-index-requires, arguments-argument-requires, arguments-in_err-judge-answer, arguments-continues, arguments-most, arguments-loop-left-preserved, arguments-answer, instance-in_err-judges-answer, instance-instantiate_list-requires-body, instance-in_err-of-answer, instance-conclude-requires-follows, instance-continues, instance-answer}
use Rattle.ld_infer.proofs.+infer.Goals as goal
use Rattle.ld_infer.proofs.+infer.Goals.{argument::compared_judgement-In-Same, inference::body_type-After-sort_of_type, instance::instance-After-entry-entry, instance::arguments-After-index, function::exposed_product-After-conclude, argument::compared_judgement-After-conclude, inference::application-After-conclude, inference::product-After-sort_of_sort, inference::abstraction-In_ok-body, inference::abstraction-After-conclude-2, instance::arguments-After-argument, instance::instance-After-conclude}

-- The type of a term by its form, and the sort of a term, of a domain and of a type.
pub inference::infer_part-returns-in-Star-clause-answer : goal.inference::infer_part-returns-in-Star-clause-answer
inference::infer_part-returns-in-Star-clause-answer = infer_part-in-Star-answer

pub inference::infer_part-returns-in-Box_-clause-answer : goal.inference::infer_part-returns-in-Box_-clause-answer
inference::infer_part-returns-in-Box_-clause-answer = infer_part-in-Box_-answer

pub inference::infer_part-returns-in-Var-clause-answer : goal.inference::infer_part-returns-in-Var-clause-answer
inference::infer_part-returns-in-Var-clause-answer = infer_part-in-Var-answer

pub inference::infer_part-returns-in-Pi-clause-answer : goal.inference::infer_part-returns-in-Pi-clause-answer
inference::infer_part-returns-in-Pi-clause-answer = infer_part-in-Pi-answer

pub inference::infer_part-returns-in-Lam-clause-answer : goal.inference::infer_part-returns-in-Lam-clause-answer
inference::infer_part-returns-in-Lam-clause-answer = infer_part-in-Lam-answer

pub inference::infer_part-returns-in-App-clause-answer : goal.inference::infer_part-returns-in-App-clause-answer
inference::infer_part-returns-in-App-clause-answer = infer_part-in-App-answer

pub inference::infer_part-returns-in-Const-clause-answer : goal.inference::infer_part-returns-in-Const-clause-answer
inference::infer_part-returns-in-Const-clause-answer = infer_part-in-Const-answer

pub inference::sort_of_part-returns-in_err-typed-clause-answer : goal.inference::sort_of_part-returns-in_err-typed-clause-answer
inference::sort_of_part-returns-in_err-typed-clause-answer = sort_of_part-in_err-typed-answer

pub inference::sort_of_part-returns-in-Star-clause-answer : goal.inference::sort_of_part-returns-in-Star-clause-answer
inference::sort_of_part-returns-in-Star-clause-answer = sort_of_part-in-Star-answer

pub inference::sort_of_part-returns-in_default-clause-answer : goal.inference::sort_of_part-returns-in_default-clause-answer
inference::sort_of_part-returns-in_default-clause-answer = sort_of_part-in_default-answer

pub inference::domain_sort-returns-in-Ok-clause-answer : goal.inference::domain_sort-returns-in-Ok-clause-answer
inference::domain_sort-returns-in-Ok-clause-answer = domain_sort-in-Ok-answer

pub inference::domain_sort-returns-in-Err-clause-answer : goal.inference::domain_sort-returns-in-Err-clause-answer
inference::domain_sort-returns-in-Err-clause-answer = domain_sort-in-Err-answer

pub inference::type_again-returns-clause-answer : goal.inference::type_again-returns-clause-answer
inference::type_again-returns-clause-answer = type_again-answer

pub inference::sort_of_type-returns-in-Some-clause-answer : goal.inference::sort_of_type-returns-in-Some-clause-answer
inference::sort_of_type-returns-in-Some-clause-answer = sort_of_type-in-Some-answer

pub inference::sort_of_type-returns-in-None-clause-answer : goal.inference::sort_of_type-returns-in-None-clause-answer
inference::sort_of_type-returns-in-None-clause-answer = sort_of_type-in-None-answer

-- The product that the type of a function is, or exposes.
pub function::function_type-returns-in-Ok-clause-answer : goal.function::function_type-returns-in-Ok-clause-answer
function::function_type-returns-in-Ok-clause-answer = function_type-in-Ok-answer

pub function::function_type-returns-in-Err-clause-answer : goal.function::function_type-returns-in-Err-clause-answer
function::function_type-returns-in-Err-clause-answer = function_type-in-Err-answer

pub function::product_type-returns-in_err-typed-clause-answer : goal.function::product_type-returns-in_err-typed-clause-answer
function::product_type-returns-in_err-typed-clause-answer = product_type-in_err-typed-answer

pub function::product_type-returns-in-Pi-clause-answer : goal.function::product_type-returns-in-Pi-clause-answer
function::product_type-returns-in-Pi-clause-answer = product_type-in-Pi-answer

pub function::product_type-returns-in_default-clause-answer : goal.function::product_type-returns-in_default-clause-answer
function::product_type-returns-in_default-clause-answer = product_type-in_default-answer

pub function::exposed_product-returns-in_err-product-clause-answer : goal.function::exposed_product-returns-in_err-product-clause-answer
function::exposed_product-returns-in_err-product-clause-answer = exposed_product-in_err-product-answer

pub function::exposed_product-returns-in_err-sort-in-Pi-clause-answer : goal.function::exposed_product-returns-in_err-sort-in-Pi-clause-answer
function::exposed_product-returns-in_err-sort-in-Pi-clause-answer = exposed_product-in_err-sort-in-Pi-answer

pub function::exposed_product-returns-in_err-sort-in-Pi-clause-continues : goal.function::exposed_product-returns-in_err-sort-in-Pi-clause-continues
function::exposed_product-returns-in_err-sort-in-Pi-clause-continues t c = c.expose.ensures.continues ⨟ c.type_again.ensures.continues

pub function::exposed_product-conclude-requires-clause-follows : goal.function::exposed_product-conclude-requires-clause-follows
function::exposed_product-conclude-requires-clause-follows = exposed_product-conclude-requires-follows

pub function::exposed_product-returns-in_err-judge-in-Pi-clause-continues : goal.function::exposed_product-returns-in_err-judge-in-Pi-clause-continues
function::exposed_product-returns-in_err-judge-in-Pi-clause-continues t c = exposed_product-continues t (goal.at.function::exposed_product-returns-in_err-judge-in-Pi-clause-continues t c).After-conclude

pub function::exposed_product-returns-in_ok-judge-in-Pi-clause-answer : goal.function::exposed_product-returns-in_ok-judge-in-Pi-clause-answer
function::exposed_product-returns-in_ok-judge-in-Pi-clause-answer = exposed_product-in_ok-judge-in-Pi-answer

pub function::exposed_product-returns-in_ok-judge-in-Pi-clause-continues : goal.function::exposed_product-returns-in_ok-judge-in-Pi-clause-continues
function::exposed_product-returns-in_ok-judge-in-Pi-clause-continues t c = exposed_product-continues t (goal.at.function::exposed_product-returns-in_ok-judge-in-Pi-clause-continues t c).After-conclude

pub function::exposed_product-returns-in_err-judge-in-Pi-clause-pairs : goal.function::exposed_product-returns-in_err-judge-in-Pi-clause-pairs
function::exposed_product-returns-in_err-judge-in-Pi-clause-pairs t c = exposed_product-pairs t (goal.at.function::exposed_product-returns-in_err-judge-in-Pi-clause-pairs t c).After-conclude

pub function::exposed_product-returns-in_ok-judge-in-Pi-clause-pairs : goal.function::exposed_product-returns-in_ok-judge-in-Pi-clause-pairs
function::exposed_product-returns-in_ok-judge-in-Pi-clause-pairs t c = exposed_product-pairs t (goal.at.function::exposed_product-returns-in_ok-judge-in-Pi-clause-pairs t c).After-conclude

pub function::exposed_product-returns-in_default-clause-answer : goal.function::exposed_product-returns-in_default-clause-answer
function::exposed_product-returns-in_default-clause-answer = exposed_product-in_default-answer

-- The judgement of an argument and the type that is wanted of it.
pub argument::argument_judgement-returns-in-Ok-clause-answer : goal.argument::argument_judgement-returns-in-Ok-clause-answer
argument::argument_judgement-returns-in-Ok-clause-answer = argument_judgement-in-Ok-answer

pub argument::argument_judgement-returns-in-Err-clause-answer : goal.argument::argument_judgement-returns-in-Err-clause-answer
argument::argument_judgement-returns-in-Err-clause-answer = argument_judgement-in-Err-answer

pub argument::suited_judgement-returns-in_err-typed-clause-answer : goal.argument::suited_judgement-returns-in_err-typed-clause-answer
argument::suited_judgement-returns-in_err-typed-clause-answer = suited_judgement-in_err-typed-answer

pub argument::suited_judgement-returns-then-same-clause-answer : goal.argument::suited_judgement-returns-then-same-clause-answer
argument::suited_judgement-returns-then-same-clause-answer = suited_judgement-then-same-answer

pub argument::suited_judgement-returns-clause-answer : goal.argument::suited_judgement-returns-clause-answer
argument::suited_judgement-returns-clause-answer = suited_judgement-answer

pub argument::suited_judgement-returns-clause-continues : goal.argument::suited_judgement-returns-clause-continues
argument::suited_judgement-returns-clause-continues t c = c.infer_part.ensures.continues ⨟ c.compared_judgement.ensures.continues

pub argument::compared_judgement-returns-in_err-compared-clause-answer : goal.argument::compared_judgement-returns-in_err-compared-clause-answer
argument::compared_judgement-returns-in_err-compared-clause-answer = compared_judgement-in_err-compared-answer

pub argument::compared_judgement-returns-in_err-sort-in-Same-clause-answer : goal.argument::compared_judgement-returns-in_err-sort-in-Same-clause-answer
argument::compared_judgement-returns-in_err-sort-in-Same-clause-answer = compared_judgement-in_err-sort-in-Same-answer

pub argument::compared_judgement-conclude-requires-clause-follows : goal.argument::compared_judgement-conclude-requires-clause-follows
argument::compared_judgement-conclude-requires-clause-follows = compared_judgement-conclude-requires-follows

pub argument::compared_judgement-returns-in_ok-judge-in-Same-clause-answer : goal.argument::compared_judgement-returns-in_ok-judge-in-Same-clause-answer
argument::compared_judgement-returns-in_ok-judge-in-Same-clause-answer = compared_judgement-in_ok-judge-in-Same-answer

pub argument::compared_judgement-returns-in_err-sort-in-Same-clause-continues : goal.argument::compared_judgement-returns-in_err-sort-in-Same-clause-continues
argument::compared_judgement-returns-in_err-sort-in-Same-clause-continues t c = c.compare.ensures.continues ⨟ c.type_again.ensures.continues

pub argument::compared_judgement-returns-in_err-judge-in-Same-clause-continues : goal.argument::compared_judgement-returns-in_err-judge-in-Same-clause-continues
argument::compared_judgement-returns-in_err-judge-in-Same-clause-continues t c = compared_judgement-continues t (goal.at.argument::compared_judgement-returns-in_err-judge-in-Same-clause-continues t c).After-conclude

pub argument::compared_judgement-returns-in_ok-judge-in-Same-clause-continues : goal.argument::compared_judgement-returns-in_ok-judge-in-Same-clause-continues
argument::compared_judgement-returns-in_ok-judge-in-Same-clause-continues t c = compared_judgement-continues t (goal.at.argument::compared_judgement-returns-in_ok-judge-in-Same-clause-continues t c).After-conclude

pub argument::compared_judgement-returns-in-Apart-clause-answer : goal.argument::compared_judgement-returns-in-Apart-clause-answer
argument::compared_judgement-returns-in-Apart-clause-answer = compared_judgement-in-Apart-answer

-- The type of an application.
pub inference::application-returns-in_err-function-clause-answer : goal.inference::application-returns-in_err-function-clause-answer
inference::application-returns-in_err-function-clause-answer = application-in_err-function-answer

pub inference::application-argument_judgement-requires : goal.inference::application-argument_judgement-requires
inference::application-argument_judgement-requires = application-argument_judgement-requires

pub inference::application-returns-in_err-argument-clause-answer : goal.inference::application-returns-in_err-argument-clause-answer
inference::application-returns-in_err-argument-clause-answer = application-in_err-argument-answer

pub inference::application-returns-in_err-argument-clause-continues : goal.inference::application-returns-in_err-argument-clause-continues
inference::application-returns-in_err-argument-clause-continues t c = c.function_type.ensures.continues ⨟ c.argument_judgement.ensures.continues

pub inference::application-returns-in_err-of-clause-answer : goal.inference::application-returns-in_err-of-clause-answer
inference::application-returns-in_err-of-clause-answer = application-in_err-of-answer

pub inference::application-returns-in_err-of-clause-continues : goal.inference::application-returns-in_err-of-clause-continues
inference::application-returns-in_err-of-clause-continues t c = c.function_type.ensures.continues ⨟ c.argument_judgement.ensures.continues ⨟ c.instantiate.ensures.continues

pub inference::application-returns-in_err-judge-clause-continues : goal.inference::application-returns-in_err-judge-clause-continues
inference::application-returns-in_err-judge-clause-continues t c = application-continues t (goal.at.inference::application-returns-in_err-judge-clause-continues t c).After-conclude

pub inference::application-returns-clause-answer : goal.inference::application-returns-clause-answer
inference::application-returns-clause-answer = application-answer

pub inference::application-returns-clause-continues : goal.inference::application-returns-clause-continues
inference::application-returns-clause-continues t c = application-continues t (goal.at.inference::application-returns-clause-continues t c).After-conclude

-- The type of an abstraction's body, and the sort of that type.
pub inference::body_type-returns-in-Err-clause-answer : goal.inference::body_type-returns-in-Err-clause-answer
inference::body_type-returns-in-Err-clause-answer = body_type-in-Err-answer

pub inference::body_type-returns-in-Box_-clause-answer : goal.inference::body_type-returns-in-Box_-clause-answer
inference::body_type-returns-in-Box_-clause-answer = body_type-in-Box_-answer

pub inference::body_type-sort_of_type-requires : goal.inference::body_type-sort_of_type-requires
inference::body_type-sort_of_type-requires = body_type-sort_of_type-requires

pub inference::body_type-returns-in_err-sort : goal.inference::body_type-returns-in_err-sort
inference::body_type-returns-in_err-sort = body_type-in_err-sort

pub inference::body_type-returns : goal.inference::body_type-returns
inference::body_type-returns = body_type

-- The type of a product.
pub inference::product-returns-in_err-domain-clause-answer : goal.inference::product-returns-in_err-domain-clause-answer
inference::product-returns-in_err-domain-clause-answer = product-in_err-domain-answer

pub inference::product-returns-in_err-enter-clause-continues : goal.inference::product-returns-in_err-enter-clause-continues
inference::product-returns-in_err-enter-clause-continues t c = c.domain_sort.ensures.continues ⨟ c.in_err-enter.ensures.err

pub inference::product-returns-in-Err-clause-answer : goal.inference::product-returns-in-Err-clause-answer
inference::product-returns-in-Err-clause-answer = product-in-Err-answer

pub inference::product-returns-in-Err-clause-continues : goal.inference::product-returns-in-Err-clause-continues
inference::product-returns-in-Err-clause-continues t c = c.domain_sort.ensures.continues ⨟ continues_around _ _ _ _ _ c.in_ok-enter.ensures.ok c.sort_of_part-range.ensures.continues c.leave.ensures

pub inference::product-returns-in_err-judge-clause-continues : goal.inference::product-returns-in_err-judge-clause-continues
inference::product-returns-in_err-judge-clause-continues t c = c.domain_sort.ensures.continues ⨟ continues_around _ _ _ _ _ c.in_ok-enter.ensures.ok c.sort_of_part-range.ensures.continues c.leave.ensures ⨟ c.conclude.ensures.continues

pub inference::product-returns-in_err-of_judge-clause-continues : goal.inference::product-returns-in_err-of_judge-clause-continues
inference::product-returns-in_err-of_judge-clause-continues t c = product-continues t (goal.at.inference::product-returns-in_err-of_judge-clause-continues t c).After-sort_of_sort

pub inference::product-returns-clause-answer : goal.inference::product-returns-clause-answer
inference::product-returns-clause-answer = product-answer

pub inference::product-returns-clause-continues : goal.inference::product-returns-clause-continues
inference::product-returns-clause-continues t c = product-continues t (goal.at.inference::product-returns-clause-continues t c).After-sort_of_sort

-- The type of an abstraction.
pub inference::abstraction-returns-in_err-domain-clause-answer : goal.inference::abstraction-returns-in_err-domain-clause-answer
inference::abstraction-returns-in_err-domain-clause-answer = abstraction-in_err-domain-answer

pub inference::abstraction-returns-in_err-enter-clause-continues : goal.inference::abstraction-returns-in_err-enter-clause-continues
inference::abstraction-returns-in_err-enter-clause-continues t c = c.domain_sort.ensures.continues ⨟ c.in_err-enter.ensures.err

pub inference::abstraction-returns-in_err-body-clause-answer : goal.inference::abstraction-returns-in_err-body-clause-answer
inference::abstraction-returns-in_err-body-clause-answer = abstraction-in_err-body-answer

pub inference::abstraction-returns-in_err-body-clause-continues : goal.inference::abstraction-returns-in_err-body-clause-continues
inference::abstraction-returns-in_err-body-clause-continues t c = c.domain_sort.ensures.continues ⨟ continues_around _ _ _ _ _ c.in_ok-enter.ensures.ok c.body_type-body.ensures.continues c.leave.ensures

pub inference::abstraction-returns-in_err-of-clause-answer : goal.inference::abstraction-returns-in_err-of-clause-answer
inference::abstraction-returns-in_err-of-clause-answer = abstraction-in_err-of-answer

pub inference::abstraction-returns-in_err-of-clause-continues : goal.inference::abstraction-returns-in_err-of-clause-continues
inference::abstraction-returns-in_err-of-clause-continues t c = c.domain_sort.ensures.continues ⨟ continues_around _ _ _ _ _ c.in_ok-enter.ensures.ok c.body_type-body.ensures.continues c.leave.ensures ⨟ c.add.ensures.continues

pub inference::abstraction-returns-in_err-formed-clause-continues : goal.inference::abstraction-returns-in_err-formed-clause-continues
inference::abstraction-returns-in_err-formed-clause-continues t c = c.domain_sort.ensures.continues ⨟ continues_around _ _ _ _ _ c.in_ok-enter.ensures.ok c.body_type-body.ensures.continues c.leave.ensures ⨟ c.add.ensures.continues ⨟ c.conclude.ensures.continues

pub inference::abstraction-conclude-requires-2-clause-follows : goal.inference::abstraction-conclude-requires-2-clause-follows
inference::abstraction-conclude-requires-2-clause-follows = abstraction-conclude-requires-2-follows

pub inference::abstraction-returns-in_err-judge-clause-continues : goal.inference::abstraction-returns-in_err-judge-clause-continues
inference::abstraction-returns-in_err-judge-clause-continues t c = abstraction-continues t (goal.at.inference::abstraction-returns-in_err-judge-clause-continues t c).After-conclude-2

pub inference::abstraction-returns-clause-answer : goal.inference::abstraction-returns-clause-answer
inference::abstraction-returns-clause-answer = abstraction-answer

pub inference::abstraction-returns-in_err-formed-clause-pairs : goal.inference::abstraction-returns-in_err-formed-clause-pairs
inference::abstraction-returns-in_err-formed-clause-pairs t c = pairs_later _ _ _ (c.add.ensures.continues ⨟ c.conclude.ensures.continues) (pairs_left _ _ _ c.leave.ensures c.body_type-body.ensures.pairs)

pub inference::abstraction-returns-in_err-judge-clause-pairs : goal.inference::abstraction-returns-in_err-judge-clause-pairs
inference::abstraction-returns-in_err-judge-clause-pairs t c = abstraction-pairs t (goal.at.inference::abstraction-returns-in_err-judge-clause-pairs t c).After-conclude-2

pub inference::abstraction-returns-clause-pairs : goal.inference::abstraction-returns-clause-pairs
inference::abstraction-returns-clause-pairs t c = abstraction-pairs t (goal.at.inference::abstraction-returns-clause-pairs t c).After-conclude-2

pub inference::abstraction-returns-clause-continues : goal.inference::abstraction-returns-clause-continues
inference::abstraction-returns-clause-continues t c = abstraction-continues t (goal.at.inference::abstraction-returns-clause-continues t c).After-conclude-2

-- The type of an instance, and the judgements of its arguments.
pub instance::argument-returns-in_err-wanted-clause-answer : goal.instance::argument-returns-in_err-wanted-clause-answer
instance::argument-returns-in_err-wanted-clause-answer = argument-in_err-wanted-answer

pub instance::argument-argument_judgement-requires : goal.instance::argument-argument_judgement-requires
instance::argument-argument_judgement-requires = argument-argument_judgement-requires

pub instance::argument-returns-clause-answer : goal.instance::argument-returns-clause-answer
instance::argument-returns-clause-answer = argument-answer

pub instance::argument-returns-clause-continues : goal.instance::argument-returns-clause-continues
instance::argument-returns-clause-continues t c = c.instantiate_list.ensures.continues ⨟ c.argument_judgement.ensures.continues

pub instance::arguments-loop-left-init : goal.instance::arguments-loop-left-init
instance::arguments-loop-left-init = arguments-loop-left-init

pub instance::arguments-parameter-param-requires-clause-there : goal.instance::arguments-parameter-param-requires-clause-there
instance::arguments-parameter-param-requires-clause-there = arguments-parameter-param-requires-there

pub instance::arguments-parameter-param-requires-clause-place : goal.instance::arguments-parameter-param-requires-clause-place
instance::arguments-parameter-param-requires-clause-place = arguments-parameter-param-requires-place

pub instance::arguments-returns-in_err-number-clause-continues : goal.instance::arguments-returns-in_err-number-clause-continues
instance::arguments-returns-in_err-number-clause-continues t c = c.loop-left.invariant.0.continues

pub instance::arguments-returns-in_err-number-clause-most : goal.instance::arguments-returns-in_err-number-clause-most
instance::arguments-returns-in_err-number-clause-most t c = c.loop-left.invariant.0.most

pub instance::arguments-index-requires : goal.instance::arguments-index-requires
instance::arguments-index-requires = arguments-index-requires

pub instance::arguments-argument-requires : goal.instance::arguments-argument-requires
instance::arguments-argument-requires = arguments-argument-requires

pub instance::arguments-returns-in_err-judge-clause-answer : goal.instance::arguments-returns-in_err-judge-clause-answer
instance::arguments-returns-in_err-judge-clause-answer = arguments-in_err-judge-answer

pub instance::arguments-returns-in_err-judge-clause-continues : goal.instance::arguments-returns-in_err-judge-clause-continues
instance::arguments-returns-in_err-judge-clause-continues t c = arguments-continues t (goal.at.instance::arguments-returns-in_err-judge-clause-continues t c).After-argument

pub instance::arguments-returns-in_err-judge-clause-most : goal.instance::arguments-returns-in_err-judge-clause-most
instance::arguments-returns-in_err-judge-clause-most t c = arguments-most t (goal.at.instance::arguments-returns-in_err-judge-clause-most t c).After-argument

pub instance::arguments-loop-left-preserved : goal.instance::arguments-loop-left-preserved
instance::arguments-loop-left-preserved = arguments-loop-left-preserved

pub instance::arguments-returns-in_err-map_err-clause-continues : goal.instance::arguments-returns-in_err-map_err-clause-continues
instance::arguments-returns-in_err-map_err-clause-continues t c = arguments-continues t (goal.at.instance::arguments-returns-in_err-map_err-clause-continues t c).After-argument

pub instance::arguments-returns-in_err-map_err-clause-most : goal.instance::arguments-returns-in_err-map_err-clause-most
instance::arguments-returns-in_err-map_err-clause-most t c = arguments-most t (goal.at.instance::arguments-returns-in_err-map_err-clause-most t c).After-argument

pub instance::arguments-returns-clause-answer : goal.instance::arguments-returns-clause-answer
instance::arguments-returns-clause-answer = arguments-answer

pub instance::arguments-returns-clause-continues : goal.instance::arguments-returns-clause-continues
instance::arguments-returns-clause-continues t c = c.loop-left.invariant.0.continues

pub instance::arguments-returns-clause-most : goal.instance::arguments-returns-clause-most
instance::arguments-returns-clause-most t c = c.loop-left.invariant.0.most

pub instance::instance-returns-in_err-judges-clause-answer : goal.instance::instance-returns-in_err-judges-clause-answer
instance::instance-returns-in_err-judges-clause-answer = instance-in_err-judges-answer

pub instance::instance-instantiate_list-requires-clause-body : goal.instance::instance-instantiate_list-requires-clause-body
instance::instance-instantiate_list-requires-clause-body = instance-instantiate_list-requires-body

pub instance::instance-returns-in_err-of-clause-answer : goal.instance::instance-returns-in_err-of-clause-answer
instance::instance-returns-in_err-of-clause-answer = instance-in_err-of-answer

pub instance::instance-returns-in_err-of-clause-continues : goal.instance::instance-returns-in_err-of-clause-continues
instance::instance-returns-in_err-of-clause-continues t c = c.arguments.ensures.continues ⨟ c.instantiate_list.ensures.continues

pub instance::instance-returns-in_err-star-clause-continues : goal.instance::instance-returns-in_err-star-clause-continues
instance::instance-returns-in_err-star-clause-continues t c = c.arguments.ensures.continues ⨟ c.instantiate_list.ensures.continues ⨟ c.star_judgement.ensures.continues

pub instance::instance-conclude-requires-clause-follows : goal.instance::instance-conclude-requires-clause-follows
instance::instance-conclude-requires-clause-follows = instance-conclude-requires-follows

pub instance::instance-returns-in_err-judge-clause-continues : goal.instance::instance-returns-in_err-judge-clause-continues
instance::instance-returns-in_err-judge-clause-continues t c = instance-continues t (goal.at.instance::instance-returns-in_err-judge-clause-continues t c).After-conclude

pub instance::instance-returns-clause-answer : goal.instance::instance-returns-clause-answer
instance::instance-returns-clause-answer = instance-answer

pub instance::instance-returns-clause-continues : goal.instance::instance-returns-clause-continues
instance::instance-returns-clause-continues t c = instance-continues t (goal.at.instance::instance-returns-clause-continues t c).After-conclude
