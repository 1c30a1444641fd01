use Rattle.std.proofs.Common.{Err, ap, subst}
use Rattle.ld_terms.specs.Tree.{Tree}
use Rattle.ld_terms.specs.Item.{One, IsSmall}
use Rattle.std.proofs.lemmas.Result.{err_from_is_err_and}
use Rattle.ld_infer.proofs.Variables.{variable_there, variable_stops, variable_typed}
use Rattle.ld_infer.proofs.leaf.variable.Goals as goal

pub variable-requires-clause-small : goal.variable-requires-clause-small
variable-requires-clause-small c = let P : Tree → Type 0 = λ x. IsSmall (One x) in subst P c.requires.is c.keeps_small.ensures

pub returns-in_err-variable-clause-answer : goal.returns-in_err-variable-clause-answer
returns-in_err-variable-clause-answer c work =
    let p = err_from_is_err_and c.from_residual.result c.from_residual.ensures.1 in
    variable_stops _ _ c.args.i c.args.t c.in_err-variable.field-0.0 p.0 _ work (variable_there _ c.args.i _ c.requires.is c.requires.term.1.scoped)
    (λ x at e. c.in_err-variable.ensures.high (ap Err e) x at) p.2 p.1

pub returns-clause-answer : goal.returns-clause-answer
returns-clause-answer c work = variable_typed _ _ c.args.i c.args.t c.in_ok-variable.variable work c.requires.is c.in_ok-variable.ensures.typed
