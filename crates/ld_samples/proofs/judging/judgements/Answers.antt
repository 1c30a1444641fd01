use Rattle.std.proofs.Common.{◌∙◌}
use Rattle.ld_record.specs.Kept.{known_of}
use Rattle.ld_record.proofs.Growing.{knows_later, adds_trans}
use Rattle.ld_samples.specs.Samples as sample
use Rattle.ld_samples.proofs.judging.judgements.Goals as goal

pub sort-requires-clause-none : goal.sort-requires-clause-none
sort-requires-clause-none c = c.requires.none

pub sort-requires-clause-terms : goal.sort-requires-clause-terms
sort-requires-clause-terms c = c.requires.terms

pub inner_sort-requires-clause-sound : goal.inner_sort-requires-clause-sound
inner_sort-requires-clause-sound c = c.sort.ensures.sound

pub inner_sort-requires-clause-terms : goal.inner_sort-requires-clause-terms
inner_sort-requires-clause-terms c = c.requires.terms

pub inner_sort-requires-clause-judged : goal.inner_sort-requires-clause-judged
inner_sort-requires-clause-judged c = c.in_ok-sort.ensures.number

pub variable-requires-clause-sound : goal.variable-requires-clause-sound
variable-requires-clause-sound c = c.inner_sort.ensures.sound

pub variable-requires-clause-terms : goal.variable-requires-clause-terms
variable-requires-clause-terms c = c.requires.terms

pub variable-requires-clause-judged : goal.variable-requires-clause-judged
variable-requires-clause-judged c = knows_later (known_of c.args.bank.now c.sort.new.deriv) (known_of c.args.bank.now c.inner_sort.new.deriv) c.in_ok-sort.sort sample.sort c.inner_sort.ensures.adds c.in_ok-sort.ensures.number

pub variable-requires-clause-inner : goal.variable-requires-clause-inner
variable-requires-clause-inner c = c.in_ok-inner_sort.ensures.number

pub outer_variable-requires-clause-sound : goal.outer_variable-requires-clause-sound
outer_variable-requires-clause-sound c = c.variable.ensures.sound

pub outer_variable-requires-clause-terms : goal.outer_variable-requires-clause-terms
outer_variable-requires-clause-terms c = c.requires.terms

pub outer_variable-requires-clause-judged : goal.outer_variable-requires-clause-judged
outer_variable-requires-clause-judged c = c.in_ok-variable.ensures.number

pub outer_variable-requires-clause-inner : goal.outer_variable-requires-clause-inner
outer_variable-requires-clause-inner c = knows_later (known_of c.args.bank.now c.inner_sort.new.deriv) (known_of c.args.bank.now c.variable.new.deriv) c.in_ok-inner_sort.inner_sort sample.inner_sort c.variable.ensures.adds c.in_ok-inner_sort.ensures.number

pub product-requires-clause-sound : goal.product-requires-clause-sound
product-requires-clause-sound c = c.outer_variable.ensures.sound

pub product-requires-clause-terms : goal.product-requires-clause-terms
product-requires-clause-terms c = c.requires.terms

pub product-requires-clause-judged : goal.product-requires-clause-judged
product-requires-clause-judged c = knows_later (known_of c.args.bank.now c.sort.new.deriv) (known_of c.args.bank.now c.outer_variable.new.deriv) c.in_ok-sort.sort sample.sort (adds_trans (known_of c.args.bank.now c.sort.new.deriv) (known_of c.args.bank.now c.inner_sort.new.deriv) (known_of c.args.bank.now c.outer_variable.new.deriv) c.inner_sort.ensures.adds (adds_trans (known_of c.args.bank.now c.inner_sort.new.deriv) (known_of c.args.bank.now c.variable.new.deriv) (known_of c.args.bank.now c.outer_variable.new.deriv) c.variable.ensures.adds c.outer_variable.ensures.adds)) c.in_ok-sort.ensures.number

pub product-requires-clause-inner : goal.product-requires-clause-inner
product-requires-clause-inner c = knows_later (known_of c.args.bank.now c.inner_sort.new.deriv) (known_of c.args.bank.now c.outer_variable.new.deriv) c.in_ok-inner_sort.inner_sort sample.inner_sort (adds_trans (known_of c.args.bank.now c.inner_sort.new.deriv) (known_of c.args.bank.now c.variable.new.deriv) (known_of c.args.bank.now c.outer_variable.new.deriv) c.variable.ensures.adds c.outer_variable.ensures.adds) c.in_ok-inner_sort.ensures.number

pub identity-requires-clause-sound : goal.identity-requires-clause-sound
identity-requires-clause-sound c = c.product.ensures.sound

pub identity-requires-clause-terms : goal.identity-requires-clause-terms
identity-requires-clause-terms c = c.requires.terms

pub identity-requires-clause-body : goal.identity-requires-clause-body
identity-requires-clause-body c = knows_later (known_of c.args.bank.now c.variable.new.deriv) (known_of c.args.bank.now c.product.new.deriv) c.in_ok-variable.variable sample.variable (adds_trans (known_of c.args.bank.now c.variable.new.deriv) (known_of c.args.bank.now c.outer_variable.new.deriv) (known_of c.args.bank.now c.product.new.deriv) c.outer_variable.ensures.adds c.product.ensures.adds) c.in_ok-variable.ensures.number

pub identity-requires-clause-formed : goal.identity-requires-clause-formed
identity-requires-clause-formed c = c.in_ok-product.ensures.number

pub returns-clause-judged : goal.returns-clause-judged
returns-clause-judged c =
    let first = known_of c.args.bank.now c.inner_sort.new.deriv in
    let second = known_of c.args.bank.now c.variable.new.deriv in
    let third = known_of c.args.bank.now c.outer_variable.new.deriv in
    let fourth = known_of c.args.bank.now c.product.new.deriv in
    let last = known_of c.args.bank.now c.identity.new.deriv in
    let from_third = adds_trans third fourth last c.product.ensures.adds c.identity.ensures.adds in
    let from_second = adds_trans second third last c.outer_variable.ensures.adds from_third in
    let from_first = adds_trans first second last c.variable.ensures.adds from_second in
    record {
      none = c.identity.ensures.adds.env ∙ c.product.ensures.adds.env ∙ c.outer_variable.ensures.adds.env ∙ c.variable.ensures.adds.env ∙ c.inner_sort.ensures.adds.env ∙ c.sort.ensures.env;
      inner_sort_is = knows_later first last c.in_ok-inner_sort.inner_sort sample.inner_sort from_first c.in_ok-inner_sort.ensures.number;
      variable_is = knows_later second last c.in_ok-variable.variable sample.variable from_second c.in_ok-variable.ensures.number;
      outer_variable_is = knows_later third last c.in_ok-outer_variable.outer_variable sample.outer_variable from_third c.in_ok-outer_variable.ensures.number;
      product_is = knows_later fourth last c.in_ok-product.product sample.product c.identity.ensures.adds c.in_ok-product.ensures.number;
      identity_is = c.in_ok-identity.ensures.number;
    }

pub returns-clause-sound : goal.returns-clause-sound
returns-clause-sound c = c.identity.ensures.sound
