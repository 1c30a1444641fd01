use Rattle.std.proofs.Common.{length, ap, arith}
use Rattle.ld_terms.specs.Tree.{Pi, Const, Nil}
use Rattle.ld_terms.specs.Item.{One}
use Rattle.ld_record.proofs.Sampled.{holds_later, are_terms_later}
use Rattle.ld_record.proofs.tests.keeps_an_application_and_a_flag.Goals as goal

pub identity_terms-requires : goal.identity_terms-requires
identity_terms-requires g c = c.in_ok-terms.ensures.a_is

pub judged_product-requires-clause-terms : goal.judged_product-requires-clause-terms
judged_product-requires-clause-terms g c = are_terms_later c.product_terms.new.bank c.identity_terms.new.bank c.in_ok-terms.terms.0 c.in_ok-terms.terms.1 c.in_ok-terms.terms.2 c.in_ok-terms.terms.3 c.identity_terms.ensures.kept c.in_ok-terms.ensures

pub judged_product-requires-clause-none : goal.judged_product-requires-clause-none
judged_product-requires-clause-none g c = c.new-deriv.ensures.none

pub judged_product-requires-clause-some : goal.judged_product-requires-clause-some
judged_product-requires-clause-some g c = omega (arith, ap length c.in_ok-name.ensures)

pub judged_product-requires-clause-short : goal.judged_product-requires-clause-short
judged_product-requires-clause-short g c = omega (arith, ap length c.in_ok-name.ensures)

pub judged_application-requires-clause-sound : goal.judged_application-requires-clause-sound
judged_application-requires-clause-sound g c = c.in_ok-judged.ensures.sound

pub judged_application-requires-clause-judged : goal.judged_application-requires-clause-judged
judged_application-requires-clause-judged g c = c.in_ok-judged.ensures.judged

pub judged_application-requires-clause-a : goal.judged_application-requires-clause-a
judged_application-requires-clause-a g c =
    holds_later c.product_terms.new.bank c.identity_terms.new.bank c.in_ok-terms.terms.2 (One (Const 0 Nil)) c.identity_terms.ensures.kept c.in_ok-terms.ensures.a_is

pub judged_application-requires-clause-product : goal.judged_application-requires-clause-product
judged_application-requires-clause-product g c =
    holds_later c.product_terms.new.bank c.identity_terms.new.bank c.in_ok-terms.terms.3 (One (Pi (Const 0 Nil) (Const 0 Nil))) c.identity_terms.ensures.kept c.in_ok-terms.ensures.product_is

pub judged_application-requires-clause-variable : goal.judged_application-requires-clause-variable
judged_application-requires-clause-variable g c = c.in_ok-applied.ensures.variable

pub judged_application-requires-clause-identity : goal.judged_application-requires-clause-identity
judged_application-requires-clause-identity g c = c.in_ok-applied.ensures.identity

pub judged_application-requires-clause-applied : goal.judged_application-requires-clause-applied
judged_application-requires-clause-applied g c = c.in_ok-applied.ensures.applied

pub kept-requires : goal.kept-requires
kept-requires g c = omega arith
