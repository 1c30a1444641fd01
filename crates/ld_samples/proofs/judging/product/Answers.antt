use Rattle.std.proofs.Common.{refl, subst, IfOk}
use Rattle.ld_terms.specs.Tree.{Star, Box, Nil}
use Rattle.ld_terms.specs.Derivable.{IsSort}
use Rattle.ld_terms.specs.Known.{Judgement}
use Rattle.ld_record.specs.declared.record.Step.TheVariants as step
use Rattle.ld_record.specs.Kept.{known_of}
use Rattle.ld_record.specs.Growth.{Knows}
use Rattle.ld_record.proofs.CallerLemmas.{said, node_fits, empty_known}
use Rattle.ld_record.proofs.Following.{by_form}
use Rattle.ld_samples.specs.Samples as sample
use Rattle.ld_samples.proofs.Sampled.{says}
use Rattle.ld_samples.proofs.judging.product.Goals as goal

pub emit-requires-clause-fits : goal.emit-requires-clause-fits
emit-requires-clause-fits c =
    node_fits c.args.bank.now (known_of c.args.bank.now c.args.deriv.now) _ sample.product (step.Form c.args.j c.args.inner)
    (says _ _ _ sample.product refl refl (empty_known c.args.bank.now c.args.deriv.now c.empty.result c.empty.ensures) c.requires.terms.product_is c.requires.terms.over_is)
    (by_form (known_of c.args.bank.now c.args.deriv.now) c.args.j c.args.inner 0 Nil Star Star Box Box IsSort.box IsSort.box c.requires.judged c.requires.inner)

pub returns-clause-number : goal.returns-clause-number
returns-clause-number c =
    let P : Judgement → Type 0 = λ q. IfOk c.emit.result (λ k. Knows (known_of c.args.bank.now c.emit.new.self) k q) in
    subst P
    (said c.args.bank.now (known_of c.args.bank.now c.args.deriv.now) _ sample.product
    (says _ _ _ sample.product refl refl (empty_known c.args.bank.now c.args.deriv.now c.empty.result c.empty.ensures) c.requires.terms.product_is c.requires.terms.over_is))
    c.emit.ensures.number
