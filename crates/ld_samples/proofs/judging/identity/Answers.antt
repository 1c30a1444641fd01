use Rattle.std.proofs.Common.{refl, subst, IfOk}
use Rattle.ld_terms.specs.Tree.{Star, Box, Var, Nil}
use Rattle.ld_terms.specs.Derivable.{IsSort}
use Rattle.ld_terms.specs.Known.{Judgement}
use Rattle.ld_record.specs.declared.record.Step.TheVariants as step
use Rattle.ld_record.specs.Kept.{known_of}
use Rattle.ld_record.specs.Growth.{Knows}
use Rattle.ld_record.proofs.CallerLemmas.{said, node_fits, empty_known}
use Rattle.ld_record.proofs.Following.{by_abst}
use Rattle.ld_samples.specs.Samples as sample
use Rattle.ld_samples.proofs.Sampled.{says}
use Rattle.ld_samples.proofs.judging.identity.Goals as goal

pub emit-requires-clause-fits : goal.emit-requires-clause-fits
emit-requires-clause-fits c =
    node_fits c.args.bank.now (known_of c.args.bank.now c.args.deriv.now) _ sample.identity (step.Abst c.args.body c.args.formed)
    (says _ _ _ sample.identity refl refl (empty_known c.args.bank.now c.args.deriv.now c.empty.result c.empty.ensures) c.requires.terms.identity_is c.requires.terms.product_is)
    (by_abst (known_of c.args.bank.now c.args.deriv.now) c.args.body c.args.formed 0 Nil Star Star (Var 0) Box IsSort.box c.requires.body c.requires.formed)

pub returns-clause-number : goal.returns-clause-number
returns-clause-number c =
    let P : Judgement → Type 0 = λ q. IfOk c.emit.result (λ k. Knows (known_of c.args.bank.now c.emit.new.self) k q) in
    subst P
    (said c.args.bank.now (known_of c.args.bank.now c.args.deriv.now) _ sample.identity
    (says _ _ _ sample.identity refl refl (empty_known c.args.bank.now c.args.deriv.now c.empty.result c.empty.ensures) c.requires.terms.identity_is c.requires.terms.product_is))
    c.emit.ensures.number
