use Rattle.std.proofs.Common.{refl, ap, ◌∙◌}
use Rattle.ld_terms.specs.Tree.{Star, Box, Nil}
use Rattle.ld_terms.specs.Derivable.{IsSort}
use Rattle.ld_terms.specs.Known.{Judgement}
use Rattle.ld_record.specs.declared.record.Step.TheVariants as step
use Rattle.ld_record.specs.Kept.{known_of}
use Rattle.ld_record.proofs.CallerLemmas.{node_fits}
use Rattle.ld_record.proofs.Following.{by_var}
use Rattle.ld_samples.specs.Samples as sample
use Rattle.ld_samples.proofs.Sampled.{says}
use Rattle.ld_samples.proofs.judging.variable.Goals as goal

pub emit-requires-clause-fits : goal.emit-requires-clause-fits
emit-requires-clause-fits c =
    node_fits c.args.bank.now (known_of c.args.bank.now c.args.deriv.now) _ sample.variable (step.Var c.args.j)
    (says _ _ _ sample.variable refl refl (record { live = c.judge.ensures.numbers.context; is = ap (λ (q : Judgement). q.context) (c.judge.ensures.is ∙ c.requires.inner.is) })
    c.requires.terms.inner_is c.requires.terms.star_is)
    (by_var (known_of c.args.bank.now c.args.deriv.now) c.args.j 0 Nil Star Box IsSort.box c.requires.judged)
