use Rattle.std.proofs.Common.{refl, ap, subst, ◌∙◌}
use mathlib.Core.Path.{ap₂}
use Rattle.ld_terms.specs.Tree.{Trees, Star, Box, Var, Nil, ◌▸◌}
use Rattle.ld_terms.specs.Item.{tree}
use Rattle.ld_terms.specs.Derivable.{IsSort}
use Rattle.ld_terms.specs.Known.{Judgement}
use Rattle.ld_record.specs.declared.record.Step.TheVariants.{Weak}
use Rattle.ld_record.specs.Kept.{known_of}
use Rattle.ld_record.specs.Growth.{KnowsContext}
use Rattle.ld_record.proofs.Growing.{knows_later}
use Rattle.ld_record.proofs.CallerLemmas.{node_fits}
use Rattle.ld_record.proofs.Following.{by_weak}
use Rattle.ld_samples.specs.Samples as sample
use Rattle.ld_samples.proofs.Sampled.{says}
use Rattle.ld_samples.proofs.judging.outer_variable.Goals as goal

pub emit-requires-clause-fits : goal.emit-requires-clause-fits
emit-requires-clause-fits c =
    let known = known_of c.args.bank.now c.extend.new.self in
    let first = knows_later (known_of c.args.bank.now c.args.deriv.now) known c.args.j sample.variable c.extend.ensures.adds c.requires.judged in
    let second = knows_later (known_of c.args.bank.now c.args.deriv.now) known c.args.inner sample.inner_sort c.extend.ensures.adds c.requires.inner in
    let P : Trees → Type 0 = λ us. KnowsContext known c.in_ok-ctx.ctx us in
    let context = subst P (ap₂ ◌▸◌ (ap (λ (q : Judgement). q.context) (c.judge.ensures.is ∙ c.requires.inner.is)) (ap tree c.requires.terms.star_is.item)) c.in_ok-ctx.ensures.number in
    node_fits c.args.bank.now known _ sample.outer_variable (Weak c.args.j c.args.inner) (says _ _ _ sample.outer_variable refl refl context c.requires.terms.outer_is c.requires.terms.star_is)
    (by_weak known c.args.j c.args.inner 0 (Nil ▸ Star) (Var 0) Star Star Box IsSort.box first second)
