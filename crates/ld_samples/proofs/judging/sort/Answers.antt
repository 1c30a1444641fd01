use Rattle.std.proofs.Common.{List, refl, ap, ◌∙◌, subst, IfOk}
use Rattle.ld_terms.specs.Known.{Judgement}
use Rattle.ld_record.specs.declared.record.Kept.{Kept}
use Rattle.ld_record.specs.declared.record.Step.TheVariants as step
use Rattle.ld_record.specs.Kept.{known_of}
use Rattle.ld_record.specs.Growth.{Knows}
use Rattle.ld_record.proofs.CallerLemmas.{said, node_fits, empty_known}
use Rattle.ld_samples.specs.Samples as sample
use Rattle.ld_samples.proofs.Sampled.{says, none_sound}
use Rattle.ld_samples.proofs.judging.sort.Goals as goal

pub emit-requires-clause-sound : goal.emit-requires-clause-sound
emit-requires-clause-sound c = none_sound c.args.bank.now c.args.deriv.now c.requires.none

pub emit-requires-clause-fits : goal.emit-requires-clause-fits
emit-requires-clause-fits c =
    node_fits c.args.bank.now (known_of c.args.bank.now c.args.deriv.now) _ sample.sort step.Sort
    (says _ _ _ sample.sort refl refl (empty_known c.args.bank.now c.args.deriv.now c.empty.result c.empty.ensures) c.requires.terms.star_is c.requires.terms.over_is)
    (record { entries = refl; context = refl; term = refl; type = refl })

pub returns-clause-number : goal.returns-clause-number
returns-clause-number c =
    let P : Judgement → Type 0 = λ q. IfOk c.emit.result (λ k. Knows (known_of c.args.bank.now c.emit.new.self) k q) in
    subst P
    (said c.args.bank.now (known_of c.args.bank.now c.args.deriv.now) _ sample.sort
    (says _ _ _ sample.sort refl refl (empty_known c.args.bank.now c.args.deriv.now c.empty.result c.empty.ensures) c.requires.terms.star_is c.requires.terms.over_is))
    c.emit.ensures.number

pub returns-clause-env : goal.returns-clause-env
returns-clause-env c = c.emit.ensures.adds.env ∙ ap (λ (ks : List Kept). (known_of c.args.bank.now ks).env) c.requires.none

pub returns-clause-sound : goal.returns-clause-sound
returns-clause-sound c = c.emit.ensures.sound
