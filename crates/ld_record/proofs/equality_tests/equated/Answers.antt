use Rattle.std.proofs.Common.{refl}
use Rattle.ld_terms.specs.Tree.{Star, Var, App}
use Rattle.ld_record.specs.declared.record.EqStep.TheVariants as eq_step
use Rattle.ld_record.specs.Kept.{known_of}
use Rattle.ld_record.specs.Tests.{same_type}
use Rattle.ld_record.proofs.CallerLemmas.{equal_fits}
use Rattle.ld_record.proofs.equality_tests.equated.Goals as goal

pub emit_eq-requires-clause-fits : goal.emit_eq-requires-clause-fits
emit_eq-requires-clause-fits c =
    equal_fits c.args.bank.now (known_of c.args.bank.now c.args.deriv.now) c.args.redex c.args.star (App same_type Star) Star eq_step.Beta c.requires.redex c.requires.star
    (record { domain = Star; body = Var 0; argument = Star; left = refl; right = refl; named = ((tt, tt), tt) })

pub emit_eq-requires-clause-sound : goal.emit_eq-requires-clause-sound
emit_eq-requires-clause-sound c = c.requires.sound
