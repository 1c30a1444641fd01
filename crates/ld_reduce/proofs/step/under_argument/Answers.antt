use Rattle.std.proofs.Common.{refl, arith}
use Rattle.ld_terms.specs.Bank.{tree_at}
use Rattle.ld_record.specs.Kept.{known_of}
use Rattle.ld_record.proofs.Growing.{sound_later}
use Rattle.ld_reduce.proofs.Going.{goes_terms, goes_trans, named_later}
use Rattle.ld_reduce.proofs.Following.{argument_named, app_fits, app_made}
use Rattle.ld_reduce.proofs.step.under_argument.Goals as goal

pub same-requires-clause-sound : goal.same-requires-clause-sound
same-requires-clause-sound c = sound_later _ _ _ c.add.ensures.kept c.requires.sound

pub same-requires-clause-named : goal.same-requires-clause-named
same-requires-clause-named c =
    named_later _ _ _ _ c.args.u (goes_terms _ _ c.args.deriv.now c.add.ensures.kept c.requires.sound) c.requires.argument
    (argument_named _ _ _ (tree_at c.args.bank.now c.args.u) c.requires.under.left c.requires.named).1

pub returns-in_err-argument-clause-goes : goal.returns-in_err-argument-clause-goes
returns-in_err-argument-clause-goes c = goes_trans _ _ _ _ _ _ (goes_terms _ _ c.args.deriv.now c.add.ensures.kept c.requires.sound) c.same.ensures.goes

pub emit_eq-requires-clause-fits : goal.emit_eq-requires-clause-fits
emit_eq-requires-clause-fits c =
    app_fits c.args.bank.now c.add.new.self c.args.deriv.now c.same.new.deriv c.args.t c.args.u c.args.part.0 c.in_ok-to.to c.args.part.1 c.in_ok-argument.argument
    (goes_trans _ _ _ _ _ _ (goes_terms _ _ c.args.deriv.now c.add.ensures.kept c.requires.sound) c.same.ensures.goes)
    c.requires.term c.requires.argument c.requires.under c.in_ok-to.ensures.tree c.in_ok-argument.ensures.equal

pub returns-in_err-e-clause-goes : goal.returns-in_err-e-clause-goes
returns-in_err-e-clause-goes c =
    goes_trans _ _ _ _ _ _ (goes_trans _ _ _ _ _ _ (goes_terms _ _ c.args.deriv.now c.add.ensures.kept c.requires.sound) c.same.ensures.goes)
    (record { extends = record { longer = omega arith; kept = λ t h. refl }; begins = c.emit_eq.ensures.begins; adds = c.emit_eq.ensures.adds; sound = c.emit_eq.ensures.sound })

pub returns-clause-makes : goal.returns-clause-makes
returns-clause-makes c =
    app_made c.args.bank.now c.add.new.self c.args.deriv.now c.same.new.deriv c.args.t c.args.u c.args.part.0 c.in_ok-to.to c.args.part.1 c.in_ok-argument.argument
    (goes_trans _ _ _ _ _ _ (goes_terms _ _ c.args.deriv.now c.add.ensures.kept c.requires.sound) c.same.ensures.goes)
    c.requires.term c.requires.argument c.requires.under c.in_ok-to.ensures.tree c.in_ok-argument.ensures.equal
    (known_of c.add.new.self c.emit_eq.new.self) c.in_ok-e.e c.in_ok-to.ensures.small c.in_ok-e.ensures.number

pub returns-clause-goes : goal.returns-clause-goes
returns-clause-goes c =
    goes_trans _ _ _ _ _ _ (goes_trans _ _ _ _ _ _ (goes_terms _ _ c.args.deriv.now c.add.ensures.kept c.requires.sound) c.same.ensures.goes)
    (record { extends = record { longer = omega arith; kept = λ t h. refl }; begins = c.emit_eq.ensures.begins; adds = c.emit_eq.ensures.adds; sound = c.emit_eq.ensures.sound })
