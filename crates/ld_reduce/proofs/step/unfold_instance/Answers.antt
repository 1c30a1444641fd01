use Rattle.ld_record.specs.declared.record.EqStep.TheVariants as step
use Rattle.ld_record.specs.Kept.{known_of}
use Rattle.ld_record.proofs.Growing.{sound_later}
use Rattle.ld_reduce.proofs.Going.{goes_terms, goes_kept, fits_later}
use Rattle.ld_reduce.proofs.Following.{by_delta}
use Rattle.ld_reduce.proofs.step.unfold_instance.Goals as goal

pub returns-in_err-to-clause-goes : goal.returns-in_err-to-clause-goes
returns-in_err-to-clause-goes c = goes_terms _ _ _ c.instantiate_list.ensures.kept c.requires.sound

pub emit_eq-requires-clause-sound : goal.emit_eq-requires-clause-sound
emit_eq-requires-clause-sound c = sound_later _ _ _ c.instantiate_list.ensures.kept c.requires.sound

pub emit_eq-requires-clause-fits : goal.emit_eq-requires-clause-fits
emit_eq-requires-clause-fits c =
    fits_later _ _ c.args.deriv.now c.args.t c.in_ok-to.to _ step.Delta c.instantiate_list.ensures.kept c.requires.sound c.requires.term c.in_ok-to.ensures.tree
    (by_delta (known_of c.args.bank.now c.args.deriv.now) _ _ _ c.requires.instance c.requires.named)

pub returns-in_err-e-clause-goes : goal.returns-in_err-e-clause-goes
returns-in_err-e-clause-goes c = goes_kept _ _ _ _ c.instantiate_list.ensures.kept c.requires.sound c.emit_eq.ensures.begins c.emit_eq.ensures.adds c.emit_eq.ensures.sound

pub returns-clause-goes : goal.returns-clause-goes
returns-clause-goes c = goes_kept _ _ _ _ c.instantiate_list.ensures.kept c.requires.sound c.emit_eq.ensures.begins c.emit_eq.ensures.adds c.emit_eq.ensures.sound
