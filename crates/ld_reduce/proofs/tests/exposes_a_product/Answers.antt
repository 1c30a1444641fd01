use Rattle.ld_reduce.proofs.tests.exposes_a_product.Goals as goal

pub sample_application-requires-clause-none : goal.sample_application-requires-clause-none
sample_application-requires-clause-none g c = c.new-env.ensures

pub sample_application-requires-clause-no_records : goal.sample_application-requires-clause-no_records
sample_application-requires-clause-no_records g c = c.new-deriv.ensures.none

pub expose-requires-clause-sound : goal.expose-requires-clause-sound
expose-requires-clause-sound g c = c.in_ok-term.ensures.sound

pub expose-requires-clause-env : goal.expose-requires-clause-env
expose-requires-clause-env g c = c.in_ok-term.ensures.env

pub expose-requires-clause-live : goal.expose-requires-clause-live
expose-requires-clause-live g c = c.in_ok-term.ensures.live

pub expose-requires-clause-term : goal.expose-requires-clause-term
expose-requires-clause-term g c = c.in_ok-term.ensures.term

pub expose-requires-clause-named : goal.expose-requires-clause-named
expose-requires-clause-named g c = c.in_ok-term.ensures.named
