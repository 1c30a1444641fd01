use Rattle.ld_reduce.proofs.tests.exposes_no_further_than_the_budget.Goals as goal

pub sample_application-requires-clause-none : goal.sample_application-requires-clause-none
sample_application-requires-clause-none g c = c.new-env.ensures

pub sample_application-requires-clause-no_records : goal.sample_application-requires-clause-no_records
sample_application-requires-clause-no_records g c = c.new-deriv.ensures.none

pub expose-result-requires-clause-sound : goal.expose-result-requires-clause-sound
expose-result-requires-clause-sound g c = c.in_ok-term.ensures.sound

pub expose-result-requires-clause-env : goal.expose-result-requires-clause-env
expose-result-requires-clause-env g c = c.in_ok-term.ensures.env

pub expose-result-requires-clause-live : goal.expose-result-requires-clause-live
expose-result-requires-clause-live g c = c.in_ok-term.ensures.live

pub expose-result-requires-clause-term : goal.expose-result-requires-clause-term
expose-result-requires-clause-term g c = c.in_ok-term.ensures.term

pub expose-result-requires-clause-named : goal.expose-result-requires-clause-named
expose-result-requires-clause-named g c = c.in_ok-term.ensures.named
