use Rattle.ld_reduce.proofs.Sampled.{none_named}
use Rattle.ld_reduce.proofs.tests.counts_the_step_to_a_high_term.Goals as goal

pub beta_head-result-requires-clause-sound : goal.beta_head-result-requires-clause-sound
beta_head-result-requires-clause-sound g c = c.new-deriv.ensures.sound c.grows.new.bank

pub beta_head-result-requires-clause-term : goal.beta_head-result-requires-clause-term
beta_head-result-requires-clause-term g c = c.in_ok-term.ensures.term

pub beta_head-result-requires-clause-named : goal.beta_head-result-requires-clause-named
beta_head-result-requires-clause-named g c = none_named c.grows.new.bank c.new-deriv.result c.in_ok-term.term c.new-deriv.ensures.none c.in_ok-term.ensures.named
