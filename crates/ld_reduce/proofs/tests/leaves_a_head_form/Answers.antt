use Rattle.ld_reduce.proofs.Sampled.{none_named}
use Rattle.ld_reduce.proofs.tests.leaves_a_head_form.Goals as goal

pub beta_head-requires-clause-sound : goal.beta_head-requires-clause-sound
beta_head-requires-clause-sound g c = c.new-deriv.ensures.sound c.tall.new.bank

pub beta_head-requires-clause-term : goal.beta_head-requires-clause-term
beta_head-requires-clause-term g c = c.in_ok-term.ensures.term

pub beta_head-requires-clause-named : goal.beta_head-requires-clause-named
beta_head-requires-clause-named g c = none_named c.tall.new.bank c.new-deriv.result c.in_ok-term.term c.new-deriv.ensures.none c.in_ok-term.ensures.named
