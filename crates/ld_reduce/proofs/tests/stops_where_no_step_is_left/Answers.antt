use Rattle.ld_terms.specs.Tree.{Star, Var, App, Lam}
use Rattle.ld_reduce.proofs.Going.{term_of}
use Rattle.ld_reduce.proofs.Sampled.{named_by}
use Rattle.ld_reduce.proofs.tests.stops_where_no_step_is_left.Goals as goal

pub beta_head-result-requires-clause-sound : goal.beta_head-result-requires-clause-sound
beta_head-result-requires-clause-sound g c = c.new-deriv.ensures.sound c.chosen.new.bank

pub beta_head-result-requires-clause-term : goal.beta_head-result-requires-clause-term
beta_head-result-requires-clause-term g c = term_of c.chosen.new.bank c.in_ok-term.term (App (App (App (Lam Star (Lam Star (Var 1))) (Var 3)) (Var 4)) (Var 5)) c.in_ok-term.ensures

pub beta_head-result-requires-clause-named : goal.beta_head-result-requires-clause-named
beta_head-result-requires-clause-named g c = named_by c.chosen.new.bank c.new-deriv.result c.in_ok-term.term (App (App (App (Lam Star (Lam Star (Var 1))) (Var 3)) (Var 4)) (Var 5)) c.new-deriv.ensures.none c.in_ok-term.ensures ((((tt, (tt, tt)), tt), tt), tt)
