use Rattle.ld_convert.proofs.Ready.{ready_later, ready_with}
use Rattle.ld_convert.proofs.tests.comparison.Goals as goal

pub returns-clause-ready : goal.returns-clause-ready
returns-clause-ready c = ready_with _ _ _ _ _ (ready_later _ _ _ _ _ _ c.compare.ensures.goes c.requires.ready) c.compare.ensures.pairs
