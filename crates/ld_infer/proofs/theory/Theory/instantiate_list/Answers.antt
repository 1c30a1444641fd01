use Rattle.ld_infer.proofs.Theories.{theory_later}
use Rattle.ld_infer.proofs.Concluding.{context_stays}
use Rattle.ld_infer.proofs.Going.{continues_items}
use Rattle.ld_infer.proofs.theory.Theory.instantiate_list.Goals as goal

pub invariant_of-self : goal.invariant_of-self
invariant_of-self c = theory_later _ _ _ _ _ _ _ _ c.instantiate_list.ensures.kept c.self.invariant

pub returns-clause-continues : goal.returns-clause-continues
returns-clause-continues c =
    continues_items _ _ _ _ c.self.view_is (context_stays _ _ _ _ _ _ _ _ c.instantiate_list.ensures.kept c.self.invariant) c.instantiate_list.ensures.kept c.self.invariant.sound
