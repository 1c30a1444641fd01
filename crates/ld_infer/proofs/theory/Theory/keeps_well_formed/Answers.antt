use Rattle.std.proofs.Common.{subst}
use Rattle.ld_record.specs.Kept.{IsSound}
use Rattle.ld_infer.proofs.Concluding.{well_formed}
use Rattle.ld_infer.proofs.theory.Theory.keeps_well_formed.Goals as goal

pub returns : goal.returns
returns c = λ j t type knows. well_formed c.args.self.now j t type (subst (IsSound c.args.self.now.items) c.deriv-deriv.ensures.kept c.deriv-deriv.ensures.sound) knows
