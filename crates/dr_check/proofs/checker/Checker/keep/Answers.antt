use Rattle.std.proofs.Common.{ap, ◌∙◌}
use Rattle.dr_check.specs.Stage.{Stage}
use Rattle.dr_check.proofs.Growing.{state_later}
use Rattle.dr_check.proofs.checker.Checker.keep.Goals as goal

pub returns-clause-same : goal.returns-clause-same
returns-clause-same c =
    state_later c.self.inside.bank c.add.new.self _ _ _ _ _ _ c.add.ensures.kept c.self.invariant
    ∙ ap (λ (x : Stage). x.state) c.self.view_is
