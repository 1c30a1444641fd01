use Rattle.std.proofs.Common.{refl, subst}
use Rattle.ld_terms.specs.Derivable.{IsLegalContext}
use Rattle.ld_infer.specs.Standing.{Standing, env}
use Rattle.ld_infer.specs.Theory.{context_of}
use Rattle.ld_infer.proofs.Concluding.{context_legal}
use Rattle.ld_infer.proofs.theory.Theory.deriv.Goals as goal

pub returns-clause-legal : goal.returns-clause-legal
returns-clause-legal c =
    let inside : Standing = record { items = c.self.inside.bank; kept = c.self.inside.deriv; entries = c.self.inside.env; context = context_of c.self.inside.bank c.self.inside.variables.items } in
    let Legal : Standing → Type 0 = λ s. IsLegalContext (env s) s.context in
    subst Legal c.self.view_is (context_legal inside _ _ c.self.inside.levels.items c.self.inside.variables.items c.self.invariant refl)
