use Rattle.std.proofs.Common.{sym, subst}
use Rattle.ld_terms.specs.Bank.{tree_at}
use Rattle.ld_terms.specs.Named.{IsNamed}
use Rattle.ld_infer.specs.Standing.{Standing, env, KnowsPairs}
use Rattle.ld_infer.specs.Theory.{context_of}
use Rattle.ld_infer.proofs.Theories.{theory_goes}
use Rattle.ld_infer.proofs.Concluding.{context_stays}
use Rattle.ld_infer.proofs.Going.{continues_goes}
use Rattle.ld_infer.proofs.Exposure.{type_named}
use Rattle.ld_infer.proofs.Comparing.{comparison_of}
use Rattle.ld_infer.proofs.theory.Theory.compare.Goals as goal

pub compare-requires-clause-pairs : goal.compare-requires-clause-pairs
compare-requires-clause-pairs c = let P : Standing → Type 0 = λ s. KnowsPairs s c.args.job.now.known in (subst P (sym c.self.view_is) c.requires.pairs).live

pub compare-requires-clause-first_named : goal.compare-requires-clause-first_named
compare-requires-clause-first_named c =
    let inside : Standing = record { items = c.self.inside.bank; kept = c.self.inside.deriv; entries = c.self.inside.env; context = context_of c.self.inside.bank c.self.inside.variables.items } in
    type_named c.args.self.now inside c.args.typed.of c.args.typed.judge c.self.view_is c.self.invariant.sound c.requires.judge

pub compare-requires-clause-second_named : goal.compare-requires-clause-second_named
compare-requires-clause-second_named c = let P : Standing → Type 0 = λ s. IsNamed (env s) (tree_at s.items c.args.wanted) in subst P (sym c.self.view_is) c.requires.named

pub invariant_of-self : goal.invariant_of-self
invariant_of-self c = theory_goes _ _ _ _ _ _ _ _ _ c.compare.ensures.goes c.self.invariant

pub returns-clause-answer : goal.returns-clause-answer
returns-clause-answer c =
    let inside : Standing = record { items = c.self.inside.bank; kept = c.self.inside.deriv; entries = c.self.inside.env; context = context_of c.self.inside.bank c.self.inside.variables.items } in
    let new : Standing = record { items = c.compare.new.bank; kept = c.compare.new.deriv; entries = c.self.inside.env; context = context_of c.compare.new.bank c.self.inside.variables.items } in
    comparison_of c.args.self.now inside new c.args.nest c.args.typed.of c.args.wanted c.args.job.now c.compare.new.job c.compare.result c.self.view_is c.compare.ensures.answer

pub returns-clause-continues : goal.returns-clause-continues
returns-clause-continues c =
    continues_goes _ _ _ _ _ c.self.view_is (context_stays _ _ _ _ _ _ _ _ c.compare.ensures.goes.extends c.self.invariant) c.compare.ensures.goes

pub returns-clause-pairs : goal.returns-clause-pairs
returns-clause-pairs c = record { live = c.compare.ensures.pairs }
