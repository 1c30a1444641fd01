use Rattle.ld_infer.specs.Standing.{Standing}
use Rattle.ld_infer.specs.Theory.{context_of}
use Rattle.ld_infer.proofs.Theories.{theory_goes}
use Rattle.ld_infer.proofs.Concluding.{context_stays}
use Rattle.ld_infer.proofs.Going.{continues_goes}
use Rattle.ld_infer.proofs.Pairs.{pairs_later}
use Rattle.ld_infer.proofs.Exposure.{exposed_type, type_named}
use Rattle.ld_infer.proofs.theory.Theory.expose.Goals as goal

pub expose-requires-clause-named : goal.expose-requires-clause-named
expose-requires-clause-named c =
    let inside : Standing = record { items = c.self.inside.bank; kept = c.self.inside.deriv; entries = c.self.inside.env; context = context_of c.self.inside.bank c.self.inside.variables.items } in
    type_named c.args.self.now inside c.args.typed.of c.args.typed.judge c.self.view_is c.self.invariant.sound c.requires.judge

pub invariant_of-self : goal.invariant_of-self
invariant_of-self c = theory_goes _ _ _ _ _ _ _ _ _ c.expose.ensures.goes c.self.invariant

pub returns-clause-answer : goal.returns-clause-answer
returns-clause-answer c =
    let inside : Standing = record { items = c.self.inside.bank; kept = c.self.inside.deriv; entries = c.self.inside.env; context = context_of c.self.inside.bank c.self.inside.variables.items } in
    let goes = continues_goes c.args.self.now inside _ _ _ c.self.view_is (context_stays _ _ _ _ _ _ _ _ c.expose.ensures.goes.extends c.self.invariant) c.expose.ensures.goes in
    exposed_type c.args.self.now inside _ c.args.typed.of c.args.typed.judge c.args.job.now c.expose.new.budget c.expose.result c.self.view_is c.self.invariant.sound c.requires.judge goes c.expose.ensures.goes.sound c.requires.pairs
    c.expose.ensures.answers

pub returns-clause-continues : goal.returns-clause-continues
returns-clause-continues c =
    continues_goes _ _ _ _ _ c.self.view_is (context_stays _ _ _ _ _ _ _ _ c.expose.ensures.goes.extends c.self.invariant) c.expose.ensures.goes

pub returns-clause-pairs : goal.returns-clause-pairs
returns-clause-pairs c =
    let inside : Standing = record { items = c.self.inside.bank; kept = c.self.inside.deriv; entries = c.self.inside.env; context = context_of c.self.inside.bank c.self.inside.variables.items } in
    let goes = continues_goes c.args.self.now inside _ _ _ c.self.view_is (context_stays _ _ _ _ _ _ _ _ c.expose.ensures.goes.extends c.self.invariant) c.expose.ensures.goes in
    pairs_later c.args.self.now _ c.args.job.now.known goes c.requires.pairs
