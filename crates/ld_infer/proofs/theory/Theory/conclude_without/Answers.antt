use Rattle.std.proofs.Common.{◌≡◌, length, ap, ◌∙◌, sym, refl, subst, arith}
use Rattle.std.specs.Prelude.{IfOk}
use Rattle.ld_terms.specs.Tree.{count}
use Rattle.ld_terms.specs.Known.{Judgement}
use Rattle.ld_record.specs.Kept.{known_of}
use Rattle.ld_record.specs.Growth.{Knows}
use Rattle.ld_infer.specs.Standing.{Standing}
use Rattle.ld_infer.specs.Theory.{context_of}
use Rattle.ld_infer.proofs.Contexts.{count-context_of}
use Rattle.ld_infer.proofs.Concluding.{fits_without}
use Rattle.ld_infer.proofs.theory.Theory.conclude_without.Goals as goal

pub overflow_sub-len : goal.overflow_sub-len
overflow_sub-len c =
    let all : length c.self.inside.variables.items ≡ count c.args.self.now.context =
    sym (count-context_of c.self.inside.bank c.self.inside.variables.items) ∙ ap (λ (s : Standing). count s.context) c.self.view_is in
    let there = c.requires.there in
    omega arith

pub emit-requires-clause-fits : goal.emit-requires-clause-fits
emit-requires-clause-fits c =
    let variables = c.self.inside.variables.items in
    let inside : Standing = record { items = c.self.inside.bank; kept = c.self.inside.deriv; entries = c.self.inside.env; context = context_of c.self.inside.bank variables } in
    (fits_without c.args.self.now inside _ _ c.self.inside.levels.items variables c.args.out c.len.result c.index-level.result.now c.len-2.result c.args.term c.args.of c.args.step
    c.self.view_is c.self.invariant refl c.requires.there (omega arith) c.index-level.ensures c.len-2.ensures c.requires.term c.requires.of c.requires.follows).0

pub returns-clause-number : goal.returns-clause-number
returns-clause-number c =
    let variables = c.self.inside.variables.items in
    let inside : Standing = record { items = c.self.inside.bank; kept = c.self.inside.deriv; entries = c.self.inside.env; context = context_of c.self.inside.bank variables } in
    let P : Judgement → Type 0 = λ q. IfOk c.emit.result (λ j. Knows (known_of c.self.inside.bank c.emit.new.self) j q) in
    subst P (fits_without c.args.self.now inside _ _ c.self.inside.levels.items variables c.args.out c.len.result c.index-level.result.now c.len-2.result c.args.term c.args.of c.args.step
    c.self.view_is c.self.invariant refl c.requires.there (omega arith) c.index-level.ensures c.len-2.ensures c.requires.term c.requires.of c.requires.follows).1
    c.emit.ensures.number
