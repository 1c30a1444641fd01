use Rattle.std.proofs.Common.{arith}
use Rattle.ld_terms.specs.Tree.{Star, Box, Var, App, Pi, Nil}
use Rattle.ld_terms.specs.Derivable.{IsSort}
use Rattle.ld_record.specs.declared.record.Step.TheVariants as step
use Rattle.ld_record.specs.Kept.{known_of}
use Rattle.ld_record.specs.Tests.{judged, one_type, same_type}
use Rattle.ld_record.proofs.Growing.{knows_later, knows_context_later}
use Rattle.ld_record.proofs.CallerLemmas.{node_fits}
use Rattle.ld_record.proofs.Following.{by_weak, by_appl, says_at, knows_said, number_said}
use Rattle.dr_text.proofs.conversion_tests.applied.Goals as goal

pub emit-requires-clause-fits : goal.emit-requires-clause-fits
emit-requires-clause-fits c =
    let items = c.args.bank.now in
    let k0 = known_of items c.args.deriv.now in
    let says0 = says_at items k0 0 c.args.ctx c.args.redex.function c.args.redex.product one_type same_type (Pi Star Star) (omega arith) c.requires.ctx c.requires.function c.requires.product in
    node_fits items k0 _ (judged 0 one_type same_type (Pi Star Star)) (step.Weak c.args.function c.args.j) says0
    (by_weak k0 c.args.function c.args.j 0 Nil same_type (Pi Star Star) Star Box IsSort.box c.requires.known c.requires.j)

pub emit-requires-2-clause-fits : goal.emit-requires-2-clause-fits
emit-requires-2-clause-fits c =
    let items = c.args.bank.now in
    let k0 = known_of items c.args.deriv.now in
    let says0 = says_at items k0 0 c.args.ctx c.args.redex.function c.args.redex.product one_type same_type (Pi Star Star) (omega arith) c.requires.ctx c.requires.function c.requires.product in
    let k1 = known_of items c.emit.new.self in
    let under_1 = knows_said items k0 k1 _ (judged 0 one_type same_type (Pi Star Star)) c.in_ok-under.under says0 c.in_ok-under.ensures.number in
    let ctx_1 = knows_context_later k0 k1 c.args.ctx _ c.emit.ensures.adds c.requires.ctx in
    let says1 = says_at items k1 0 c.args.ctx c.args.redex.first c.args.star one_type (App same_type (Var 0)) Star (omega arith) ctx_1 c.requires.first c.requires.star in
    let typed_1 = knows_later k0 k1 c.args.typed _ c.emit.ensures.adds c.requires.typed in
    node_fits items k1 _ (judged 0 one_type (App same_type (Var 0)) Star) (step.Appl c.in_ok-under.under c.args.typed) says1
    (by_appl k1 c.in_ok-under.under c.args.typed 0 one_type Star Star same_type (Var 0) under_1 typed_1)

pub returns-clause-number : goal.returns-clause-number
returns-clause-number c =
    let items = c.args.bank.now in
    let k0 = known_of items c.args.deriv.now in
    let k1 = known_of items c.emit.new.self in
    let ctx_1 = knows_context_later k0 k1 c.args.ctx _ c.emit.ensures.adds c.requires.ctx in
    let says1 = says_at items k1 0 c.args.ctx c.args.redex.first c.args.star one_type (App same_type (Var 0)) Star (omega arith) ctx_1 c.requires.first c.requires.star in
    number_said items k1 (known_of items c.emit-2.new.self) _ (judged 0 one_type (App same_type (Var 0)) Star) c.emit-2.result says1 c.emit-2.ensures.number
