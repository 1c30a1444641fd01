use Rattle.std.proofs.Common.{arith}
use Rattle.ld_terms.specs.Tree.{Star, Box, Var, Pi, Nil}
use Rattle.ld_terms.specs.Derivable.{IsSort}
use Rattle.ld_record.specs.declared.record.Step.TheVariants as step
use Rattle.ld_record.specs.Kept.{known_of}
use Rattle.ld_record.specs.Tests.{judged, same_type}
use Rattle.ld_record.proofs.Growing.{knows_later}
use Rattle.ld_record.proofs.CallerLemmas.{node_fits, empty_known}
use Rattle.ld_record.proofs.Following.{by_form, by_abst, says_at, knows_said, number_said}
use Rattle.dr_text.proofs.conversion_tests.function.Goals as goal

pub emit-requires-clause-fits : goal.emit-requires-clause-fits
emit-requires-clause-fits c =
    let items = c.args.bank.now in
    let k0 = known_of items c.args.deriv.now in
    let empty = empty_known items c.args.deriv.now c.empty.result c.empty.ensures in
    let says0 = says_at items k0 0 c.empty.result c.args.redex.product c.args.terms.box_sort Nil (Pi Star Star) Box (omega arith) empty c.requires.product c.requires.box_sort in
    node_fits items k0 _ (judged 0 Nil (Pi Star Star) Box) (step.Form c.args.j c.args.sort) says0
    (by_form k0 c.args.j c.args.sort 0 Nil Star Star Box Box IsSort.box IsSort.box c.requires.j c.requires.sort)

pub emit-requires-2-clause-fits : goal.emit-requires-2-clause-fits
emit-requires-2-clause-fits c =
    let items = c.args.bank.now in
    let k0 = known_of items c.args.deriv.now in
    let empty = empty_known items c.args.deriv.now c.empty.result c.empty.ensures in
    let says0 = says_at items k0 0 c.empty.result c.args.redex.product c.args.terms.box_sort Nil (Pi Star Star) Box (omega arith) empty c.requires.product c.requires.box_sort in
    let k1 = known_of items c.emit.new.self in
    let formed_1 = knows_said items k0 k1 _ (judged 0 Nil (Pi Star Star) Box) c.in_ok-formed.formed says0 c.in_ok-formed.ensures.number in
    let empty_later = empty_known items c.emit.new.self c.empty-2.result c.empty-2.ensures in
    let says1 = says_at items k1 0 c.empty-2.result c.args.redex.function c.args.redex.product Nil same_type (Pi Star Star) (omega arith) empty_later c.requires.function c.requires.product in
    let arg_typed_1 = knows_later k0 k1 c.args.typed _ c.emit.ensures.adds c.requires.typed in
    node_fits items k1 _ (judged 0 Nil same_type (Pi Star Star)) (step.Abst c.args.typed c.in_ok-formed.formed) says1
    (by_abst k1 c.args.typed c.in_ok-formed.formed 0 Nil Star Star (Var 0) Box IsSort.box arg_typed_1 formed_1)

pub returns-clause-number : goal.returns-clause-number
returns-clause-number c =
    let items = c.args.bank.now in
    let empty = empty_known items c.args.deriv.now c.empty.result c.empty.ensures in
    let k1 = known_of items c.emit.new.self in
    let empty_later = empty_known items c.emit.new.self c.empty-2.result c.empty-2.ensures in
    let says1 = says_at items k1 0 c.empty-2.result c.args.redex.function c.args.redex.product Nil same_type (Pi Star Star) (omega arith) empty_later c.requires.function c.requires.product in
    number_said items k1 (known_of items c.emit-2.new.self) _ (judged 0 Nil same_type (Pi Star Star)) c.emit-2.result says1 c.emit-2.ensures.number
