use Rattle.std.proofs.Common.{arith}
use Rattle.ld_terms.specs.Tree.{Star, Box, Var}
use Rattle.ld_terms.specs.Derivable.{IsSort}
use Rattle.ld_record.specs.declared.record.Step.TheVariants as step
use Rattle.ld_record.specs.Kept.{known_of}
use Rattle.ld_record.specs.Tests.{judged, one_type, type_and_member}
use Rattle.ld_record.proofs.Growing.{knows_later, knows_context_later}
use Rattle.ld_record.proofs.CallerLemmas.{node_fits}
use Rattle.ld_record.proofs.Following.{by_var, by_weak, says_at, knows_said, context_fits, extended_known}
use Rattle.dr_text.proofs.variable_tests.member.Goals as goal

pub extend-requires-clause-fits : goal.extend-requires-clause-fits
extend-requires-clause-fits c =
    let items = c.args.bank.now in
    let k0 = known_of items c.args.deriv.now in
    context_fits items k0 c.args.outer c.args.terms.first one_type c.args.typed (judged 0 one_type (Var 0) Star) c.requires.outer c.requires.first c.requires.typed

pub emit-requires-clause-fits : goal.emit-requires-clause-fits
emit-requires-clause-fits c =
    let items = c.args.bank.now in
    let k0 = known_of items c.args.deriv.now in
    let k1 = known_of items c.extend.new.self in
    let ctx_1 = extended_known items k0 k1 c.args.outer c.in_ok-ctx.ctx c.args.terms.first one_type (Var 0) c.requires.outer c.requires.first c.in_ok-ctx.ensures.number in
    let says1 = says_at items k1 0 c.in_ok-ctx.ctx c.args.terms.star c.args.terms.box_sort type_and_member Star Box (omega arith) ctx_1 c.requires.star c.requires.box_sort in
    let arg_sort_1 = knows_later k0 k1 c.args.sort _ c.extend.ensures.adds c.requires.sort in
    let arg_typed_1 = knows_later k0 k1 c.args.typed _ c.extend.ensures.adds c.requires.typed in
    node_fits items k1 _ (judged 0 type_and_member Star Box) (step.Weak c.args.sort c.args.typed) says1
    (by_weak k1 c.args.sort c.args.typed 0 one_type Star Box (Var 0) Star IsSort.star arg_sort_1 arg_typed_1)

pub emit-requires-2-clause-fits : goal.emit-requires-2-clause-fits
emit-requires-2-clause-fits c =
    let items = c.args.bank.now in
    let k0 = known_of items c.args.deriv.now in
    let k1 = known_of items c.extend.new.self in
    let ctx_1 = extended_known items k0 k1 c.args.outer c.in_ok-ctx.ctx c.args.terms.first one_type (Var 0) c.requires.outer c.requires.first c.in_ok-ctx.ensures.number in
    let arg_typed_1 = knows_later k0 k1 c.args.typed _ c.extend.ensures.adds c.requires.typed in
    let k2 = known_of items c.emit.new.self in
    let ctx_2 = knows_context_later k1 k2 c.in_ok-ctx.ctx _ c.emit.ensures.adds ctx_1 in
    let says2 = says_at items k2 0 c.in_ok-ctx.ctx c.args.terms.second c.args.terms.star type_and_member (Var 1) Star (omega arith) ctx_2 c.requires.second c.requires.star in
    let arg_typed_2 = knows_later k1 k2 c.args.typed _ c.emit.ensures.adds arg_typed_1 in
    node_fits items k2 _ (judged 0 type_and_member (Var 1) Star) (step.Weak c.args.typed c.args.typed) says2
    (by_weak k2 c.args.typed c.args.typed 0 one_type (Var 0) Star (Var 0) Star IsSort.star arg_typed_2 arg_typed_2)

pub emit-requires-3-clause-fits : goal.emit-requires-3-clause-fits
emit-requires-3-clause-fits c =
    let items = c.args.bank.now in
    let k0 = known_of items c.args.deriv.now in
    let k1 = known_of items c.extend.new.self in
    let ctx_1 = extended_known items k0 k1 c.args.outer c.in_ok-ctx.ctx c.args.terms.first one_type (Var 0) c.requires.outer c.requires.first c.in_ok-ctx.ensures.number in
    let arg_typed_1 = knows_later k0 k1 c.args.typed _ c.extend.ensures.adds c.requires.typed in
    let k2 = known_of items c.emit.new.self in
    let ctx_2 = knows_context_later k1 k2 c.in_ok-ctx.ctx _ c.emit.ensures.adds ctx_1 in
    let arg_typed_2 = knows_later k1 k2 c.args.typed _ c.emit.ensures.adds arg_typed_1 in
    let k3 = known_of items c.emit-2.new.self in
    let ctx_3 = knows_context_later k2 k3 c.in_ok-ctx.ctx _ c.emit-2.ensures.adds ctx_2 in
    let says3 = says_at items k3 0 c.in_ok-ctx.ctx c.args.terms.first c.args.terms.second type_and_member (Var 0) (Var 1) (omega arith) ctx_3 c.requires.first c.requires.second in
    let arg_typed_3 = knows_later k2 k3 c.args.typed _ c.emit-2.ensures.adds arg_typed_2 in
    node_fits items k3 _ (judged 0 type_and_member (Var 0) (Var 1)) (step.Var c.args.typed) says3
    (by_var k3 c.args.typed 0 one_type (Var 0) Star IsSort.star arg_typed_3)

pub returns-clause-sort : goal.returns-clause-sort
returns-clause-sort c =
    let items = c.args.bank.now in
    let k0 = known_of items c.args.deriv.now in
    let k1 = known_of items c.extend.new.self in
    let ctx_1 = extended_known items k0 k1 c.args.outer c.in_ok-ctx.ctx c.args.terms.first one_type (Var 0) c.requires.outer c.requires.first c.in_ok-ctx.ensures.number in
    let says1 = says_at items k1 0 c.in_ok-ctx.ctx c.args.terms.star c.args.terms.box_sort type_and_member Star Box (omega arith) ctx_1 c.requires.star c.requires.box_sort in
    let k2 = known_of items c.emit.new.self in
    let sort_2 = knows_said items k1 k2 _ (judged 0 type_and_member Star Box) c.in_ok-sort.sort says1 c.in_ok-sort.ensures.number in
    let k3 = known_of items c.emit-2.new.self in
    let k4 = known_of items c.emit-3.new.self in
    let sort_3 = knows_later k2 k3 c.in_ok-sort.sort _ c.emit-2.ensures.adds sort_2 in
    let sort_4 = knows_later k3 k4 c.in_ok-sort.sort _ c.emit-3.ensures.adds sort_3 in
    sort_4

pub returns-clause-outer : goal.returns-clause-outer
returns-clause-outer c =
    let items = c.args.bank.now in
    let k0 = known_of items c.args.deriv.now in
    let k1 = known_of items c.extend.new.self in
    let ctx_1 = extended_known items k0 k1 c.args.outer c.in_ok-ctx.ctx c.args.terms.first one_type (Var 0) c.requires.outer c.requires.first c.in_ok-ctx.ensures.number in
    let k2 = known_of items c.emit.new.self in
    let ctx_2 = knows_context_later k1 k2 c.in_ok-ctx.ctx _ c.emit.ensures.adds ctx_1 in
    let says2 = says_at items k2 0 c.in_ok-ctx.ctx c.args.terms.second c.args.terms.star type_and_member (Var 1) Star (omega arith) ctx_2 c.requires.second c.requires.star in
    let k3 = known_of items c.emit-2.new.self in
    let outer_3 = knows_said items k2 k3 _ (judged 0 type_and_member (Var 1) Star) c.in_ok-outer.outer says2 c.in_ok-outer.ensures.number in
    let k4 = known_of items c.emit-3.new.self in
    let outer_4 = knows_later k3 k4 c.in_ok-outer.outer _ c.emit-3.ensures.adds outer_3 in
    outer_4

pub returns-clause-member : goal.returns-clause-member
returns-clause-member c =
    let items = c.args.bank.now in
    let k0 = known_of items c.args.deriv.now in
    let k1 = known_of items c.extend.new.self in
    let ctx_1 = extended_known items k0 k1 c.args.outer c.in_ok-ctx.ctx c.args.terms.first one_type (Var 0) c.requires.outer c.requires.first c.in_ok-ctx.ensures.number in
    let k2 = known_of items c.emit.new.self in
    let ctx_2 = knows_context_later k1 k2 c.in_ok-ctx.ctx _ c.emit.ensures.adds ctx_1 in
    let k3 = known_of items c.emit-2.new.self in
    let ctx_3 = knows_context_later k2 k3 c.in_ok-ctx.ctx _ c.emit-2.ensures.adds ctx_2 in
    let says3 = says_at items k3 0 c.in_ok-ctx.ctx c.args.terms.first c.args.terms.second type_and_member (Var 0) (Var 1) (omega arith) ctx_3 c.requires.first c.requires.second in
    let k4 = known_of items c.emit-3.new.self in
    let member_4 = knows_said items k3 k4 _ (judged 0 type_and_member (Var 0) (Var 1)) c.in_ok-member.member says3 c.in_ok-member.ensures.number in
    member_4
