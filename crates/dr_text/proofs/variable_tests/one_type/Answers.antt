use Rattle.std.proofs.Common.{arith}
use Rattle.ld_terms.specs.Tree.{Star, Box, Var, Nil}
use Rattle.ld_terms.specs.Derivable.{IsSort}
use Rattle.ld_record.specs.declared.record.Step.TheVariants as step
use Rattle.ld_record.specs.Kept.{known_of}
use Rattle.ld_record.specs.Tests.{judged, one_type}
use Rattle.ld_record.proofs.Growing.{knows_later, knows_context_later}
use Rattle.ld_record.proofs.CallerLemmas.{node_fits, empty_known}
use Rattle.ld_record.proofs.Following.{by_var, by_weak, says_at, knows_said, context_fits, extended_known}
use Rattle.dr_text.proofs.variable_tests.one_type.Goals as goal

pub extend-requires-clause-fits : goal.extend-requires-clause-fits
extend-requires-clause-fits c =
    let items = c.args.bank.now in
    let k0 = known_of items c.args.deriv.now in
    let empty = empty_known items c.args.deriv.now c.empty-empty.result c.empty-empty.ensures in
    context_fits items k0 c.empty-empty.result c.args.terms.star Nil c.args.j (judged 0 Nil Star Box) empty c.requires.star c.requires.j

pub emit-requires-clause-fits : goal.emit-requires-clause-fits
emit-requires-clause-fits c =
    let items = c.args.bank.now in
    let k0 = known_of items c.args.deriv.now in
    let empty = empty_known items c.args.deriv.now c.empty-empty.result c.empty-empty.ensures in
    let k1 = known_of items c.extend.new.self in
    let ctx_1 = extended_known items k0 k1 c.empty-empty.result c.in_ok-ctx.ctx c.args.terms.star Nil Star empty c.requires.star c.in_ok-ctx.ensures.number in
    let says1 = says_at items k1 0 c.in_ok-ctx.ctx c.args.terms.star c.args.terms.box_sort one_type Star Box (omega arith) ctx_1 c.requires.star c.requires.box_sort in
    let j_1 = knows_later k0 k1 c.args.j _ c.extend.ensures.adds c.requires.j in
    node_fits items k1 _ (judged 0 one_type Star Box) (step.Weak c.args.j c.args.j) says1
    (by_weak k1 c.args.j c.args.j 0 Nil Star Box Star Box IsSort.box j_1 j_1)

pub emit-requires-2-clause-fits : goal.emit-requires-2-clause-fits
emit-requires-2-clause-fits c =
    let items = c.args.bank.now in
    let k0 = known_of items c.args.deriv.now in
    let empty = empty_known items c.args.deriv.now c.empty-empty.result c.empty-empty.ensures in
    let k1 = known_of items c.extend.new.self in
    let ctx_1 = extended_known items k0 k1 c.empty-empty.result c.in_ok-ctx.ctx c.args.terms.star Nil Star empty c.requires.star c.in_ok-ctx.ensures.number in
    let j_1 = knows_later k0 k1 c.args.j _ c.extend.ensures.adds c.requires.j in
    let k2 = known_of items c.emit.new.self in
    let ctx_2 = knows_context_later k1 k2 c.in_ok-ctx.ctx _ c.emit.ensures.adds ctx_1 in
    let says2 = says_at items k2 0 c.in_ok-ctx.ctx c.args.terms.first c.args.terms.star one_type (Var 0) Star (omega arith) ctx_2 c.requires.first c.requires.star in
    let j_2 = knows_later k1 k2 c.args.j _ c.emit.ensures.adds j_1 in
    node_fits items k2 _ (judged 0 one_type (Var 0) Star) (step.Var c.args.j) says2
    (by_var k2 c.args.j 0 Nil Star Box IsSort.box j_2)

pub returns-clause-ctx : goal.returns-clause-ctx
returns-clause-ctx c =
    let items = c.args.bank.now in
    let k0 = known_of items c.args.deriv.now in
    let empty = empty_known items c.args.deriv.now c.empty-empty.result c.empty-empty.ensures in
    let k1 = known_of items c.extend.new.self in
    let ctx_1 = extended_known items k0 k1 c.empty-empty.result c.in_ok-ctx.ctx c.args.terms.star Nil Star empty c.requires.star c.in_ok-ctx.ensures.number in
    let k2 = known_of items c.emit.new.self in
    let ctx_2 = knows_context_later k1 k2 c.in_ok-ctx.ctx _ c.emit.ensures.adds ctx_1 in
    let k3 = known_of items c.emit-2.new.self in
    let ctx_3 = knows_context_later k2 k3 c.in_ok-ctx.ctx _ c.emit-2.ensures.adds ctx_2 in
    ctx_3

pub returns-clause-sort : goal.returns-clause-sort
returns-clause-sort c =
    let items = c.args.bank.now in
    let k0 = known_of items c.args.deriv.now in
    let empty = empty_known items c.args.deriv.now c.empty-empty.result c.empty-empty.ensures in
    let k1 = known_of items c.extend.new.self in
    let ctx_1 = extended_known items k0 k1 c.empty-empty.result c.in_ok-ctx.ctx c.args.terms.star Nil Star empty c.requires.star c.in_ok-ctx.ensures.number in
    let says1 = says_at items k1 0 c.in_ok-ctx.ctx c.args.terms.star c.args.terms.box_sort one_type Star Box (omega arith) ctx_1 c.requires.star c.requires.box_sort in
    let k2 = known_of items c.emit.new.self in
    let sort_2 = knows_said items k1 k2 _ (judged 0 one_type Star Box) c.in_ok-sort.sort says1 c.in_ok-sort.ensures.number in
    let k3 = known_of items c.emit-2.new.self in
    let sort_3 = knows_later k2 k3 c.in_ok-sort.sort _ c.emit-2.ensures.adds sort_2 in
    sort_3

pub returns-clause-typed : goal.returns-clause-typed
returns-clause-typed c =
    let items = c.args.bank.now in
    let k0 = known_of items c.args.deriv.now in
    let empty = empty_known items c.args.deriv.now c.empty-empty.result c.empty-empty.ensures in
    let k1 = known_of items c.extend.new.self in
    let ctx_1 = extended_known items k0 k1 c.empty-empty.result c.in_ok-ctx.ctx c.args.terms.star Nil Star empty c.requires.star c.in_ok-ctx.ensures.number in
    let k2 = known_of items c.emit.new.self in
    let ctx_2 = knows_context_later k1 k2 c.in_ok-ctx.ctx _ c.emit.ensures.adds ctx_1 in
    let says2 = says_at items k2 0 c.in_ok-ctx.ctx c.args.terms.first c.args.terms.star one_type (Var 0) Star (omega arith) ctx_2 c.requires.first c.requires.star in
    let k3 = known_of items c.emit-2.new.self in
    let typed_3 = knows_said items k2 k3 _ (judged 0 one_type (Var 0) Star) c.in_ok-typed.typed says2 c.in_ok-typed.ensures.number in
    typed_3
