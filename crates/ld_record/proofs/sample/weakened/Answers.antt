use Rattle.std.proofs.Common.{length, ap, arith}
use Rattle.ld_terms.specs.Tree.{Star, Const, Nil, ◌▸◌}
use Rattle.ld_terms.specs.Derivable.{IsSort}
use Rattle.ld_record.specs.declared.record.Step.TheVariants.{Weak}
use Rattle.ld_record.specs.Kept.{known_of}
use Rattle.ld_record.specs.Tests.{judged}
use Rattle.ld_record.proofs.Growing.{knows_later}
use Rattle.ld_record.proofs.CallerLemmas.{node_fits, empty_known}
use Rattle.ld_record.proofs.Following.{by_weak, says_at, number_said, context_fits, extended_known}
use Rattle.ld_record.proofs.sample.weakened.Goals as goal

pub extend-requires-clause-fits : goal.extend-requires-clause-fits
extend-requires-clause-fits c =
    let items = c.args.bank.now in
    let empty = empty_known items c.args.deriv.now c.empty-empty.result c.empty-empty.ensures in
    context_fits items (known_of items c.args.deriv.now) c.empty-empty.result c.args.a Nil c.args.j (judged 1 Nil (Const 0 Nil) Star) empty c.requires.a c.requires.typed

pub emit-requires-clause-fits : goal.emit-requires-clause-fits
emit-requires-clause-fits c =
    let items = c.args.bank.now in
    let k0 = known_of items c.args.deriv.now in
    let empty = empty_known items c.args.deriv.now c.empty-empty.result c.empty-empty.ensures in
    let k1 = known_of items c.extend.new.self in
    let ctx_1 = extended_known items k0 k1 c.empty-empty.result c.in_ok-ctx.ctx c.args.a Nil (Const 0 Nil) empty c.requires.a c.in_ok-ctx.ensures.number in
    let says1 = says_at items k1 1 c.in_ok-ctx.ctx c.args.a c.args.star (Nil ▸ Const 0 Nil) (Const 0 Nil) Star (omega (arith, c.requires.there, ap length c.extend.ensures.adds.env)) ctx_1 c.requires.a c.requires.star in
    let j_1 = knows_later k0 k1 c.args.j _ c.extend.ensures.adds c.requires.typed in
    node_fits items k1 _ (judged 1 (Nil ▸ Const 0 Nil) (Const 0 Nil) Star) (Weak c.args.j c.args.j) says1
    (by_weak k1 c.args.j c.args.j 1 Nil (Const 0 Nil) Star (Const 0 Nil) Star IsSort.star j_1 j_1)

pub returns-clause-number : goal.returns-clause-number
returns-clause-number c =
    let items = c.args.bank.now in
    let k0 = known_of items c.args.deriv.now in
    let empty = empty_known items c.args.deriv.now c.empty-empty.result c.empty-empty.ensures in
    let k1 = known_of items c.extend.new.self in
    let ctx_1 = extended_known items k0 k1 c.empty-empty.result c.in_ok-ctx.ctx c.args.a Nil (Const 0 Nil) empty c.requires.a c.in_ok-ctx.ensures.number in
    let says1 = says_at items k1 1 c.in_ok-ctx.ctx c.args.a c.args.star (Nil ▸ Const 0 Nil) (Const 0 Nil) Star (omega (arith, c.requires.there, ap length c.extend.ensures.adds.env)) ctx_1 c.requires.a c.requires.star in
    number_said items k1 (known_of items c.emit.new.self) _ _ c.emit.result says1 c.emit.ensures.number
