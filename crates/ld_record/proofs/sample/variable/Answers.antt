use Rattle.std.proofs.Common.{ap, ◌∙◌, arith}
use Rattle.ld_terms.specs.Tree.{Star, Var, Const, Nil, ◌▸◌}
use Rattle.ld_terms.specs.Derivable.{IsSort}
use Rattle.ld_terms.specs.Known.{Judgement}
use Rattle.ld_record.specs.declared.record.Step.TheVariants as step
use Rattle.ld_record.specs.Kept.{known_of}
use Rattle.ld_record.specs.Tests.{judged}
use Rattle.ld_record.proofs.CallerLemmas.{node_fits}
use Rattle.ld_record.proofs.Following.{by_var, says_at, number_said}
use Rattle.ld_record.proofs.sample.variable.Goals as goal

pub emit-requires-clause-fits : goal.emit-requires-clause-fits
emit-requires-clause-fits c =
    let items = c.args.bank.now in
    let k0 = known_of items c.args.deriv.now in
    let says = says_at items k0 1 c.judge.result.ctx c.args.x c.args.a (Nil ▸ Const 0 Nil) (Var 0) (Const 0 Nil) (omega (arith, c.requires.there))
    (record { live = c.judge.ensures.numbers.context; is = ap (λ (q : Judgement). q.context) (c.judge.ensures.is ∙ c.requires.weakened.is) }) c.requires.x c.requires.a in
    node_fits items k0 _ (judged 1 (Nil ▸ Const 0 Nil) (Var 0) (Const 0 Nil)) (step.Var c.args.j) says (by_var k0 c.args.j 1 Nil (Const 0 Nil) Star IsSort.star c.requires.typed)

pub judge-requires-clause-sound : goal.judge-requires-clause-sound
judge-requires-clause-sound c = c.requires.sound

pub judge-requires-clause-live : goal.judge-requires-clause-live
judge-requires-clause-live c = c.requires.weakened.live

pub emit-requires-clause-sound : goal.emit-requires-clause-sound
emit-requires-clause-sound c = c.requires.sound

pub returns-clause-number : goal.returns-clause-number
returns-clause-number c =
    let items = c.args.bank.now in
    let k0 = known_of items c.args.deriv.now in
    let says = says_at items k0 1 c.judge.result.ctx c.args.x c.args.a (Nil ▸ Const 0 Nil) (Var 0) (Const 0 Nil) (omega (arith, c.requires.there))
    (record { live = c.judge.ensures.numbers.context; is = ap (λ (q : Judgement). q.context) (c.judge.ensures.is ∙ c.requires.weakened.is) }) c.requires.x c.requires.a in
    number_said items k0 (known_of items c.emit.new.self) _ _ c.emit.result says c.emit.ensures.number

pub returns-clause-adds : goal.returns-clause-adds
returns-clause-adds c = c.emit.ensures.adds

pub returns-clause-sound : goal.returns-clause-sound
returns-clause-sound c = c.emit.ensures.sound
