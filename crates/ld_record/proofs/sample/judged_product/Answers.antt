use Rattle.std.proofs.Common.{length, ap, ◌∙◌}
use Rattle.ld_terms.specs.Tree.{Star, Const, Nil, ◌▸◌}
use Rattle.ld_terms.specs.Entry.{Env}
use Rattle.ld_record.specs.Follows.{entry_at}
use Rattle.ld_record.specs.Kept.{known_of}
use Rattle.ld_record.specs.Tests.{judged}
use Rattle.ld_record.proofs.Growing.{knows_later}
use Rattle.ld_record.proofs.sample.judged_product.Goals as goal

pub start-requires-clause-none : goal.start-requires-clause-none
start-requires-clause-none c = c.requires.none

pub start-requires-clause-star : goal.start-requires-clause-star
start-requires-clause-star c = c.requires.terms.star_is

pub start-requires-clause-box_sort : goal.start-requires-clause-box_sort
start-requires-clause-box_sort c = c.requires.terms.box_is

pub primitive-requires-clause-sound : goal.primitive-requires-clause-sound
primitive-requires-clause-sound c = c.start.ensures.sound

pub primitive-requires-clause-known : goal.primitive-requires-clause-known
primitive-requires-clause-known c = c.in_ok-first.ensures.known

pub primitive-requires-clause-number : goal.primitive-requires-clause-number
primitive-requires-clause-number c = c.in_ok-first.ensures.number

pub primitive-requires-clause-some : goal.primitive-requires-clause-some
primitive-requires-clause-some c = c.requires.some

pub primitive-requires-clause-short : goal.primitive-requires-clause-short
primitive-requires-clause-short c = c.requires.short

pub typed-requires-clause-sound : goal.typed-requires-clause-sound
typed-requires-clause-sound c = c.primitive.ensures.sound

pub typed-requires-clause-there : goal.typed-requires-clause-there
typed-requires-clause-there c = ap length c.in_ok-over.ensures.env

pub typed-requires-clause-params : goal.typed-requires-clause-params
typed-requires-clause-params c = ap (λ (e : Env). (entry_at e 0).params) c.in_ok-over.ensures.env

pub typed-requires-clause-body : goal.typed-requires-clause-body
typed-requires-clause-body c = ap (λ (e : Env). (entry_at e 0).body) c.in_ok-over.ensures.env

pub typed-requires-clause-of : goal.typed-requires-clause-of
typed-requires-clause-of c = ap (λ (e : Env). (entry_at e 0).type) c.in_ok-over.ensures.env

pub typed-requires-clause-a : goal.typed-requires-clause-a
typed-requires-clause-a c = c.requires.terms.a_is

pub typed-requires-clause-star : goal.typed-requires-clause-star
typed-requires-clause-star c = c.requires.terms.star_is

pub typed-requires-clause-over : goal.typed-requires-clause-over
typed-requires-clause-over c = c.in_ok-over.ensures.number

pub weakened-requires-clause-sound : goal.weakened-requires-clause-sound
weakened-requires-clause-sound c = c.typed.ensures.sound

pub weakened-requires-clause-there : goal.weakened-requires-clause-there
weakened-requires-clause-there c = ap length (c.typed.ensures.adds.env ∙ c.in_ok-over.ensures.env)

pub weakened-requires-clause-a : goal.weakened-requires-clause-a
weakened-requires-clause-a c = c.requires.terms.a_is

pub weakened-requires-clause-star : goal.weakened-requires-clause-star
weakened-requires-clause-star c = c.requires.terms.star_is

pub weakened-requires-clause-typed : goal.weakened-requires-clause-typed
weakened-requires-clause-typed c = c.in_ok-type_of_a.ensures.number

pub formed-requires-clause-sound : goal.formed-requires-clause-sound
formed-requires-clause-sound c = c.weakened.ensures.sound

pub formed-requires-clause-there : goal.formed-requires-clause-there
formed-requires-clause-there c = ap length (c.weakened.ensures.adds.env ∙ c.typed.ensures.adds.env ∙ c.in_ok-over.ensures.env)

pub formed-requires-clause-product : goal.formed-requires-clause-product
formed-requires-clause-product c = c.requires.terms.product_is

pub formed-requires-clause-star : goal.formed-requires-clause-star
formed-requires-clause-star c = c.requires.terms.star_is

pub formed-requires-clause-typed : goal.formed-requires-clause-typed
formed-requires-clause-typed c =
    knows_later (known_of c.args.bank.now c.typed.new.deriv) (known_of c.args.bank.now c.weakened.new.deriv) c.in_ok-type_of_a.type_of_a (judged 1 Nil (Const 0 Nil) Star) c.weakened.ensures.adds c.in_ok-type_of_a.ensures.number

pub formed-requires-clause-weakened : goal.formed-requires-clause-weakened
formed-requires-clause-weakened c = c.in_ok-inner.ensures.number

pub returns-clause-sound : goal.returns-clause-sound
returns-clause-sound c = c.formed.ensures.sound

pub returns-clause-judged : goal.returns-clause-judged
returns-clause-judged c =
    let k2 = known_of c.args.bank.now c.typed.new.deriv in
    let k3 = known_of c.args.bank.now c.weakened.new.deriv in
    let k4 = known_of c.args.bank.now c.formed.new.deriv in
    let outer = judged 1 Nil (Const 0 Nil) Star in
    record {
      one = ap length (c.formed.ensures.adds.env ∙ c.weakened.ensures.adds.env ∙ c.typed.ensures.adds.env ∙ c.in_ok-over.ensures.env);
      typed_is = knows_later k3 k4 c.in_ok-type_of_a.type_of_a outer c.formed.ensures.adds
          (knows_later k2 k3 c.in_ok-type_of_a.type_of_a outer c.weakened.ensures.adds c.in_ok-type_of_a.ensures.number);
      inner_is = knows_later k3 k4 c.in_ok-inner.inner (judged 1 (Nil ▸ Const 0 Nil) (Const 0 Nil) Star) c.formed.ensures.adds c.in_ok-inner.ensures.number;
      formed_is = c.in_ok-formed.ensures.number;
    }
