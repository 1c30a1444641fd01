use Rattle.std.proofs.Common.{arith, sym, subst, drop, ◌∙◌, ◌≡◌, [], ◌∷◌, ℕ, List, MatchOption}
use Rattle.dr_text.proofs.Placing.{get_later, drop_more, get_dropped}
use Rattle.dr_text.proofs.rec.Rec.number.Goals as goal

pub returns-in_default : goal.returns-in_default
returns-in_default c =
    sym (get_later c.args.self.now.numbers c.loop-place._place c.args.i (c.loop-place.invariant ∙ (c.in_default.ensures {u = tt}).0) (omega (arith, c.loop-place-test.true)))

pub loop-place-preserved : goal.loop-place-preserved
loop-place-preserved c =
    drop_more c.args.self.now.numbers c.loop-place._place c.in-Some.field-0 c.next.new.self (c.loop-place.invariant ∙ c.in-Some.ensures {u = tt})

pub returns : goal.returns
returns c =
    let all : c.loop-place._place ≡ c.args.i = omega (arith, c.loop-place-test.false, c.loop-place.auto._place-end) in
    let here : drop c.args.i c.args.self.now.numbers ≡ c.loop-place.numbers = subst (λ i. drop i c.args.self.now.numbers ≡ c.loop-place.numbers) all c.loop-place.invariant in
    let M : List ℕ → Type 0 = λ xs. MatchOption c.next-2.result ((xs ≡ []) × (c.next-2.new.self ≡ [])) (λ n. xs ≡ n ∷ c.next-2.new.self) in
    get_dropped c.args.self.now.numbers c.args.i c.next-2.result c.next-2.new.self (subst M (sym here) c.next-2.ensures)
