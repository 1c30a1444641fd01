use Rattle.std.proofs.Common.{◌++◌, ◌∷◌, sym, ap, ◌∙◌}
use Rattle.dr_text.specs.Read.{numbers_in}
use Rattle.dr_text.proofs.Placing.{spelled_rest, first_left, none_left}
use Rattle.dr_text.proofs.rec.Numbers.next.Goals as goal

pub invariant_of-self : goal.invariant_of-self
invariant_of-self c =
    (spelled_rest c.self.inside.before.now c.in-Some.rest.now c.in-Some.n c.self.invariant.0 (c.in-Some.ensures {u = tt}).number, c.self.invariant.1)

pub returns-in-Some : goal.returns-in-Some
returns-in-Some c =
    sym c.self.view_is ∙ ap (λ x. x ++ numbers_in c.self.inside.behind.now) (first_left c.self.inside.before.now c.in-Some.rest.now c.in-Some.n (c.in-Some.ensures {u = tt}).number)

pub returns-in_default-read_number : goal.returns-in_default-read_number
returns-in_default-read_number c =
    let none = sym c.self.view_is
    ∙ ap (λ x. x ++ numbers_in c.self.inside.behind.now) (none_left c.self.inside.before.now c.self.invariant.0 (c.in_default.ensures {u = tt}).number)
    ∙ none_left c.self.inside.behind.now c.self.invariant.1 (c.in_default-read_number.ensures {u = tt}).number in
    (none, none)

pub invariant_of-self-2 : goal.invariant_of-self-2
invariant_of-self-2 c =
    (c.self.invariant.0, spelled_rest c.self.inside.behind.now c.in-Some-read_number.rest.now c.in-Some-read_number.n c.self.invariant.1 (c.in-Some-read_number.ensures {u = tt}).number)

pub returns : goal.returns
returns c =
    let none = none_left c.self.inside.before.now c.self.invariant.0 (c.in_default.ensures {u = tt}).number in
    sym c.self.view_is ∙ ap (λ x. x ++ numbers_in c.self.inside.behind.now) none
    ∙ first_left c.self.inside.behind.now c.in-Some-read_number.rest.now c.in-Some-read_number.n (c.in-Some-read_number.ensures {u = tt}).number
    ∙ ap (λ x. c.in-Some-read_number.n ∷ (x ++ numbers_in c.in-Some-read_number.rest.now)) (sym none)
