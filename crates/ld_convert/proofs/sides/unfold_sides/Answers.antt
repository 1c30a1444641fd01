use Rattle.std.proofs.Common.{rules, ◌≡◌, ◌∙◌, sym, subst, length, Err, Result}
use Rattle.ld_terms.specs.Bank.{tree_at}
use Rattle.ld_env.proofs.CallerLemmas.{env_of-later, live-later}
use Rattle.ld_record.specs.Kept.{known_of}
use Rattle.ld_reduce.specs.declared.stop.Stop.{Stop}
use Rattle.ld_reduce.proofs.Going.{goes_trans}
use Rattle.ld_convert.specs.Sides.{IsReached, UnfoldsAs}
use Rattle.ld_convert.specs.declared.turning.Led.{Led}
use Rattle.ld_reduce.specs.Cost.{Stops}
use Rattle.ld_convert.proofs.Unfoldings.{unfolding_stops, right_here, right_side_stops, both_done, fewer_left}
use Rattle.ld_convert.proofs.sides.unfold_sides.Goals as goal

pub returns-in_err-left-clause-answer : goal.returns-in_err-left-clause-answer
returns-in_err-left-clause-answer c = λ K.
    let items = c.args.bank.now in
    let env = (known_of items c.args.deriv.now).env in
    let later = c.unfold_if.new.bank in
    let s = c.args.sides in
    let a = tree_at items c.args.ends.0 in
    let b = tree_at items c.args.ends.1 in
    let old = c.args.budget.now in
    let new = c.unfold_if.new.budget in
    let is : Err c.in_err-left.field-0.0 ≡ c.from_residual.result = search rules in
    let P : Result Led Stop → Type 0 = λ r. UnfoldsAs env s a b (length env) later (known_of later c.unfold_if.new.deriv) K old new r in
    subst P is (unfolding_stops env s a b K old new c.in_err-left.field-0.0 c.in_err-left.ensures.answer)

pub unfold_if-requires-2-clause-env : goal.unfold_if-requires-2-clause-env
unfold_if-requires-2-clause-env c =
    env_of-later c.args.bank.now c.unfold_if.new.bank c.args.env.now c.unfold_if.ensures.goes.extends c.requires.live ∙ c.requires.env ∙ sym c.unfold_if.ensures.goes.adds.env

pub unfold_if-requires-2-clause-live : goal.unfold_if-requires-2-clause-live
unfold_if-requires-2-clause-live c = live-later c.args.bank.now c.unfold_if.new.bank c.args.env.now c.unfold_if.ensures.goes.extends c.requires.live

pub returns-in_err-right-clause-answer : goal.returns-in_err-right-clause-answer
returns-in_err-right-clause-answer c = λ K.
    let items = c.args.bank.now in
    let mid = c.unfold_if.new.bank in
    let env = (known_of items c.args.deriv.now).env in
    let later = c.unfold_if-2.new.bank in
    let s = c.args.sides in
    let a = tree_at items c.args.ends.0 in
    let b = tree_at items c.args.ends.1 in
    let half = c.unfold_if.new.budget in
    let new = c.unfold_if-2.new.budget in
    let is : Err c.in_err-right.field-0.0 ≡ c.from_residual-in_err-right.result = search rules in
    let P : Result Led Stop → Type 0 = λ r. UnfoldsAs env s a b (length env) later (known_of later c.unfold_if-2.new.deriv) K c.args.budget.now new r in
    let h = right_here items mid c.args.deriv.now c.unfold_if.new.deriv c.args.ends.1 s.right (λ way t bound. Stops way c.in_err-right.field-0.0 half new)
    c.unfold_if.ensures.goes c.requires.terms.second c.in_err-right.ensures.answer in
    subst P is (right_side_stops env s a b (tree_at mid c.in_ok-left.left) K c.args.budget.now half new c.in_err-right.field-0.0 c.in_ok-left.ensures.answer.comes h)

pub returns-in_err-right-clause-goes : goal.returns-in_err-right-clause-goes
returns-in_err-right-clause-goes c = goes_trans _ _ _ _ _ _ c.unfold_if.ensures.goes c.unfold_if-2.ensures.goes

pub returns-clause-answer : goal.returns-clause-answer
returns-clause-answer c = λ K.
    let items = c.args.bank.now in
    let mid = c.unfold_if.new.bank in
    let env = (known_of items c.args.deriv.now).env in
    let later = c.unfold_if-2.new.bank in
    let s = c.args.sides in
    let half = c.unfold_if.new.budget in
    let new = c.unfold_if-2.new.budget in
    let h = right_here items mid c.args.deriv.now c.unfold_if.new.deriv c.args.ends.1 s.right
    (λ way t bound. IsReached way t bound later (known_of later c.unfold_if-2.new.deriv) half new (c.in_ok-right.right, c.in_ok-right.second))
    c.unfold_if.ensures.goes c.requires.terms.second c.in_ok-right.ensures.answer in
    both_done env s (tree_at items c.args.ends.0) (tree_at items c.args.ends.1) (length env) mid later c.unfold_if.new.deriv c.unfold_if-2.new.deriv
    (c.in_ok-left.left, c.in_ok-left.first) (c.in_ok-right.right, c.in_ok-right.second) K c.args.budget.now half new c.unfold_if-2.ensures.goes c.in_ok-left.ensures.answer h

pub returns-clause-goes : goal.returns-clause-goes
returns-clause-goes c = goes_trans _ _ _ _ _ _ c.unfold_if.ensures.goes c.unfold_if-2.ensures.goes

pub returns-clause-less : goal.returns-clause-less
returns-clause-less c =
    let items = c.args.bank.now in
    let mid = c.unfold_if.new.bank in
    let s = c.args.sides in
    fewer_left s.left s.right (known_of items c.args.deriv.now).env (known_of mid c.unfold_if.new.deriv).env (tree_at items c.args.ends.0) (tree_at mid c.args.ends.1)
    (tree_at mid c.in_ok-left.left) (tree_at c.unfold_if-2.new.bank c.in_ok-right.right)
    c.args.budget.now c.unfold_if.new.budget c.unfold_if-2.new.budget c.requires.some c.in_ok-left.ensures.answer.comes c.in_ok-right.ensures.answer.comes
