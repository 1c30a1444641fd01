-- The type of a product.
use Rattle.std.proofs.Common.{◌+◌, ℕ, sym, subst}
use Rattle.ld_terms.specs.Bank.{tree_at}
use Rattle.ld_infer.specs.declared.failure.RuleName.TheVariants as rule
use Rattle.ld_infer.specs.Account.{Account}
use Rattle.ld_infer.specs.Reading.{SortOf, part_reading, product_reading}
use Rattle.ld_infer.specs.Standing.{env, account, Continues}
use Rattle.ld_infer.specs.Infers.{Infers, IsTyped, IsSorted, Stops}
use Rattle.ld_infer.proofs.Going.{◌⨟◌, continues_around}
use Rattle.ld_infer.proofs.Sorts.{at_err}
use Rattle.ld_infer.proofs.Binding.{product_stops_domain}
use Rattle.ld_infer.proofs.Around.{IsAround, inner_account, outer_account, told_outside, range_refused, product_typed, between}
use Rattle.ld_infer.proofs.+infer.Goals as goal

pub product-in_err-domain-answer : goal.inference::product-returns-in_err-domain-clause-answer
product-in_err-domain-answer t c =
    let a = c.args.theory.now in
    let before = account a c.args.job.now in
    let b = c.domain_sort.new.theory in
    let x = tree_at a.items c.args.a in
    let y = tree_at a.items c.args.b in
    at_err (Infers a b (product_reading (env a) (part_reading c.args.nest (env a)) a.context x y) c.args.t before (account c.domain_sort.new.theory c.domain_sort.new.job)) c.from_residual.result c.in_err-domain.field-0.0 c.from_residual.ensures.1
    (product_stops_domain (env a) (part_reading c.args.nest (env a)) a.context b.items x y c.in_err-domain.field-0.0 before (account c.domain_sort.new.theory c.domain_sort.new.job) c.in_err-domain.ensures.answer)

pub product-in-Err-answer : goal.inference::product-returns-in-Err-clause-answer
product-in-Err-answer t c =
    let a = c.args.theory.now in
    let before = account a c.args.job.now in
    let b = c.domain_sort.new.theory in
    let i = c.enter.new.self in
    let e = c.sort_of_part-range.new.theory in
    let d = c.leave.new.self in
    let x = c.args.a in
    let one = c.domain_sort.new.job in
    let two = c.sort_of_part-range.new.job in
    let h : IsAround a b i e d x = between c.domain_sort.ensures.continues c.in_ok-enter.ensures.ok c.sort_of_part-range.ensures.continues c.leave.ensures in
    let Ran : Account → Type 0 = λ w. Stops e.items (SortOf (env i) i.context (c.args.nest + 1) (rule.Form, 2) (tree_at i.items c.args.b)) c.in-Err.fault w (account e two) in
    let Whole : Account → Type 0 = λ w. Stops d.items (product_reading (env a) (part_reading c.args.nest (env a)) a.context (tree_at a.items x) (tree_at a.items c.args.b)) c.within.result before w in
    subst Whole (sym (outer_account a b i e d x h c.requires.parts.0 two))
    (range_refused a b i e d x h c.requires.parts.0 c.args.nest c.args.b c.in_ok-domain.domain c.in-Err.fault c.within.result before (account b one) (account e two)
    c.requires.parts.1 c.in_ok-domain.ensures.answer (subst Ran (inner_account a b i e d x h c.requires.parts.0 one c.domain_sort.ensures.pairs) c.in-Err.ensures.answer) c.within.ensures)

pub product-continues : (t : ℕ) (c : goal.inference::product-After-sort_of_sort t) → Continues c.args.theory.now c.sort_of_sort.new.theory
product-continues t c = c.domain_sort.ensures.continues ⨟ continues_around _ _ _ _ _ c.in_ok-enter.ensures.ok c.sort_of_part-range.ensures.continues c.leave.ensures ⨟ c.conclude.ensures.continues ⨟ c.sort_of_sort.ensures.continues

pub product-answer : goal.inference::product-returns-clause-answer
product-answer t c =
    let a = c.args.theory.now in
    let before = account a c.args.job.now in
    let b = c.domain_sort.new.theory in
    let i = c.enter.new.self in
    let e = c.sort_of_part-range.new.theory in
    let d = c.leave.new.self in
    let z = c.sort_of_sort.new.theory in
    let x = c.args.a in
    let one = c.domain_sort.new.job in
    let two = c.sort_of_part-range.new.job in
    let h : IsAround a b i e d x = between c.domain_sort.ensures.continues c.in_ok-enter.ensures.ok c.sort_of_part-range.ensures.continues c.leave.ensures in
    let Ran : Account → Type 0 = λ w. IsSorted i e (SortOf (env i) i.context (c.args.nest + 1) (rule.Form, 2) (tree_at i.items c.args.b)) c.args.b w (account e two) c.in-Ok.range in
    told_outside a b i e d x h c.requires.parts.0 z two
    (λ w. IsTyped a z (product_reading (env a) (part_reading c.args.nest (env a)) a.context (tree_at a.items x) (tree_at a.items c.args.b)) c.args.t before w
    (record { of = c.in-Ok.range.0; judge = c.in_ok-judge.judge; of_judge = c.in_ok-of_judge.of_judge }))
    (c.conclude.ensures.continues ⨟ c.sort_of_sort.ensures.continues) c.sort_of_part-range.ensures.pairs
    (product_typed a b i e d x h c.requires.parts.0 c.conclude.new.self z c.args.nest c.args.t c.args.b c.in_ok-domain.domain c.in-Ok.range c.in_ok-judge.judge
    c.in_ok-of_judge.of_judge before (account b one) (account e two) c.requires.term.0 c.requires.parts.1 c.in_ok-domain.ensures.answer
    (subst Ran (inner_account a b i e d x h c.requires.parts.0 one c.domain_sort.ensures.pairs) c.in-Ok.ensures.answer) c.conclude.ensures.continues
    c.sort_of_sort.ensures.continues c.in_ok-judge.ensures.number c.in_ok-of_judge.ensures.there c.in_ok-of_judge.ensures.sorted)
