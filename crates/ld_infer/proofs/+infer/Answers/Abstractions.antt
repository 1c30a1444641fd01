-- The type of an abstraction.
use Rattle.std.proofs.Common.{◌≡◌, ℕ, Some, Result, Err, ap, sym, ◌∙◌, subst}
use Rattle.std.proofs.lemmas.Result.{err_from_is_err_and}
use Rattle.ld_terms.specs.Tree.{Tree, Trees, Pi, ◌▸◌}
use Rattle.ld_terms.specs.Item.{tree}
use Rattle.ld_terms.specs.Bank.{tree_at}
use Rattle.ld_infer.specs.declared.failure.InferFault.{InferFault}
use Rattle.ld_infer.specs.declared.inference.Typed.{Typed}
use Rattle.ld_infer.specs.Account.{Account}
use Rattle.ld_infer.specs.Reading.{part_reading, abstraction_reading, body_reading}
use Rattle.ld_infer.specs.Standing.{env, account, Continues, KnowsPairs}
use Rattle.ld_infer.specs.Infers.{Infers, IsTyped, IsBodyTyped, Stops}
use Rattle.ld_infer.proofs.Going.{◌⨟◌, continues_around}
use Rattle.ld_infer.proofs.Sorts.{at_err}
use Rattle.ld_infer.proofs.Binding.{abstraction_stops_domain}
use Rattle.ld_infer.proofs.Inferring.{held_term, held_small}
use Rattle.ld_infer.proofs.Around.{IsAround, inner_account, outer_account, told_outside, body_stopped, abstraction_high, abstraction_typed, abstraction_follows, outer_tree, inner_context, sort_outside, between}
use Rattle.ld_infer.proofs.Pairs.{account_entered, pairs_later, pairs_left}
use Rattle.ld_infer.proofs.+infer.Goals as goal

-- the body is read in turn behind the domain
body_read : (t : ℕ) (c : goal.inference::abstraction-In_ok-body t) (ctx : Trees) (y : Tree) → c.enter.new.self.context ≡ ctx ▸ y
    → IsBodyTyped c.enter.new.self c.body_type-body.new.theory (body_reading (env c.enter.new.self) (part_reading c.args.nest (env c.enter.new.self)) ctx y (tree_at c.enter.new.self.items c.args.m)) c.args.m
    (account c.domain_sort.new.theory c.domain_sort.new.job) (account c.body_type-body.new.theory c.body_type-body.new.job) c.in_ok-body.body
body_read t c ctx y inner =
    let i = c.enter.new.self in
    let e = c.body_type-body.new.theory in
    let P : Account → Type 0 = λ w. IsBodyTyped i e (body_reading (env i) (part_reading c.args.nest (env i)) ctx y (tree_at i.items c.args.m)) c.args.m w (account e c.body_type-body.new.job) c.in_ok-body.body in
    subst P (account_entered c.domain_sort.new.theory i _ c.domain_sort.new.job c.in_ok-enter.ensures.ok c.domain_sort.ensures.pairs) (c.in_ok-body.ensures.answer ctx y inner)

pub abstraction-in_err-domain-answer : goal.inference::abstraction-returns-in_err-domain-clause-answer
abstraction-in_err-domain-answer t c =
    let a = c.args.theory.now in
    let before = account a c.args.job.now in
    let b = c.domain_sort.new.theory in
    let x = tree_at a.items c.args.a in
    let m = tree_at a.items c.args.m in
    at_err (Infers a b (abstraction_reading (env a) (part_reading c.args.nest (env a)) a.context x m) c.args.t before (account c.domain_sort.new.theory c.domain_sort.new.job)) c.from_residual.result c.in_err-domain.field-0.0 c.from_residual.ensures.1
    (abstraction_stops_domain (env a) (part_reading c.args.nest (env a)) a.context b.items x m c.in_err-domain.field-0.0 before (account c.domain_sort.new.theory c.domain_sort.new.job) c.in_err-domain.ensures.answer)

pub abstraction-in_err-body-answer : goal.inference::abstraction-returns-in_err-body-clause-answer
abstraction-in_err-body-answer t c =
    let a = c.args.theory.now in
    let before = account a c.args.job.now in
    let b = c.domain_sort.new.theory in
    let i = c.enter.new.self in
    let e = c.body_type-body.new.theory in
    let d = c.leave.new.self in
    let x = c.args.a in
    let one = c.domain_sort.new.job in
    let two = c.body_type-body.new.job in
    let h : IsAround a b i e d x = between c.domain_sort.ensures.continues c.in_ok-enter.ensures.ok c.body_type-body.ensures.continues c.leave.ensures in
    let task = abstraction_reading (env a) (part_reading c.args.nest (env a)) a.context (tree_at a.items x) (tree_at a.items c.args.m) in
    let same = inner_account a b i e d x h c.requires.parts.0 one c.domain_sort.ensures.pairs in
    let f = c.in_err-body.field-0.0 in
    let Body : Account → Type 0 = λ w. (ctx : Trees) (y : Tree) → i.context ≡ ctx ▸ y → Stops e.items (body_reading (env i) (part_reading c.args.nest (env i)) ctx y (tree_at i.items c.args.m)) f w (account e two) in
    let Whole : Account → Type 0 = λ w. Stops d.items task f before w in
    at_err (Infers a d task c.args.t before (account d two)) c.from_residual-in_err-body.result f c.from_residual-in_err-body.ensures.1
    (subst Whole (sym (outer_account a b i e d x h c.requires.parts.0 two))
    (body_stopped a b i e d x h c.requires.parts.0 c.args.nest c.args.m c.in_ok-domain.domain f before (account b one) (account e two) c.requires.parts.1
    c.in_ok-domain.ensures.answer (subst Body same c.in_err-body.ensures.answer)))

pub abstraction-in_err-of-answer : goal.inference::abstraction-returns-in_err-of-clause-answer
abstraction-in_err-of-answer t c =
    let a = c.args.theory.now in
    let before = account a c.args.job.now in
    let b = c.domain_sort.new.theory in
    let i = c.enter.new.self in
    let e = c.body_type-body.new.theory in
    let d = c.leave.new.self in
    let x = c.args.a in
    let one = c.domain_sort.new.job in
    let two = c.body_type-body.new.job in
    let h : IsAround a b i e d x = between c.domain_sort.ensures.continues c.in_ok-enter.ensures.ok c.body_type-body.ensures.continues c.leave.ensures in
    let task = abstraction_reading (env a) (part_reading c.args.nest (env a)) a.context (tree_at a.items x) (tree_at a.items c.args.m) in
    let g = c.add.new.self in
    let r = c.in_ok-body.body in
    let p = err_from_is_err_and c.from_residual-in_err-of.result c.from_residual-in_err-of.ensures.1 in
    let f = c.in_err-of.field-0.0 in
    let P : Result Typed InferFault → Type 0 = λ q. Infers a g task c.args.t before (account g two) q in
    subst P (sym p.1)
    (told_outside a b i e d x h c.requires.parts.0 g two (λ w. Stops g.items task p.0 before w) c.add.ensures.continues c.body_type-body.ensures.pairs
    (abstraction_high a b i e d x h c.requires.parts.0 g c.args.nest c.args.m c.in_ok-domain.domain r f p.0 before (account b one) (account e two)
    c.requires.parts.1 c.in_ok-domain.ensures.answer (body_read t (goal.at.inference::abstraction-returns-in_err-of-clause-answer t c).In_ok-body) (λ q. c.in_err-of.ensures.high.0 (ap Err q)) p.2))

pub abstraction-conclude-requires-2-follows : goal.inference::abstraction-conclude-requires-2-clause-follows
abstraction-conclude-requires-2-follows t c =
    let a = c.args.theory.now in
    let b = c.domain_sort.new.theory in
    let e = c.body_type-body.new.theory in
    let d = c.leave.new.self in
    let g = c.add.new.self in
    let h : IsAround a b c.enter.new.self e c.leave.new.self c.args.a = between c.domain_sort.ensures.continues c.in_ok-enter.ensures.ok c.body_type-body.ensures.continues c.leave.ensures in
    let of = c.in_ok-of.of in
    let r = c.in_ok-body.body in
    let made = c.in_ok-of.ensures.tree in
    let body = c.in_ok-body.ensures.answer _ _ (inner_context a b c.enter.new.self e d c.args.a h c.requires.parts.0) in
    abstraction_follows a b c.enter.new.self e d c.args.a h c.requires.parts.0 g c.conclude.new.self c.args.t c.args.m of r.judge c.in_ok-formed.formed (tree_at e.items r.of) (tree_at g.items r.sort.0)
    c.requires.term.0 c.requires.parts.1 c.requires.is c.add.ensures.continues c.conclude.ensures.continues (held_term g.items of _ made)
    (ap tree made.item ∙ ap (Pi (tree_at d.items c.args.a)) (outer_tree a b c.enter.new.self e d c.args.a h c.requires.parts.0 r.of))
    (sort_outside a b c.enter.new.self e d c.args.a h c.requires.parts.0 g r.sort.0 c.add.ensures.continues body.sorted.term body.sorted.sort) body.judged c.in_ok-formed.ensures.number

pub abstraction-continues : (t : ℕ) (c : goal.inference::abstraction-After-conclude-2 t) → Continues c.args.theory.now c.conclude-2.new.self
abstraction-continues t c = c.domain_sort.ensures.continues ⨟ continues_around _ _ _ _ _ c.in_ok-enter.ensures.ok c.body_type-body.ensures.continues c.leave.ensures ⨟ c.add.ensures.continues ⨟ c.conclude.ensures.continues ⨟ c.conclude-2.ensures.continues

pub abstraction-answer : goal.inference::abstraction-returns-clause-answer
abstraction-answer t c =
    let a = c.args.theory.now in
    let before = account a c.args.job.now in
    let b = c.domain_sort.new.theory in
    let i = c.enter.new.self in
    let e = c.body_type-body.new.theory in
    let d = c.leave.new.self in
    let x = c.args.a in
    let one = c.domain_sort.new.job in
    let two = c.body_type-body.new.job in
    let h : IsAround a b i e d x = between c.domain_sort.ensures.continues c.in_ok-enter.ensures.ok c.body_type-body.ensures.continues c.leave.ensures in
    let task = abstraction_reading (env a) (part_reading c.args.nest (env a)) a.context (tree_at a.items x) (tree_at a.items c.args.m) in
    let g = c.add.new.self in
    let k = c.conclude.new.self in
    let z = c.conclude-2.new.self in
    let of = c.in_ok-of.of in
    let r = c.in_ok-body.body in
    let made = c.in_ok-of.ensures.tree in
    let body = c.in_ok-body.ensures.answer _ _ (inner_context a b i e d x h c.requires.parts.0) in
    told_outside a b i e d x h c.requires.parts.0 z two (λ w. IsTyped a z task c.args.t before w (record { of = of; judge = c.in_ok-judge.judge; of_judge = Some c.in_ok-formed.formed }))
    (c.add.ensures.continues ⨟ c.conclude.ensures.continues ⨟ c.conclude-2.ensures.continues) c.body_type-body.ensures.pairs
    (abstraction_typed a b i e d x h c.requires.parts.0 g k z c.args.nest c.args.t c.args.m c.in_ok-domain.domain r of c.in_ok-judge.judge c.in_ok-formed.formed
    before (account b one) (account e two) c.requires.term.0 c.requires.parts.1 c.in_ok-domain.ensures.answer (body_read t (goal.at.inference::abstraction-returns-clause-answer t c).In_ok-body) c.add.ensures.continues c.conclude.ensures.continues
    c.conclude-2.ensures.continues (held_term g.items of _ made) (ap tree made.item) (held_small g.items of _ made c.in_ok-of.ensures.small)
    (sort_outside a b i e d x h c.requires.parts.0 g r.sort.0 c.add.ensures.continues body.sorted.term body.sorted.sort) c.in_ok-formed.ensures.number c.in_ok-judge.ensures.number)

pub abstraction-pairs : (t : ℕ) (c : goal.inference::abstraction-After-conclude-2 t) → KnowsPairs c.conclude-2.new.self c.body_type-body.new.job.known
abstraction-pairs t c = pairs_later c.leave.new.self c.conclude-2.new.self c.body_type-body.new.job.known (c.add.ensures.continues ⨟ c.conclude.ensures.continues ⨟ c.conclude-2.ensures.continues) (pairs_left _ _ _ c.leave.ensures c.body_type-body.ensures.pairs)
