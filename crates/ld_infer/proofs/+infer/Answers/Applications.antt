-- The type of an application.
use Rattle.std.proofs.Common.{◌+◌, ℕ, None, Result, Err, ap, sym, subst, arith}
use Rattle.std.proofs.lemmas.Result.{err_from_is_err_and}
use Rattle.ld_terms.specs.Tree.{count}
use Rattle.ld_terms.specs.Item.{tree}
use Rattle.ld_terms.specs.Named.{IsWellFormed}
use Rattle.ld_terms.specs.Bank.{tree_at}
use Rattle.ld_infer.specs.declared.failure.InferFault.{InferFault}
use Rattle.ld_infer.specs.declared.inference.Typed.{Typed}
use Rattle.ld_convert.specs.Compares.{Compares}
use Rattle.ld_infer.specs.Reading.{part_reading, application_reading}
use Rattle.ld_infer.specs.Standing.{env, account, Continues}
use Rattle.ld_infer.specs.Infers.{Infers, IsTyped, Stops}
use Rattle.ld_infer.proofs.Going.{readable_later, ◌⨟◌}
use Rattle.ld_infer.proofs.Sorts.{at_err}
use Rattle.ld_infer.proofs.Applying.{application_stops_function}
use Rattle.ld_infer.proofs.Inferring.{application_refused, application_high, application_typed, held_term, held_small, type_well_formed}
use Rattle.ld_infer.proofs.Pairs.{told_later}
use Rattle.ld_infer.proofs.+infer.Goals as goal

pub application-in_err-function-answer : goal.inference::application-returns-in_err-function-clause-answer
application-in_err-function-answer t c =
    let a = c.args.theory.now in
    let before = account a c.args.job.now in
    let b = c.function_type.new.theory in
    let f = tree_at a.items c.args.f in
    let u = tree_at a.items c.args.u in
    at_err (Infers a b (application_reading (env a) (Compares (env a) (c.args.nest + 1)) (part_reading c.args.nest (env a)) a.context f u) c.args.t before (account c.function_type.new.theory c.function_type.new.job)) c.from_residual.result c.in_err-function.field-0.0 c.from_residual.ensures.1
    (application_stops_function (env a) (Compares (env a) (c.args.nest + 1)) (part_reading c.args.nest (env a)) a.context b.items f u c.in_err-function.field-0.0 before (account c.function_type.new.theory c.function_type.new.job) c.in_err-function.ensures.answer)

pub application-argument_judgement-requires : goal.inference::application-argument_judgement-requires
application-argument_judgement-requires t c =
    let a = c.args.theory.now in
    let b = c.function_type.new.theory in
    let goes = c.function_type.ensures.continues in
    let h = c.in_ok-function.ensures.answer in
    let whole = subst (IsWellFormed (env a) (count a.context)) c.requires.is c.requires.term.1 in
    let formed = type_well_formed a b c.in_ok-function.function.judge (tree_at a.items c.args.f) _ goes c.keeps_well_formed.ensures h.judged in (
      omega arith,
      (
        readable_later a b c.args.u goes (c.requires.parts.1, record { named = whole.named.1; scoped = whole.scoped.1 }),
        ((h.domain, record { named = formed.named.0; scoped = formed.scoped.0 }), (c.requires.nest, (omega (arith, c.requires.room, ap count goes.context), c.function_type.ensures.pairs))),
      ),
    )

pub application-in_err-argument-answer : goal.inference::application-returns-in_err-argument-clause-answer
application-in_err-argument-answer t c =
    let a = c.args.theory.now in
    let before = account a c.args.job.now in
    let b = c.argument_judgement.new.theory in
    at_err (Infers a b (application_reading (env a) (Compares (env a) (c.args.nest + 1)) (part_reading c.args.nest (env a)) a.context (tree_at a.items c.args.f) (tree_at a.items c.args.u)) c.args.t before (account c.argument_judgement.new.theory c.argument_judgement.new.job)) c.from_residual-in_err-argument.result c.in_err-argument.field-0.0 c.from_residual-in_err-argument.ensures.1
    (application_refused a c.function_type.new.theory b c.args.nest c.args.f c.args.u c.in_ok-function.function c.in_err-argument.field-0.0 before (account c.function_type.new.theory c.function_type.new.job) (account c.argument_judgement.new.theory c.argument_judgement.new.job)
    c.function_type.ensures.continues c.requires.parts.1 c.in_ok-function.ensures.answer c.in_err-argument.ensures.answer)

pub application-in_err-of-answer : goal.inference::application-returns-in_err-of-clause-answer
application-in_err-of-answer t c =
    let a = c.args.theory.now in
    let before = account a c.args.job.now in
    let e = c.argument_judgement.new.theory in
    let d = c.instantiate.new.self in
    let job = c.argument_judgement.new.job in
    let p = err_from_is_err_and c.from_residual-in_err-of.result c.from_residual-in_err-of.ensures.1 in
    let y = c.in_err-of.field-0.0 in
    let task = application_reading (env a) (Compares (env a) (c.args.nest + 1)) (part_reading c.args.nest (env a)) a.context (tree_at a.items c.args.f) (tree_at a.items c.args.u) in
    let P : Result Typed InferFault → Type 0 = λ r. Infers a d task c.args.t before (account d job) r in
    subst P (sym p.1)
    (told_later e d job (λ w. Stops d.items task p.0 before w) c.instantiate.ensures.continues c.argument_judgement.ensures.pairs
    (application_high a c.function_type.new.theory e d c.args.nest c.args.f c.args.u c.in_ok-function.function c.in_ok-argument.argument y p.0 before (account c.function_type.new.theory c.function_type.new.job)
    (account e job) c.function_type.ensures.continues c.argument_judgement.ensures.continues c.requires.parts.1 c.in_ok-function.ensures.answer c.in_ok-argument.ensures.answer
    (λ q. c.in_err-of.ensures.high (ap Err q)) p.2))

pub application-continues : (t : ℕ) (c : goal.inference::application-After-conclude t) → Continues c.args.theory.now c.conclude.new.self
application-continues t c = c.function_type.ensures.continues ⨟ c.argument_judgement.ensures.continues ⨟ c.instantiate.ensures.continues ⨟ c.conclude.ensures.continues

pub application-answer : goal.inference::application-returns-clause-answer
application-answer t c =
    let a = c.args.theory.now in
    let before = account a c.args.job.now in
    let e = c.argument_judgement.new.theory in
    let d = c.instantiate.new.self in
    let z = c.conclude.new.self in
    let job = c.argument_judgement.new.job in
    let of = c.in_ok-of.of in
    let made = c.in_ok-of.ensures.tree in
    told_later e z job
    (λ w. IsTyped a z (application_reading (env a) (Compares (env a) (c.args.nest + 1)) (part_reading c.args.nest (env a)) a.context (tree_at a.items c.args.f) (tree_at a.items c.args.u)) c.args.t before w
    (record { of = of; judge = c.in_ok-judge.judge; of_judge = None })) (c.instantiate.ensures.continues ⨟ c.conclude.ensures.continues) c.argument_judgement.ensures.pairs
    (application_typed a c.function_type.new.theory e d z c.args.nest c.args.t c.args.f c.args.u c.in_ok-function.function c.in_ok-argument.argument of
    c.in_ok-judge.judge before (account c.function_type.new.theory c.function_type.new.job) (account e job) c.function_type.ensures.continues c.argument_judgement.ensures.continues
    c.instantiate.ensures.continues c.conclude.ensures.continues c.requires.term.0 c.requires.parts.1 c.in_ok-function.ensures.answer c.in_ok-argument.ensures.answer (held_term d.items of _ made) (ap tree made.item)
    (held_small d.items of _ made c.in_ok-of.ensures.small) c.in_ok-judge.ensures.number)
