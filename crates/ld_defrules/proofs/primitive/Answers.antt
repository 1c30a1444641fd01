use Rattle.std.proofs.Common.{ℕ, Contains}
use Rattle.std.proofs.lemmas.Result.{err_from_is_err_and}
use Rattle.ld_terms.specs.Bank.{tree_at}
use Rattle.ld_env.specs.Named.{names_of}
use Rattle.ld_infer.specs.declared.failure.RuleName.TheVariants.{DefPrim}
use Rattle.ld_infer.specs.Account.{Comes}
use Rattle.ld_infer.specs.Standing.{env, account, AddsEntry}
use Rattle.ld_infer.proofs.Pairs.{told_extended}
use Rattle.ld_reduce.specs.Task.{Gives, gives}
use Rattle.ld_defrules.specs.Judged.{type_judged, primitive_judged, primitive_of}
use Rattle.ld_defrules.proofs.Faults.{item_stops_first, judges_stop}
use Rattle.ld_defrules.proofs.Going.{adds_entry_after, same_primitive}
use Rattle.ld_defrules.proofs.Lines.{asked}
use Rattle.ld_defrules.proofs.Refused.{primitive_refused}
use Rattle.ld_defrules.proofs.primitive.Goals as goal

pub returns-in_err-judge-clause-judges : goal.returns-in_err-judge-clause-judges
returns-in_err-judge-clause-judges c =
    let p = err_from_is_err_and c.from_residual.result c.from_residual.ensures.1 in
    let old = c.args.theory.now in
    let new = c.type_sort.new.theory in
    let name = c.args.name.now in
    let fault = c.in_err-judge.field-0.0 in
    let of = tree_at old.items c.args.of in
    rw (p.1, p.2)
    (judges_stop ℕ new.items (primitive_judged (env old) old.context of) (Contains (names_of old.entries) name) (AddsEntry old new (primitive_of name old.context of)) fault _ _
    (item_stops_first new.items (type_judged (env old) old.context DefPrim of) (λ _. gives tt) fault _ _ c.in_err-judge.ensures.answer))

pub returns-in_err-judge-clause-refused : goal.returns-in_err-judge-clause-refused
returns-in_err-judge-clause-refused c =
    let p = err_from_is_err_and c.from_residual.result c.from_residual.ensures.1 in
    let old = c.args.theory.now in
    let new = c.type_sort.new.theory in
    let fault = c.in_err-judge.field-0.0 in
    let of = tree_at old.items c.args.of in
    rw (p.1, p.2)
    (primitive_refused (env old) old.context c.keeps_legal.ensures new.items (account old c.args.job.now) (account new c.type_sort.new.job) c.keeps_convertible.ensures ℕ of fault
    (item_stops_first new.items (type_judged (env old) old.context DefPrim of) (λ _. gives tt) fault _ _ c.in_err-judge.ensures.answer))

pub returns-in-Ok-clause-judges : goal.returns-in-Ok-clause-judges
returns-in-Ok-clause-judges c =
    let old = c.args.theory.now in
    let now = c.type_sort.new.theory in (
      told_extended now c.keep_primitive.new.self c.type_sort.new.job (λ w. Comes (primitive_judged (env old) old.context (tree_at old.items c.args.of)) (Gives tt) (account old c.args.job.now) w)
          c.keep_primitive.ensures.goes.items c.type_sort.ensures.pairs (asked _ _ _ _ c.in_ok-judge.ensures.answer.0.1),
      adds_entry_after old now _ _ _ c.type_sort.ensures.continues (same_primitive old now c.args.of c.args.name.now c.type_sort.ensures.continues c.requires.of.0) c.in-Ok.ensures.ok,
    )
