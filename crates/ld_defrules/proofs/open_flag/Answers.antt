use Rattle.std.proofs.lemmas.Result.{err_from_is_err_and}
use Rattle.ld_terms.specs.Bank.{tree_at}
use Rattle.ld_infer.specs.declared.failure.RuleName.TheVariants.{Weak}
use Rattle.ld_infer.specs.Account.{Comes}
use Rattle.ld_infer.specs.Standing.{env, account, AddsFlag}
use Rattle.ld_infer.proofs.Pairs.{told_extended}
use Rattle.ld_reduce.specs.Task.{Gives, gives}
use Rattle.ld_defrules.specs.Judged.{type_judged, flag_judged}
use Rattle.ld_defrules.proofs.Faults.{item_stops_first, judges_stop}
use Rattle.ld_infer.proofs.Going.{continues_trans}
use Rattle.ld_defrules.proofs.Going.{adds_flag_after}
use Rattle.ld_defrules.proofs.Lines.{asked}
use Rattle.ld_defrules.proofs.Refused.{flag_refused}
use Rattle.ld_defrules.proofs.open_flag.Goals as goal

pub returns-in_err-judge-clause-judges : goal.returns-in_err-judge-clause-judges
returns-in_err-judge-clause-judges c =
    let p = err_from_is_err_and c.from_residual.result c.from_residual.ensures.1 in
    let old = c.args.theory.now in
    let new = c.type_sort.new.theory in
    let fault = c.in_err-judge.field-0.0 in
    let of = tree_at old.items c.args.of in
    rw (p.1, p.2)
    (judges_stop (Unit {0}) new.items (flag_judged (env old) old.context of) ⊥ (AddsFlag old new of) fault _ _
    (item_stops_first new.items (type_judged (env old) old.context Weak of) (λ _. gives tt) fault _ _ c.in_err-judge.ensures.answer))

pub returns-in_err-judge-clause-refused : goal.returns-in_err-judge-clause-refused
returns-in_err-judge-clause-refused c =
    let p = err_from_is_err_and c.from_residual.result c.from_residual.ensures.1 in
    let old = c.args.theory.now in
    let new = c.type_sort.new.theory in
    let fault = c.in_err-judge.field-0.0 in
    let of = tree_at old.items c.args.of in
    rw (p.1, p.2)
    (flag_refused (env old) old.context c.keeps_legal.ensures new.items (account old c.args.job.now) (account new c.type_sort.new.job) c.keeps_convertible.ensures (Unit {0}) of fault
    (item_stops_first new.items (type_judged (env old) old.context Weak of) (λ _. gives tt) fault _ _ c.in_err-judge.ensures.answer))

pub returns-in-Ok-clause-judges : goal.returns-in-Ok-clause-judges
returns-in-Ok-clause-judges c = (
  told_extended c.type_sort.new.theory c.open_flag.new.self c.type_sort.new.job
      (λ w. Comes (flag_judged (env c.args.theory.now) c.args.theory.now.context (tree_at c.args.theory.now.items c.args.of)) (Gives tt) (account c.args.theory.now c.args.job.now) w) c.open_flag.ensures.goes.items c.type_sort.ensures.pairs
      (asked _ _ _ _ c.in_ok-judge.ensures.answer.0.1),
  adds_flag_after c.args.theory.now c.type_sort.new.theory _ c.args.of c.type_sort.ensures.continues c.requires.of.0 c.in-Ok.ensures.ok,
)

pub returns-in-Err-clause-err : goal.returns-in-Err-clause-err
returns-in-Err-clause-err c = continues_trans _ _ _ c.type_sort.ensures.continues c.in-Err.ensures.err
