use Rattle.std.proofs.Common.{ℕ}
use Rattle.std.proofs.lemmas.Result.{err_from_is_err_and}
use Rattle.ld_terms.specs.Bank.{tree_at}
use Rattle.ld_reduce.specs.Task.{Gives}
use Rattle.ld_infer.specs.Account.{Comes}
use Rattle.ld_infer.specs.Standing.{env, account}
use Rattle.ld_infer.proofs.Pairs.{told_extended}
use Rattle.ld_defrules.specs.Judged.{line_judged}
use Rattle.ld_defrules.proofs.Going.{adds_entry_after, same_line}
use Rattle.ld_defrules.proofs.Refused.{line_refused}
use Rattle.ld_defrules.proofs.define.Goals as goal

pub returns-in_err-judge-clause-refused : goal.returns-in_err-judge-clause-refused
returns-in_err-judge-clause-refused c =
    let p = err_from_is_err_and c.from_residual.result c.from_residual.ensures.1 in
    let old = c.args.theory.now in
    let new = c.line_judgement.new.theory in
    rw (p.1, p.2)
    (line_refused (env old) old.context c.keeps_legal.ensures new.items (account old c.args.job.now) (account new c.line_judgement.new.job) c.keeps_convertible.ensures ℕ
    (tree_at old.items c.args.body) (tree_at old.items c.args.of) c.in_err-judge.field-0.0 c.in_err-judge.ensures.answer)

pub returns-in-Ok-clause-judges : goal.returns-in-Ok-clause-judges
returns-in-Ok-clause-judges c =
    let old = c.args.theory.now in
    let now = c.line_judgement.new.theory in (
      told_extended now c.keep_line.new.self c.line_judgement.new.job (λ w. Comes (line_judged (env old) old.context (tree_at old.items c.args.body) (tree_at old.items c.args.of)) (Gives tt) (account old c.args.job.now) w)
          c.keep_line.ensures.goes.items c.line_judgement.ensures.pairs c.in_ok-judge.ensures.answer.0,
      adds_entry_after old now _ _ _ c.line_judgement.ensures.continues (same_line old now c.args.body c.args.of c.args.name.now c.line_judgement.ensures.continues c.requires.body.0 c.requires.of.0) c.in-Ok.ensures.ok,
    )
