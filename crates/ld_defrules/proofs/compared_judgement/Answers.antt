use Rattle.std.proofs.Common.{false, Result, Ok, ap, ◌∙◌, subst}
use Rattle.ld_terms.specs.Bank.{tree_at}
use Rattle.ld_reduce.specs.Task.{Gives}
use Rattle.ld_reduce.specs.declared.stop.Stop.{Stop}
use Rattle.ld_convert.specs.declared.job.Compared.{Compared}
use Rattle.ld_infer.specs.Account.{Comes}
use Rattle.ld_infer.specs.Standing.{env, account}
use Rattle.ld_infer.specs.Infers.{ComparesTypes}
use Rattle.ld_infer.proofs.Pairs.{told_later}
use Rattle.ld_infer.proofs.Staying.{known_here}
use Rattle.ld_defrules.specs.Judged.{same_as_stated}
use Rattle.ld_infer.proofs.Going.{continues_trans, tree_stays}
use Rattle.ld_defrules.proofs.Stated.{same_accepted, same_stops, other_refused, conv_stated}
use Rattle.ld_defrules.proofs.compared_judgement.Goals as goal

pub conclude-requires-clause-follows : goal.conclude-requires-clause-follows
conclude-requires-clause-follows c =
    let a = c.args.theory.now in
    let b = c.compare.new.self in
    let P : Result Compared Stop → Type 0 = λ r. ComparesTypes a b 1 (tree_at a.items c.args.typed.of) (tree_at a.items c.args.of) (account a c.args.job.now) (account b c.compare.new.job) r in
    let same = subst P (c.in-Ok-Same.is ∙ ap Ok c.in-Ok-Same.field-0-is) c.compare.ensures.answer in
    conv_stated a b c.args.typed.judge c.args.sort c.in-Ok-Same.equal c.args.body c.args.of _ c.compare.ensures.continues c.requires.body c.requires.of.0 c.requires.judge same.1 c.requires.sort

pub returns-in-Ok-clause-answer : goal.returns-in-Ok-clause-answer
returns-in-Ok-clause-answer c =
    let a = c.args.theory.now in
    let b = c.compare.new.self in
    let P : Result Compared Stop → Type 0 = λ r. ComparesTypes a b 1 (tree_at a.items c.args.typed.of) (tree_at a.items c.args.of) (account a c.args.job.now) (account b c.compare.new.job) r in
    let same = subst P (c.in-Ok-Same.is ∙ ap Ok c.in-Ok-Same.field-0-is) c.compare.ensures.answer in
    let d = c.conclude.new.self in
    let goes = c.compare.ensures.continues in (
      told_later b d c.compare.new.job (λ w. Comes (same_as_stated (env a) a.context false (tree_at a.items c.args.typed.of) (tree_at a.items c.args.of)) (Gives tt) (account a c.args.job.now) w) c.conclude.ensures.continues c.compare.ensures.pairs
          (same_accepted a b c.args.typed.of c.args.of (account a c.args.job.now) (account b c.compare.new.job) goes c.requires.found c.requires.of.0 same.0),
      known_here a b d _ (tree_at b.items c.args.body) (tree_at a.items c.args.body) (tree_at b.items c.args.of) (tree_at a.items c.args.of) goes (tree_stays a b c.args.body goes c.requires.body)
          (tree_stays a b c.args.of goes c.requires.of.0) c.in-Ok.ensures.number,
    )

pub returns-in-Ok-clause-continues : goal.returns-in-Ok-clause-continues
returns-in-Ok-clause-continues c = continues_trans c.args.theory.now c.compare.new.self c.conclude.new.self c.compare.ensures.continues c.conclude.ensures.continues

pub returns-in-Err-conclude-clause-continues : goal.returns-in-Err-conclude-clause-continues
returns-in-Err-conclude-clause-continues c = continues_trans c.args.theory.now c.compare.new.self c.conclude.new.self c.compare.ensures.continues c.conclude.ensures.continues

pub returns-in-Ok-Apart-clause-answer : goal.returns-in-Ok-Apart-clause-answer
returns-in-Ok-Apart-clause-answer c =
    let a = c.args.theory.now in
    let b = c.compare.new.self in
    let P : Result Compared Stop → Type 0 = λ r. ComparesTypes a b 1 (tree_at a.items c.args.typed.of) (tree_at a.items c.args.of) (account a c.args.job.now) (account b c.compare.new.job) r in
    let apart = subst P (c.in-Ok-Apart.is ∙ ap Ok c.in-Ok-Apart.field-0-is) c.compare.ensures.answer in
    other_refused a b c.args.typed.of c.args.of (account a c.args.job.now) (account b c.compare.new.job) c.compare.ensures.continues c.requires.found c.requires.of.0
    c.in-Ok-Apart.left c.in-Ok-Apart.right c.in-Ok-Apart.under c.other_type.result apart (c.other_type.ensures b.items)

pub returns-in-Err-clause-answer : goal.returns-in-Err-clause-answer
returns-in-Err-clause-answer c =
    let a = c.args.theory.now in
    let b = c.compare.new.self in
    let P : Result Compared Stop → Type 0 = λ r. ComparesTypes a b 1 (tree_at a.items c.args.typed.of) (tree_at a.items c.args.of) (account a c.args.job.now) (account b c.compare.new.job) r in
    let stops = subst P c.in-Err.is c.compare.ensures.answer in
    same_stops a b c.args.typed.of c.args.of (account a c.args.job.now) (account b c.compare.new.job) c.compare.ensures.continues c.requires.found c.requires.of.0 c.in-Err.stop stops
