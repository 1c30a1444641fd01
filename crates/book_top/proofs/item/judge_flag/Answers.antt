use Rattle.std.proofs.Common.{Err, sym, ap, subst, ◌∙◌}
use Rattle.ld_terms.specs.Tree.{Tree, Trees}
use Rattle.ld_terms.specs.Entry.{Env}
use Rattle.ld_terms.specs.Bank.{tree_at}
use Rattle.ld_infer.specs.Standing.{env, AddsFlag, account}
use Rattle.ld_infer.proofs.Pairs.{pairs_none, account_none}
use Rattle.ld_defrules.specs.Judged.{Judges, flag_judged}
use Rattle.fb_parse.specs.View.{view}
use Rattle.fb_scope.specs.State.{entered}
use Rattle.book_top.specs.declared.item.ItemStop.{ItemStop}
use Rattle.book_top.specs.Book.{names_of, book_of, Flag}
use Rattle.book_top.specs.Names.{tree_of}
use Rattle.book_top.specs.Built.{read}
use Rattle.book_top.specs.Told.{StopsReading, term_stop}
use Rattle.ld_terms.specs.Item.{One}
use Rattle.book_top.specs.Judged.{IsInStep}
use Rattle.book_top.proofs.Continuing.{stands_tree, goes_on}
use Rattle.book_top.proofs.Formed.{readable}
use Rattle.book_top.proofs.Adding.{same_task, judging_stops, flag_judged_so, unbuilt_stops, on_no_stop}
use Rattle.book_top.proofs.item.judge_flag.Goals as goal

pub open_flag-requires-clause-of : goal.open_flag-requires-clause-of
open_flag-requires-clause-of c =
    readable c.args.theory.now c.build.new.theory c.args.scope.now (view c.args.of) c.in_ok-of.of c.requires.step c.build.ensures.continues c.requires.read c.in_ok-of.ensures.built.0

pub returns-in-Ok-enter-clause-answer : goal.returns-in-Ok-enter-clause-answer
returns-in-Ok-enter-clause-answer c =
    let old = c.args.theory.now in
    let mid = c.build.new.theory in
    let t = read (tree_of c.args.scope.now (names_of (env old)) (view c.args.of)) in
    let built = c.in_ok-of.ensures.built in
    flag_judged_so c.args.budget old mid c.open_flag.new.theory c.args.scope.now c.enter.new.self c.args.name.now t (tree_at mid.items c.in_ok-of.of) (account mid c.new-job.result) (account c.open_flag.new.theory c.open_flag.new.job) c.spent.result
    c.build.ensures.continues (stands_tree mid.items c.in_ok-of.of t built.0) built.1 (account_none mid c.new-job.result c.args.budget c.new-job.ensures.budget c.new-job.ensures.known) c.spent.ensures
    (c.in-Ok-enter.ensures.ok ∙ ap (entered c.args.name.now) c.in_ok-of.ensures.same) c.in-Ok.ensures.judges

pub returns-clause-answer : goal.returns-clause-answer
returns-clause-answer c =
    let old = c.args.theory.now in
    let mid = c.build.new.theory in
    let t = read (tree_of c.args.scope.now (names_of (env old)) (view c.args.of)) in
    let u = tree_at mid.items c.in_ok-of.of in
    let items = c.open_flag.new.theory.items in
    let built = c.in_ok-of.ensures.built in
    let before = account mid c.new-job.result in
    let after = account c.open_flag.new.theory c.open_flag.new.job in
    let Adds = AddsFlag mid c.open_flag.new.theory u in
    let P : Env → Trees → Tree → Type 0 = λ e ctx x. Judges items (flag_judged e ctx x) ⊥ Adds before after {X = Unit {0}} (Err c.in-Err.fault) in
    let S : ItemStop → Type 0 = λ z. StopsReading c.args.budget (book_of old c.args.scope.now) items (Flag t) z in
    subst S (sym c.stop_of.ensures)
    (judging_stops (Unit {0}) ⊥ Adds c.args.budget (book_of old c.args.scope.now) items c.args.at (Flag t) before after c.in-Err.fault built.1 (account_none mid c.new-job.result c.args.budget c.new-job.ensures.budget c.new-job.ensures.known) (λ h. h)
    (same_task P (env mid) (env old) mid.context old.context u t c.build.ensures.continues.adds.env c.build.ensures.continues.context (stands_tree mid.items c.in_ok-of.of t built.0) c.in-Err.ensures.judges))

pub open_flag-requires-clause-pairs : goal.open_flag-requires-clause-pairs
open_flag-requires-clause-pairs c = pairs_none c.build.new.theory c.new-job.result.known c.new-job.ensures.known

pub returns-in_err-of-clause-answer : goal.returns-in_err-of-clause-answer
returns-in_err-of-clause-answer c =
    let t = read (tree_of c.args.scope.now (names_of (env c.args.theory.now)) (view c.args.of)) in
    unbuilt_stops c.args.budget c.args.theory.now c.build.new.theory c.args.scope.now c.build.new.scope c.args.name.now (Flag t) (One t) c.in_err-of.field-0.0 c.from_residual.result
    c.in_err-of.ensures.built (λ h. h) c.from_residual.ensures.1

pub returns-in_err-of-clause-goes : goal.returns-in_err-of-clause-goes
returns-in_err-of-clause-goes c = record { items = c.build.ensures.continues.items; kept = c.build.ensures.continues.kept }

pub returns-in_err-of-clause-step : goal.returns-in_err-of-clause-step
returns-in_err-of-clause-step c = on_no_stop (IsInStep c.build.new.theory c.build.new.scope) (term_stop c.in_err-of.field-0.0) c.from_residual.result c.from_residual.ensures.1

pub returns-in-Ok-enter-clause-goes : goal.returns-in-Ok-enter-clause-goes
returns-in-Ok-enter-clause-goes c = goes_on _ _ _ c.build.ensures.continues c.open_flag.ensures.goes

pub returns-in-Ok-clause-answer : goal.returns-in-Ok-clause-answer
returns-in-Ok-clause-answer c = tt

pub returns-in-Ok-clause-goes : goal.returns-in-Ok-clause-goes
returns-in-Ok-clause-goes c = goes_on _ _ _ c.build.ensures.continues c.open_flag.ensures.goes

pub returns-in-Ok-clause-step : goal.returns-in-Ok-clause-step
returns-in-Ok-clause-step c = tt

pub returns-clause-goes : goal.returns-clause-goes
returns-clause-goes c = goes_on _ _ _ c.build.ensures.continues c.open_flag.ensures.goes

pub returns-clause-step : goal.returns-clause-step
returns-clause-step c = tt
