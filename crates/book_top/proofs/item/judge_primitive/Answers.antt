use Rattle.std.proofs.Common.{ℕ, Err, Contains, refl, sym, ap, subst, ◌∙◌}
use Rattle.ld_terms.specs.Tree.{Tree, Trees}
use Rattle.ld_terms.specs.Entry.{Env}
use Rattle.ld_terms.specs.Bank.{tree_at}
use Rattle.ld_env.specs.Named.{names_of as names_in}
use Rattle.ld_infer.specs.Account.{Comes}
use Rattle.ld_reduce.specs.Task.{Gives}
use Rattle.ld_infer.specs.Standing.{env, AddsEntry, account}
use Rattle.ld_infer.proofs.Pairs.{pairs_none, account_none}
use Rattle.ld_defrules.specs.Judged.{Judges, primitive_judged, primitive_of}
use Rattle.fb_parse.specs.View.{view}
use Rattle.fb_scope.specs.State.{noted}
use Rattle.book_top.specs.declared.item.ItemStop.{ItemStop}
use Rattle.book_top.specs.Book.{names_of, book_of, Prim}
use Rattle.book_top.specs.Names.{tree_of}
use Rattle.book_top.specs.Built.{read}
use Rattle.book_top.specs.Told.{StopsReading, term_stop}
use Rattle.ld_terms.specs.Item.{One}
use Rattle.book_top.specs.Judged.{IsInStep}
use Rattle.book_top.proofs.Continuing.{stands_tree, goes_on}
use Rattle.book_top.proofs.Formed.{readable}
use Rattle.book_top.proofs.Adding.{same_task, judging_stops, entry_judged_so, noted_step, unbuilt_stops, on_no_stop}
use Rattle.book_top.proofs.item.judge_primitive.Goals as goal

pub primitive-requires-clause-of : goal.primitive-requires-clause-of
primitive-requires-clause-of c =
    readable c.args.theory.now c.build.new.theory c.args.scope.now (view c.args.of) c.in_ok-of.of c.requires.step c.build.ensures.continues c.requires.read c.in_ok-of.ensures.built.0

pub returns-in-Ok-note-clause-answer : goal.returns-in-Ok-note-clause-answer
returns-in-Ok-note-clause-answer c =
    let old = c.args.theory.now in
    let mid = c.build.new.theory in
    let name = c.args.name.now in
    let t = read (tree_of c.args.scope.now (names_of (env old)) (view c.args.of)) in
    let u = tree_at mid.items c.in_ok-of.of in
    let built = c.in_ok-of.ensures.built in
    let on = c.build.ensures.continues in
    let is = stands_tree mid.items c.in_ok-of.of t built.0 in
    let before = account mid c.new-job.result in
    let after = account c.primitive.new.theory c.primitive.new.job in
    let P : Env → Trees → Tree → Type 0 = λ e ctx x. Comes (primitive_judged e ctx x) (Gives tt) before after in
    let so = entry_judged_so c.args.budget old mid c.primitive.new.theory c.args.scope.now c.note.new.self name (Prim t) (primitive_of name old.context t) (primitive_of name mid.context u) after c.spent.result before
    on (λ i. primitive_of name (on.context i) (is i)) built.1 (account_none mid c.new-job.result c.args.budget c.new-job.ensures.budget c.new-job.ensures.known) c.spent.ensures (c.in-Ok-note.ensures.ok ∙ ap noted c.in_ok-of.ensures.same)
    (same_task P (env mid) (env old) mid.context old.context u t on.adds.env on.context is c.in-Ok.ensures.judges.0) c.in-Ok.ensures.judges.1 in
    record { small = built.1; costs = so.2; becomes = so.0; notes = so.1 }

pub returns-in-Ok-note-clause-step : goal.returns-in-Ok-note-clause-step
returns-in-Ok-note-clause-step c =
    noted_step c.args.theory.now c.build.new.theory c.primitive.new.theory c.args.scope.now c.build.new.scope c.note.new.self
    (primitive_of c.args.name.now c.build.new.theory.context (tree_at c.build.new.theory.items c.in_ok-of.of))
    c.requires.step c.build.ensures.continues c.in-Ok.ensures.judges.1 refl c.in_ok-of.ensures.same c.in-Ok-note.ensures.ok

pub returns-in-Ok-note-clause-goes : goal.returns-in-Ok-note-clause-goes
returns-in-Ok-note-clause-goes c = goes_on _ _ _ c.build.ensures.continues c.primitive.ensures.goes

pub returns-clause-goes : goal.returns-clause-goes
returns-clause-goes c = goes_on _ _ _ c.build.ensures.continues c.primitive.ensures.goes

pub returns-clause-answer : goal.returns-clause-answer
returns-clause-answer c =
    let old = c.args.theory.now in
    let mid = c.build.new.theory in
    let t = read (tree_of c.args.scope.now (names_of (env old)) (view c.args.of)) in
    let u = tree_at mid.items c.in_ok-of.of in
    let items = c.primitive.new.theory.items in
    let built = c.in_ok-of.ensures.built in
    let before = account mid c.new-job.result in
    let after = account c.primitive.new.theory c.primitive.new.job in
    let Adds = AddsEntry mid c.primitive.new.theory (primitive_of c.args.name.now mid.context u) in
    let Taken = Contains (names_in mid.entries) c.args.name.now in
    let free : Taken → ⊥ = λ h. c.requires.free (subst (λ es. Contains (names_in es) c.args.name.now) c.build.ensures.continues.entries h) in
    let P : Env → Trees → Tree → Type 0 = λ e ctx x. Judges items (primitive_judged e ctx x) Taken Adds before after {X = ℕ} (Err c.in-Err.fault) in
    let S : ItemStop → Type 0 = λ z. StopsReading c.args.budget (book_of old c.args.scope.now) items (Prim t) z in
    subst S (sym c.stop_of.ensures)
    (judging_stops ℕ Taken Adds c.args.budget (book_of old c.args.scope.now) items c.args.at (Prim t) before after c.in-Err.fault built.1 (account_none mid c.new-job.result c.args.budget c.new-job.ensures.budget c.new-job.ensures.known) free
    (same_task P (env mid) (env old) mid.context old.context u t c.build.ensures.continues.adds.env c.build.ensures.continues.context (stands_tree mid.items c.in_ok-of.of t built.0) c.in-Err.ensures.judges))

pub primitive-requires-clause-pairs : goal.primitive-requires-clause-pairs
primitive-requires-clause-pairs c = pairs_none c.build.new.theory c.new-job.result.known c.new-job.ensures.known

pub returns-in_err-of-clause-answer : goal.returns-in_err-of-clause-answer
returns-in_err-of-clause-answer c =
    let t = read (tree_of c.args.scope.now (names_of (env c.args.theory.now)) (view c.args.of)) in
    unbuilt_stops c.args.budget c.args.theory.now c.build.new.theory c.args.scope.now c.build.new.scope c.args.name.now (Prim t) (One t) c.in_err-of.field-0.0 c.from_residual.result
    c.in_err-of.ensures.built (λ h. h) c.from_residual.ensures.1

pub returns-in_err-of-clause-goes : goal.returns-in_err-of-clause-goes
returns-in_err-of-clause-goes c = record { items = c.build.ensures.continues.items; kept = c.build.ensures.continues.kept }

pub returns-in_err-of-clause-step : goal.returns-in_err-of-clause-step
returns-in_err-of-clause-step c = on_no_stop (IsInStep c.build.new.theory c.build.new.scope) (term_stop c.in_err-of.field-0.0) c.from_residual.result c.from_residual.ensures.1

pub returns-in-Ok-clause-answer : goal.returns-in-Ok-clause-answer
returns-in-Ok-clause-answer c = tt

pub returns-in-Ok-clause-goes : goal.returns-in-Ok-clause-goes
returns-in-Ok-clause-goes c = goes_on _ _ _ c.build.ensures.continues c.primitive.ensures.goes

pub returns-in-Ok-clause-step : goal.returns-in-Ok-clause-step
returns-in-Ok-clause-step c = tt

pub returns-clause-step : goal.returns-clause-step
returns-clause-step c = tt
