use Rattle.std.proofs.Common.{◌≡◌, ℕ, Err, Contains, refl, sym, ap, subst, ◌∙◌}
use Rattle.ld_terms.specs.Tree.{Tree, Trees}
use Rattle.ld_terms.specs.Entry.{Env}
use Rattle.ld_terms.specs.Bank.{tree_at}
use Rattle.ld_env.specs.Named.{names_of as names_in}
use Rattle.ld_infer.specs.Account.{Comes}
use Rattle.ld_reduce.specs.Task.{Gives}
use Rattle.ld_infer.specs.Standing.{env, AddsEntry, account}
use Rattle.ld_infer.proofs.Pairs.{pairs_none, account_none}
use Rattle.ld_defrules.specs.Judged.{Judges, line_judged, line_of}
use Rattle.fb_parse.specs.View.{view}
use Rattle.fb_scope.specs.State.{noted}
use Rattle.book_top.specs.declared.item.ItemStop.{ItemStop}
use Rattle.book_top.specs.Book.{names_of, book_of, Line}
use Rattle.book_top.specs.Names.{tree_of}
use Rattle.book_top.specs.Built.{read}
use Rattle.book_top.specs.Told.{StopsReading, term_stop}
use Rattle.ld_terms.specs.Item.{One, IsSmall}
use Rattle.book_top.specs.Judged.{IsInStep}
use Rattle.ld_infer.proofs.Going.{continues_trans}
use Rattle.book_top.proofs.Continuing.{stands_tree, stands_later, goes_on, tree_moved}
use Rattle.book_top.proofs.Formed.{readable}
use Rattle.book_top.proofs.Adding.{same_line, built_same, judging_stops, entry_judged_so, noted_step, unbuilt_stops, on_no_stop}
use Rattle.book_top.proofs.item.judge_line.Goals as goal

pub define-requires-clause-of : goal.define-requires-clause-of
define-requires-clause-of c =
    readable c.args.theory.now c.build-2.new.theory c.args.scope.now (view c.args.of) c.in_ok-of.of c.requires.step
    (continues_trans _ _ _ c.build.ensures.continues c.build-2.ensures.continues) c.requires.read_type
    (stands_later c.build.new.theory c.build-2.new.theory _ _ c.build-2.ensures.continues c.in_ok-of.ensures.built.0)

pub define-requires-clause-body : goal.define-requires-clause-body
define-requires-clause-body c =
    let built = built_same c.args.theory.now c.build.new.theory c.build-2.new.theory c.args.scope.now c.build.new.scope (view c.args.body) c.in_ok-body.body
    c.in_ok-of.ensures.same c.build.ensures.continues.adds.env c.in_ok-body.ensures.built in
    readable c.args.theory.now c.build-2.new.theory c.args.scope.now (view c.args.body) c.in_ok-body.body c.requires.step
    (continues_trans _ _ _ c.build.ensures.continues c.build-2.ensures.continues) c.requires.read_body built.0

pub returns-in-Ok-note-clause-answer : goal.returns-in-Ok-note-clause-answer
returns-in-Ok-note-clause-answer c =
    let old = c.args.theory.now in
    let s = c.args.scope.now in
    let first = c.build.new.theory in
    let mid = c.build-2.new.theory in
    let name = c.args.name.now in
    let m = read (tree_of s (names_of (env old)) (view c.args.body)) in
    let t = read (tree_of s (names_of (env old)) (view c.args.of)) in
    let m' = tree_at mid.items c.in_ok-body.body in
    let t' = tree_at mid.items c.in_ok-of.of in
    let of_built = c.in_ok-of.ensures.built in
    let built = built_same old first mid s c.build.new.scope (view c.args.body) c.in_ok-body.body c.in_ok-of.ensures.same c.build.ensures.continues.adds.env c.in_ok-body.ensures.built in
    let on = continues_trans old first mid c.build.ensures.continues c.build-2.ensures.continues in
    let body_is = stands_tree mid.items c.in_ok-body.body m built.0 in
    let is = stands_tree mid.items c.in_ok-of.of t (stands_later first mid c.in_ok-of.of t c.build-2.ensures.continues of_built.0) in
    let before = account mid c.new-job.result in
    let after = account c.define.new.theory c.define.new.job in
    let P : Env → Trees → Tree → Tree → Type 0 = λ e ctx y x. Comes (line_judged e ctx y x) (Gives tt) before after in
    let so = entry_judged_so c.args.budget old mid c.define.new.theory s c.note.new.self name (Line m t) (line_of name old.context m t) (line_of name mid.context m' t') after c.spent.result before
    on (λ i. line_of name (on.context i) (body_is i) (is i)) (of_built.1, built.1) (account_none mid c.new-job.result c.args.budget c.new-job.ensures.budget c.new-job.ensures.known) c.spent.ensures
    (c.in-Ok-note.ensures.ok ∙ ap noted (c.in_ok-body.ensures.same ∙ c.in_ok-of.ensures.same))
    (same_line P (env mid) (env old) mid.context old.context m' m t' t on.adds.env on.context body_is is c.in-Ok.ensures.judges.0) c.in-Ok.ensures.judges.1 in
    record { small = (of_built.1, built.1); costs = so.2; becomes = so.0; notes = so.1 }

pub returns-in-Ok-note-clause-step : goal.returns-in-Ok-note-clause-step
returns-in-Ok-note-clause-step c =
    let mid = c.build-2.new.theory in
    noted_step c.args.theory.now mid c.define.new.theory c.args.scope.now c.build-2.new.scope c.note.new.self
    (line_of c.args.name.now mid.context (tree_at mid.items c.in_ok-body.body) (tree_at mid.items c.in_ok-of.of))
    c.requires.step (continues_trans _ _ _ c.build.ensures.continues c.build-2.ensures.continues) c.in-Ok.ensures.judges.1 refl (c.in_ok-body.ensures.same ∙ c.in_ok-of.ensures.same) c.in-Ok-note.ensures.ok

pub returns-in-Ok-note-clause-goes : goal.returns-in-Ok-note-clause-goes
returns-in-Ok-note-clause-goes c = goes_on _ _ _ (continues_trans _ _ _ c.build.ensures.continues c.build-2.ensures.continues) c.define.ensures.goes

pub returns-clause-goes : goal.returns-clause-goes
returns-clause-goes c = goes_on _ _ _ (continues_trans _ _ _ c.build.ensures.continues c.build-2.ensures.continues) c.define.ensures.goes

pub returns-clause-answer : goal.returns-clause-answer
returns-clause-answer c =
    let old = c.args.theory.now in
    let s = c.args.scope.now in
    let first = c.build.new.theory in
    let mid = c.build-2.new.theory in
    let m = read (tree_of s (names_of (env old)) (view c.args.body)) in
    let t = read (tree_of s (names_of (env old)) (view c.args.of)) in
    let m' = tree_at mid.items c.in_ok-body.body in
    let t' = tree_at mid.items c.in_ok-of.of in
    let of_built = c.in_ok-of.ensures.built in
    let built = built_same old first mid s c.build.new.scope (view c.args.body) c.in_ok-body.body c.in_ok-of.ensures.same c.build.ensures.continues.adds.env c.in_ok-body.ensures.built in
    let on = continues_trans old first mid c.build.ensures.continues c.build-2.ensures.continues in
    let body_is = stands_tree mid.items c.in_ok-body.body m built.0 in
    let is = stands_tree mid.items c.in_ok-of.of t (stands_later first mid c.in_ok-of.of t c.build-2.ensures.continues of_built.0) in
    let items = c.define.new.theory.items in
    let before = account mid c.new-job.result in
    let after = account c.define.new.theory c.define.new.job in
    let Adds = AddsEntry mid c.define.new.theory (line_of c.args.name.now mid.context m' t') in
    let Taken = Contains (names_in mid.entries) c.args.name.now in
    let free : Taken → ⊥ = λ h. c.requires.free (subst (λ es. Contains (names_in es) c.args.name.now) on.entries h) in
    let P : Env → Trees → Tree → Tree → Type 0 = λ e ctx y x. Judges items (line_judged e ctx y x) Taken Adds before after {X = ℕ} (Err c.in-Err.fault) in
    let S : ItemStop → Type 0 = λ z. StopsReading c.args.budget (book_of old s) items (Line m t) z in
    subst S (sym c.stop_of.ensures)
    (judging_stops ℕ Taken Adds c.args.budget (book_of old s) items c.args.at (Line m t) before after c.in-Err.fault (of_built.1, built.1) (account_none mid c.new-job.result c.args.budget c.new-job.ensures.budget c.new-job.ensures.known) free
    (same_line P (env mid) (env old) mid.context old.context m' m t' t on.adds.env on.context body_is is c.in-Err.ensures.judges))

pub define-requires-clause-pairs : goal.define-requires-clause-pairs
define-requires-clause-pairs c = pairs_none c.build-2.new.theory c.new-job.result.known c.new-job.ensures.known

pub returns-in_err-of-clause-answer : goal.returns-in_err-of-clause-answer
returns-in_err-of-clause-answer c =
    let m = read (tree_of c.args.scope.now (names_of (env c.args.theory.now)) (view c.args.body)) in
    let t = read (tree_of c.args.scope.now (names_of (env c.args.theory.now)) (view c.args.of)) in
    unbuilt_stops c.args.budget c.args.theory.now c.build.new.theory c.args.scope.now c.build.new.scope c.args.name.now (Line m t) (One t) c.in_err-of.field-0.0 c.from_residual.result
    c.in_err-of.ensures.built (λ h. h.0) c.from_residual.ensures.1

pub returns-in_err-of-clause-goes : goal.returns-in_err-of-clause-goes
returns-in_err-of-clause-goes c = record { items = c.build.ensures.continues.items; kept = c.build.ensures.continues.kept }

pub returns-in_err-of-clause-step : goal.returns-in_err-of-clause-step
returns-in_err-of-clause-step c = on_no_stop (IsInStep c.build.new.theory c.build.new.scope) (term_stop c.in_err-of.field-0.0) c.from_residual.result c.from_residual.ensures.1

pub returns-in-Ok-clause-answer : goal.returns-in-Ok-clause-answer
returns-in-Ok-clause-answer c = tt

pub returns-in-Ok-clause-goes : goal.returns-in-Ok-clause-goes
returns-in-Ok-clause-goes c = goes_on _ _ _ (continues_trans _ _ _ c.build.ensures.continues c.build-2.ensures.continues) c.define.ensures.goes

pub returns-in-Ok-clause-step : goal.returns-in-Ok-clause-step
returns-in-Ok-clause-step c = tt

pub returns-clause-step : goal.returns-clause-step
returns-clause-step c = tt

pub returns-in_err-body-clause-answer : goal.returns-in_err-body-clause-answer
returns-in_err-body-clause-answer c =
    let old = c.args.theory.now in
    let s = c.args.scope.now in
    let m = read (tree_of s (names_of (env old)) (view c.args.body)) in
    let t = read (tree_of s (names_of (env old)) (view c.args.of)) in
    let moved = read (tree_of c.build.new.scope (names_of (env c.build.new.theory)) (view c.args.body)) in
    let same : m ≡ moved = ap read (tree_moved s c.build.new.scope (env old) (env c.build.new.theory) (view c.args.body) (sym c.in_ok-of.ensures.same) (sym c.build.ensures.continues.adds.env)) in
    let Small : Tree → Type 0 = λ x. IsSmall (One x) in
    unbuilt_stops c.args.budget old c.build-2.new.theory s c.build-2.new.scope c.args.name.now (Line m t) (One moved) c.in_err-body.field-0.0 c.from_residual-in_err-body.result
    c.in_err-body.ensures.built (λ h. subst Small same h.1) c.from_residual-in_err-body.ensures.1

pub returns-in_err-body-clause-goes : goal.returns-in_err-body-clause-goes
returns-in_err-body-clause-goes c =
    let on = continues_trans _ _ _ c.build.ensures.continues c.build-2.ensures.continues in
    record { items = on.items; kept = on.kept }

pub returns-in_err-body-clause-step : goal.returns-in_err-body-clause-step
returns-in_err-body-clause-step c = on_no_stop (IsInStep c.build-2.new.theory c.build-2.new.scope) (term_stop c.in_err-body.field-0.0) c.from_residual-in_err-body.result c.from_residual-in_err-body.ensures.1
