use Rattle.std.proofs.Common.{◌≡◌, ℕ, List, Ok, refl, sym, ap, subst, ◌∙◌}
use Rattle.ld_env.specs.Named.{names_of as names_in}
use Rattle.ld_infer.specs.Standing.{env}
use Rattle.fb_parse.specs.ItemView.{item_view}
use Rattle.fb_scope.specs.State.{State}
use Rattle.book_top.specs.Book.{names_of}
use Rattle.book_top.specs.Told.{AreRead, reading_by}
use Rattle.book_top.proofs.Continuing.{theory_names}
use Rattle.book_top.proofs.Verdicts.{item_judged}
use Rattle.book_top.proofs.Closing.{deep_stops, unread_left, read_left, step_closed, book_closed, notes_closed}
use Rattle.book_top.proofs.item.judge_item.Goals as goal

pub returns-in_err-close_flags-clause-answer : goal.returns-in_err-close_flags-clause-answer
returns-in_err-close_flags-clause-answer c =
    deep_stops c.args.budget c.args.theory.now c.close_flags.new.theory c.args.scope.now c.close_flags.new.scope (item_view c.args.text.now c.args.item.now) c.in_err-close_flags.field-0.0 c.from_residual.result
    c.in_err-close_flags.ensures.depth.0 c.in_err-close_flags.ensures.depth.1 c.from_residual.ensures.1

pub returns-in_err-terms-clause-answer : goal.returns-in_err-terms-clause-answer
returns-in_err-terms-clause-answer c =
    let old = c.args.theory.now in
    let mid = c.close_flags.new.theory in
    let closed = c.in_ok-close_flags.ensures in
    let names = theory_names mid c.env.result.now c.env.ensures.entries c.env.ensures.trees ∙ ap (λ s. names_of (env s)) closed.theory in
    unread_left c.args.budget old mid c.args.scope.now c.close_flags.new.scope c.terms_of.new.scope (names_in c.env.result.now) (item_view c.args.text.now c.args.item.now) c.in_err-terms.field-0.0
    c.from_residual-in_err-terms.result closed.scope names closed.depth (c.in_err-terms.ensures.reads c.args.text.now refl) c.from_residual-in_err-terms.ensures.1

pub judge_terms-requires-clause-are : goal.judge_terms-requires-clause-are
judge_terms-requires-clause-are c =
    let mid = c.close_flags.new.theory in
    let names = theory_names mid c.env.result.now c.env.ensures.entries c.env.ensures.trees in
    let P : State → List (List ℕ) → Type 0 = λ s ns. AreRead s ns c.in_ok-terms.terms in
    subst (λ s. P s (names_of (env mid))) (sym c.in_ok-terms.ensures.same) (subst (λ ns. P c.close_flags.new.scope ns) names (c.in_ok-terms.ensures.reads c.args.text.now refl).are)

pub judge_terms-requires-clause-step : goal.judge_terms-requires-clause-step
judge_terms-requires-clause-step c =
    let closed = c.in_ok-close_flags.ensures in
    step_closed c.args.theory.now c.close_flags.new.theory c.args.scope.now c.close_flags.new.scope c.terms_of.new.scope c.args.item.now.bars closed.theory closed.scope c.in_ok-terms.ensures.same c.requires.step

pub returns-clause-answer : goal.returns-clause-answer
returns-clause-answer c =
    let old = c.args.theory.now in
    let mid = c.close_flags.new.theory in
    let left = c.close_flags.new.scope in
    let between = c.terms_of.new.scope in
    let before = c.args.scope.now in
    let item = item_view c.args.text.now c.args.item.now in
    let ts = c.in_ok-terms.terms in
    let closed = c.in_ok-close_flags.ensures in
    let same = c.in_ok-terms.ensures.same in
    let here = theory_names mid c.env.result.now c.env.ensures.entries c.env.ensures.trees in
    let names = here ∙ ap (λ s. names_of (env s)) closed.theory in
    let read = read_left old before left (names_in c.env.result.now) item closed.scope names closed.depth ∙ (c.in_ok-terms.ensures.reads c.args.text.now refl).reading in
    let moved : reading_by left (names_in c.env.result.now) ts ≡ reading_by between (names_of (env mid)) ts = λ i. reading_by (sym same i) (here i) ts in
    item_judged c.args.budget old mid c.judge_terms.new.theory before between c.judge_terms.new.scope item (reading_by between (names_of (env mid)) ts) c.judge_terms.result
    (book_closed old mid before left between c.args.item.now.bars closed.theory closed.scope same)
    (notes_closed old mid before left between c.args.item.now.bars closed.theory closed.scope same)
    (read ∙ ap (λ r. Ok r) moved)
    c.judge_terms.ensures.answer
