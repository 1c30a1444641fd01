use Rattle.std.proofs.Common.{◌≡◌, List, refl, sym, ◌∙◌, subst}
use Rattle.std.proofs.lemmas.Bool.{false≢true}
use Rattle.std.proofs.lemmas.Result.{err_from_is_err_and}
use Rattle.ld_terms.specs.Tree.{Tree}
use Rattle.ld_terms.specs.Item.{Item}
use Rattle.ld_terms.specs.Known.{Judgement}
use Rattle.ld_record.specs.Growth.{Knows}
use Rattle.ld_terms.specs.Bank.{tree_at, item_at}
use Rattle.ld_infer.specs.Standing.{known, env, here, account}
use Rattle.ld_infer.proofs.Going.{continues_trans, here_stays, term_stays, tree_stays}
use Rattle.ld_defrules.proofs.Lines.{type_stops}
use Rattle.ld_defrules.proofs.Readings.{line_faulty, line_typed, line_compared}
use Rattle.ld_defrules.proofs.line_judgement.Goals as goal

pub returns-in_err-sort-clause-answer : goal.returns-in_err-sort-clause-answer
returns-in_err-sort-clause-answer c =
    let p = err_from_is_err_and c.from_residual.result c.from_residual.ensures.1 in
    let old = c.args.theory.now in
    rw (p.1, p.2)
    (type_stops (env old) old.context (tree_at old.items c.args.body) (tree_at old.items c.args.of) c.type_sort.new.theory.items c.in_err-sort.field-0.0 (account old c.args.job.now) (account c.type_sort.new.theory c.type_sort.new.job)
    (sym c.is_box.ensures ∙ c.if-is_box.false) c.in_err-sort.ensures.answer)

pub returns-in_err-typed-clause-answer : goal.returns-in_err-typed-clause-answer
returns-in_err-typed-clause-answer c =
    let p = err_from_is_err_and c.from_residual-in_err-typed.result c.from_residual-in_err-typed.ensures.1 in
    let sorted = c.in_ok-sort.ensures.answer.0 in
    rw (p.1, p.2)
    (line_faulty c.args.theory.now c.type_sort.new.theory c.body_type.new.theory c.args.body c.args.of sorted.0 (account c.args.theory.now c.args.job.now) (account c.type_sort.new.theory c.type_sort.new.job) (account c.body_type.new.theory c.body_type.new.job)
    c.type_sort.ensures.continues c.body_type.ensures.continues c.requires.body.0 c.requires.of.0 (sym c.is_box.ensures ∙ c.if-is_box.false) sorted.1
    c.in_err-typed.field-0.0 c.in_err-typed.ensures.answer)

pub returns-in_err-typed-clause-continues : goal.returns-in_err-typed-clause-continues
returns-in_err-typed-clause-continues c = continues_trans _ _ _ c.type_sort.ensures.continues c.body_type.ensures.continues

pub returns-then-same-clause-answer : goal.returns-then-same-clause-answer
returns-then-same-clause-answer c =
    let sorted = c.in_ok-sort.ensures.answer.0 in
    let typed = c.in_ok-typed.typed in
    let P : List Item → Type 0 = λ items. item_at items typed.of ≡ item_at items c.args.of in
    line_typed c.args.theory.now c.type_sort.new.theory c.body_type.new.theory c.args.body c.args.of sorted.0 (account c.args.theory.now c.args.job.now) (account c.type_sort.new.theory c.type_sort.new.job) (account c.body_type.new.theory c.body_type.new.job)
    c.type_sort.ensures.continues c.body_type.ensures.continues c.requires.body.0 c.requires.of.0 (sym c.is_box.ensures ∙ c.if-is_box.false) sorted.1
    typed c.in_ok-typed.ensures.answer (subst P c.bank.ensures (c.if-same.ensures.0 refl))

pub returns-then-same-clause-continues : goal.returns-then-same-clause-continues
returns-then-same-clause-continues c = continues_trans _ _ _ c.type_sort.ensures.continues c.body_type.ensures.continues

pub compared_judgement-requires-clause-judge : goal.compared_judgement-requires-clause-judge
compared_judgement-requires-clause-judge c =
    let b = c.type_sort.new.theory in
    let x = c.body_type.new.theory in
    let typed = c.in_ok-typed.typed in
    let read = c.in_ok-typed.ensures.answer in
    let goes = c.body_type.ensures.continues in
    let there = term_stays c.args.theory.now b c.args.body c.type_sort.ensures.continues c.requires.body.0 in
    let J : Judgement → Type 0 = λ j. Knows (known x) typed.judge j in
    let K : Tree → Type 0 = λ t. Knows (known x) typed.judge (here x t (tree_at x.items typed.of)) in
    subst K (sym (tree_stays b x c.args.body goes there)) (subst J (sym (here_stays b x (tree_at b.items c.args.body) (tree_at x.items typed.of) goes)) read.judged)

pub returns-clause-answer : goal.returns-clause-answer
returns-clause-answer c =
    let sorted = c.in_ok-sort.ensures.answer.0 in
    let typed = c.in_ok-typed.typed in
    let P : List Item → Type 0 = λ items. item_at items typed.of ≡ item_at items c.args.of in
    line_compared c.args.theory.now c.type_sort.new.theory c.body_type.new.theory c.args.body c.args.of sorted.0 (account c.args.theory.now c.args.job.now) (account c.type_sort.new.theory c.type_sort.new.job)
    (account c.body_type.new.theory c.body_type.new.job) c.type_sort.ensures.continues c.body_type.ensures.continues c.requires.body.0 c.requires.of.0 (sym c.is_box.ensures ∙ c.if-is_box.false) sorted.1
    typed c.in_ok-typed.ensures.answer c.compared_judgement.new.theory (account c.compared_judgement.new.theory c.compared_judgement.new.job) c.compared_judgement.result
    (λ same. false≢true (c.if-same.ensures.1 (subst P (sym c.bank.ensures) same))) c.compared_judgement.ensures.answer

pub returns-clause-continues : goal.returns-clause-continues
returns-clause-continues c =
    continues_trans _ _ _ (continues_trans _ _ _ c.type_sort.ensures.continues c.body_type.ensures.continues) c.compared_judgement.ensures.continues
