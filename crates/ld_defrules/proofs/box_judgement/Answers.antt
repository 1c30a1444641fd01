use Rattle.std.proofs.Common.{◌≡◌, List, ap, sym, ◌∙◌, refl, subst, is_some}
use Rattle.std.proofs.lemmas.Bool.{false≢true}
use Rattle.std.proofs.lemmas.Result.{err_from_is_err_and}
use Rattle.ld_terms.specs.Tree.{Tree, Trees, Box}
use Rattle.ld_terms.specs.Tests.{is_box}
use Rattle.ld_terms.specs.Item.{Item, tree}
use Rattle.ld_terms.specs.Bank.{tree_at, item_at}
use Rattle.ld_record.specs.Growth.{Knows}
use Rattle.ld_infer.specs.declared.failure.Why.TheVariants as why
use Rattle.ld_infer.specs.Standing.{known, env, here, account}
use Rattle.ld_defrules.specs.Judged.{IsOtherType}
use Rattle.ld_infer.proofs.Going.{tree_stays, term_stays}
use Rattle.ld_defrules.proofs.Lines.{box_stops, box_accepted, box_refused, box_only, same_items}
use Rattle.ld_defrules.proofs.box_judgement.Goals as goal

pub returns-in_err-typed-clause-answer : goal.returns-in_err-typed-clause-answer
returns-in_err-typed-clause-answer c =
    let p = err_from_is_err_and c.from_residual.result c.from_residual.ensures.1 in
    let old = c.args.theory.now in
    rw (p.1, p.2)
    (box_stops (env old) old.context (tree_at old.items c.args.body) c.body_type.new.theory.items c.in_err-typed.field-0.0 (account old c.args.job.now) (account c.body_type.new.theory c.body_type.new.job) c.in_err-typed.ensures.answer)

pub returns-then-same-clause-answer : goal.returns-then-same-clause-answer
returns-then-same-clause-answer c =
    let old = c.args.theory.now in
    let new = c.body_type.new.theory in
    let typed = c.in_ok-typed.typed in
    let read = c.in_ok-typed.ensures.answer in
    let P : List Item → Type 0 = λ items. item_at items typed.of ≡ item_at items c.args.of in
    let same : tree_at new.items typed.of ≡ tree_at old.items c.args.of =
    ap tree (subst P c.bank.ensures (c.if-same.ensures.0 refl)) ∙ tree_stays old new c.args.of c.body_type.ensures.continues c.requires.of in
    let Q : Tree → Type 0 = λ x. Knows (known new) typed.judge (here old (tree_at old.items c.args.body) x) in (
      box_accepted (env old) old.context (tree_at old.items c.args.body) (tree_at new.items typed.of) (is_some typed.of_judge) (account old c.args.job.now) (account c.body_type.new.theory c.body_type.new.job)
          (ap is_box same ∙ c.requires.stated) read.gives,
      subst Q same read.judged,
    )

pub returns-else-same-clause-answer : goal.returns-else-same-clause-answer
returns-else-same-clause-answer c =
    let old = c.args.theory.now in
    let new = c.body_type.new.theory in
    let goes = c.body_type.ensures.continues in
    let typed = c.in_ok-typed.typed in
    let read = c.in_ok-typed.ensures.answer in
    let stated : tree_at new.items c.args.of ≡ Box = tree_stays old new c.args.of goes c.requires.of ∙ box_only (tree_at old.items c.args.of) c.requires.stated in
    let P : List Item → Type 0 = λ items. item_at items typed.of ≡ item_at items c.args.of in
    let Q : Trees → Type 0 = λ ctx. IsOtherType new.items ctx (why.NotSame typed.of c.args.of typed.of c.args.of 0) c.other_type.result in
    let other : tree_at new.items typed.of ≡ Box → ⊥ = λ e.
    let same = same_items new.items typed.of c.args.of read.term (term_stays old new c.args.of goes c.requires.of) (e ∙ sym stated) in
    false≢true (c.if-same.ensures.1 (subst P (sym c.bank.ensures) same)) in
    box_refused (env old) old.context (tree_at old.items c.args.body) new.items typed.of c.args.of (is_some typed.of_judge) c.other_type.result (account old c.args.job.now) (account c.body_type.new.theory c.body_type.new.job)
    stated other read.gives (subst Q goes.context (c.other_type.ensures new.items))
