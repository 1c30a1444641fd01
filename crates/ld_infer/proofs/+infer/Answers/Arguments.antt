-- The judgement of an argument and the type that is wanted of it.
use Rattle.std.proofs.Common.{◌≡◌, ◌+◌, ℕ, List, false, Ok, ap, sym, ◌∙◌, subst}
use Rattle.std.proofs.lemmas.Bool.{false≢true}
use Rattle.std.proofs.lemmas.Result.{err_from_is_err_and}
use Rattle.ld_terms.specs.Tree.{count}
use Rattle.ld_terms.specs.Item.{Item, tree}
use Rattle.ld_terms.specs.Bank.{tree_at, item_at}
use Rattle.ld_convert.specs.Compares.{Compares}
use Rattle.ld_convert.specs.declared.job.Compared.{Compared}
use Rattle.ld_convert.specs.declared.job.Compared.TheVariants as compared
use Rattle.ld_infer.specs.Reading.{part_reading, suits, suited_reading}
use Rattle.ld_infer.specs.Standing.{env, account, Continues}
use Rattle.ld_infer.specs.Infers.{ComparesTypes, Suits, IsSuited}
use Rattle.ld_infer.proofs.Stopping.{stops_within, gives_within}
use Rattle.ld_infer.proofs.Going.{term_stays, tree_stays, ◌⨟◌}
use Rattle.ld_infer.proofs.Nodes.{same_items}
use Rattle.ld_infer.proofs.Sorts.{at_err}
use Rattle.ld_infer.proofs.Parting.{suited_stops}
use Rattle.ld_infer.proofs.Inferring.{suited_typed}
use Rattle.ld_infer.proofs.Comparing.{suited_compared, compared_typed, conv_wanted, compared_stopped_again, compared_refused, compared_stopped}
use Rattle.ld_infer.proofs.Pairs.{told_later}
use Rattle.ld_infer.proofs.+infer.Goals as goal

-- the two types are the same, by an equality
sameness : (t : ℕ) (c : goal.argument::compared_judgement-In-Same t)
    → ComparesTypes c.args.theory.now c.compare.new.self (c.args.nest + 1) (tree_at c.args.theory.now.items c.args.typed.of) (tree_at c.args.theory.now.items c.args.wanted) (account c.args.theory.now c.args.job.now) (account c.compare.new.self c.compare.new.job) (Ok (compared.Same c.in-Same.equal))
sameness t c =
    let P : Compared → Type 0 = λ x. ComparesTypes c.args.theory.now c.compare.new.self (c.args.nest + 1) (tree_at c.args.theory.now.items c.args.typed.of) (tree_at c.args.theory.now.items c.args.wanted) (account c.args.theory.now c.args.job.now) (account c.compare.new.self c.compare.new.job) (Ok x) in
    subst P c.in-Same.is c.in_ok-compared.ensures.answer

pub argument_judgement-in-Ok-answer : goal.argument::argument_judgement-returns-in-Ok-clause-answer
argument_judgement-in-Ok-answer t c = let h = c.in-Ok.ensures.answer in record { gives = gives_within c.args.step _ _ _ _ h.gives; judged = h.judged }

pub argument_judgement-in-Err-answer : goal.argument::argument_judgement-returns-in-Err-clause-answer
argument_judgement-in-Err-answer t c = stops_within c.suited_judgement.new.theory.items c.args.step _ c.in-Err.fault c.within.result _ _ c.in-Err.ensures.answer c.within.ensures

pub suited_judgement-in_err-typed-answer : goal.argument::suited_judgement-returns-in_err-typed-clause-answer
suited_judgement-in_err-typed-answer t c =
    let a = c.args.theory.now in
    let before = account a c.args.job.now in
    let b = c.infer_part.new.theory in
    let wanted = tree_at a.items c.args.wanted in
    let u = tree_at a.items c.args.u in
    let compare = Compares (env a) (c.args.nest + 1) in
    let read = part_reading c.args.nest (env a) a.context in
    at_err (Suits a b (suited_reading (env a) compare (count a.context) read c.args.asked wanted u) u wanted before (account b c.infer_part.new.job)) c.from_residual.result c.in_err-typed.field-0.0 c.from_residual.ensures.1
    (suited_stops (env a) compare (count a.context) read b.items c.args.asked wanted u c.in_err-typed.field-0.0 before (account b c.infer_part.new.job) c.in_err-typed.ensures.answer)

pub suited_judgement-then-same-answer : goal.argument::suited_judgement-returns-then-same-clause-answer
suited_judgement-then-same-answer t c =
    let a = c.args.theory.now in
    let before = account a c.args.job.now in
    let b = c.infer_part.new.theory in
    let P : List Item → Type 0 = λ xs. item_at xs c.in_ok-typed.typed.of ≡ item_at xs c.args.wanted in
    let same = subst P c.bank.ensures (c.same.ensures.0 c.if-same.true) in
    suited_typed a b c.args.nest c.args.asked c.args.wanted c.args.u c.in_ok-typed.typed before (account b c.infer_part.new.job) c.in_ok-typed.ensures.answer
    (ap tree same ∙ tree_stays a b c.args.wanted c.infer_part.ensures.continues c.requires.wanted.0)

pub suited_judgement-answer : goal.argument::suited_judgement-returns-clause-answer
suited_judgement-answer t c =
    let a = c.args.theory.now in
    let before = account a c.args.job.now in
    let b = c.infer_part.new.theory in
    let x = c.in_ok-typed.typed in
    let h = c.in_ok-typed.ensures.answer in
    let P : List Item → Type 0 = λ xs. item_at xs x.of ≡ item_at xs c.args.wanted in
    let there = term_stays a b c.args.wanted c.infer_part.ensures.continues c.requires.wanted.0 in
    let other : tree_at b.items x.of ≡ tree_at b.items c.args.wanted → ⊥ = λ e.
    false≢true (c.if-same.ensures.1 (subst P (sym c.bank.ensures) (same_items (item_at b.items x.of) (item_at b.items c.args.wanted) h.term.form there.form e))) in
    suited_compared a b c.compared_judgement.new.theory c.args.nest c.args.asked c.args.wanted c.args.u x before (account b c.infer_part.new.job)
    (account c.compared_judgement.new.theory c.compared_judgement.new.job) c.infer_part.ensures.continues c.requires.term.0 c.requires.wanted.0 h other c.compared_judgement.result c.compared_judgement.ensures.answer

pub compared_judgement-in_err-compared-answer : goal.argument::compared_judgement-returns-in_err-compared-clause-answer
compared_judgement-in_err-compared-answer t c =
    let a = c.args.theory.now in
    let before = account a c.args.job.now in
    let p = err_from_is_err_and c.from_residual.result c.from_residual.ensures.1 in
    compared_stopped a c.compare.new.self c.args.nest c.args.asked (tree_at a.items c.args.u) (tree_at a.items c.args.typed.of) (tree_at a.items c.args.wanted) c.in_err-compared.field-0.0 p.0 c.from_residual.result
    before (account c.compare.new.self c.compare.new.job) p.1 p.2 c.in_err-compared.ensures.answer

pub compared_judgement-in_err-sort-in-Same-answer : goal.argument::compared_judgement-returns-in_err-sort-in-Same-clause-answer
compared_judgement-in_err-sort-in-Same-answer t c =
    let a = c.args.theory.now in
    let before = account a c.args.job.now in
    let b = c.compare.new.self in
    let same = sameness t (goal.at.argument::compared_judgement-returns-in_err-sort-in-Same-clause-answer t c).In-Same in
    let d = c.type_again.new.theory in
    let wanted = tree_at a.items c.args.wanted in
    let type = tree_at a.items c.args.typed.of in
    at_err (Suits a d (suits (env a) (Compares (env a) (c.args.nest + 1)) (count a.context) (part_reading c.args.nest (env a) a.context) false c.args.asked type wanted) (tree_at a.items c.args.u) wanted before (account d c.type_again.new.job)) c.from_residual-in_err-sort-in-Same.result c.in_err-sort-in-Same.field-0.0 c.from_residual-in_err-sort-in-Same.ensures.1
    (compared_stopped_again a b c.args.nest c.args.asked type c.args.wanted before (account b c.compare.new.job) c.compare.ensures.continues c.requires.wanted.0 d c.in_err-sort-in-Same.field-0.0
    (account d c.type_again.new.job) same.0 c.in_err-sort-in-Same.ensures.answer)

pub compared_judgement-conclude-requires-follows : goal.argument::compared_judgement-conclude-requires-clause-follows
compared_judgement-conclude-requires-follows t c =
    let a = c.args.theory.now in
    let before = account a c.args.job.now in
    let b = c.compare.new.self in
    let same = sameness t (goal.at.argument::compared_judgement-conclude-requires-clause-follows t c).In-Same in
    let h = c.in_ok-sort-in-Same.ensures.answer in
    conv_wanted a c.compare.new.self c.args.nest c.args.asked (tree_at a.items c.args.typed.of) c.args.wanted before (account c.compare.new.self c.compare.new.job) c.compare.ensures.continues c.requires.wanted.0
    c.type_again.new.theory c.args.typed.judge c.in_ok-sort-in-Same.sort.1 c.in-Same.equal c.args.u _ c.type_again.ensures.continues c.requires.term c.requires.judge same.1 h.has.judged h.has.sort

pub compared_judgement-in_ok-judge-in-Same-answer : goal.argument::compared_judgement-returns-in_ok-judge-in-Same-clause-answer
compared_judgement-in_ok-judge-in-Same-answer t c =
    let a = c.args.theory.now in
    let before = account a c.args.job.now in
    let b = c.compare.new.self in
    let same = sameness t (goal.at.argument::compared_judgement-returns-in_ok-judge-in-Same-clause-answer t c).In-Same in
    let d = c.type_again.new.theory in
    let z = c.conclude.new.self in
    let wanted = tree_at a.items c.args.wanted in
    let type = tree_at a.items c.args.typed.of in
    told_later d z c.type_again.new.job
    (λ w. IsSuited a z (suits (env a) (Compares (env a) (c.args.nest + 1)) (count a.context) (part_reading c.args.nest (env a) a.context) false c.args.asked type wanted) (tree_at a.items c.args.u) wanted before w
    c.in_ok-judge-in-Same.judge) c.conclude.ensures.continues c.type_again.ensures.pairs
    (compared_typed a b c.args.nest c.args.asked type c.args.wanted before (account b c.compare.new.job) c.compare.ensures.continues c.requires.wanted.0 d z c.args.u c.in_ok-sort-in-Same.sort
    c.in_ok-judge-in-Same.judge (account d c.type_again.new.job) c.type_again.ensures.continues c.conclude.ensures.continues c.requires.term same.0 c.in_ok-sort-in-Same.ensures.answer
    c.in_ok-judge-in-Same.ensures.number)

pub compared_judgement-continues : (t : ℕ) (c : goal.argument::compared_judgement-After-conclude t) → Continues c.args.theory.now c.conclude.new.self
compared_judgement-continues t c = c.compare.ensures.continues ⨟ c.type_again.ensures.continues ⨟ c.conclude.ensures.continues

pub compared_judgement-in-Apart-answer : goal.argument::compared_judgement-returns-in-Apart-clause-answer
compared_judgement-in-Apart-answer t c =
    let a = c.args.theory.now in
    let before = account a c.args.job.now in
    let b = c.compare.new.self in
    let P : Compared → Type 0 = λ x. ComparesTypes a b (c.args.nest + 1) (tree_at a.items c.args.typed.of) (tree_at a.items c.args.wanted) before (account b c.compare.new.job) (Ok x) in
    let apart = subst P c.in-Apart.is c.in_ok-compared.ensures.answer in
    compared_refused a b c.args.nest c.args.asked c.args.typed.of c.args.wanted c.in-Apart.left c.in-Apart.right c.in-Apart.under c.not_same.result before (account b c.compare.new.job)
    c.compare.ensures.continues c.requires.of c.requires.wanted.0 apart (c.not_same.ensures b.items)
