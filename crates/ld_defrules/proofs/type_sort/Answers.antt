use Rattle.std.proofs.Common.{sym, subst}
use Rattle.ld_terms.specs.Bank.{tree_at}
use Rattle.ld_infer.specs.declared.failure.PathStep.TheVariants.{Of}
use Rattle.ld_infer.specs.Standing.{env, account}
use Rattle.ld_infer.proofs.Stopping.{gives_within}
use Rattle.ld_defrules.specs.declared.ItemFault.{ItemFault}
use Rattle.ld_defrules.specs.Judged.{type_judged, ItemStops}
use Rattle.ld_defrules.proofs.Going.{sort_later}
use Rattle.ld_defrules.proofs.Faults.{item_stops_within}
use Rattle.ld_defrules.proofs.type_sort.Goals as goal

pub returns-in-Ok-clause-answer : goal.returns-in-Ok-clause-answer
returns-in-Ok-clause-answer c =
    let old = c.args.theory.now in
    let new = c.sort_of.new.theory in
    let sorted = c.in-Ok.ensures.answer in
    ((tree_at new.items c.in-Ok.sort.0, gives_within Of _ _ _ _ sorted.gives), sort_later old new (tree_at old.items c.args.of) c.in-Ok.sort c.sort_of.ensures.continues sorted.has)

pub returns-in-Err-clause-answer : goal.returns-in-Err-clause-answer
returns-in-Err-clause-answer c =
    let old = c.args.theory.now in
    let items = c.sort_of.new.theory.items in
    let P : ItemFault → Type 0 = λ f. ItemStops items (type_judged (env old) old.context c.args.rule (tree_at old.items c.args.of)) f (account old c.args.job.now) (account c.sort_of.new.theory c.sort_of.new.job) in
    subst P (sym c.from.ensures) (item_stops_within items Of _ c.in-Err.fault c.within.result _ _ c.in-Err.ensures.answer c.within.ensures)
