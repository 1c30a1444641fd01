use Rattle.std.proofs.Common.{sym, ap}
use Rattle.ld_terms.specs.Tree as spec
use Rattle.ld_terms.specs.Item.{One, Many}
use Rattle.ld_terms.specs.Bank.{list_at}
use Rattle.ld_infer.proofs.Going.{continues_trans}
use Rattle.book_top.specs.Names.{implied as implied_variables, variable_count}
use Rattle.book_top.proofs.Continuing.{list_is, built_as, added, part_stops}
use Rattle.book_top.proofs.Listing.{arguments_small}
use Rattle.book_top.proofs.build.alone.Goals as goal

pub returns-in_err-all-clause-continues : goal.returns-in_err-all-clause-continues
returns-in_err-all-clause-continues c = c.implied_list.ensures.continues

pub returns-in_err-all-clause-built : goal.returns-in_err-all-clause-built
returns-in_err-all-clause-built c =
    let all = implied_variables (variable_count c.args.scope.now) c.args.implied in
    part_stops c.implied_list.new.theory.items (One (spec.Const c.args.entry all)) (Many all) c.in_err-all.field-0.0 c.from_residual.result c.in_err-all.ensures.built
    (arguments_small c.args.entry all) c.from_residual.ensures.1

pub returns-clause-continues : goal.returns-clause-continues
returns-clause-continues c = continues_trans _ _ _ c.implied_list.ensures.continues c.add.ensures.continues

pub returns-clause-built : goal.returns-clause-built
returns-clause-built c =
    let all = implied_variables (variable_count c.args.scope.now) c.args.implied in
    let old = c.implied_list.new.theory.items in
    let items = c.add.new.self.items in
    let k = c.args.entry in
    built_as items (One (spec.Const k all)) (One (spec.Const k (list_at old c.in_ok-all.all))) c.add.result
    (ap (λ us. One (spec.Const k us)) (sym (list_is old c.in_ok-all.all all c.in_ok-all.ensures.built.0)))
    (added items (One (spec.Const k (list_at old c.in_ok-all.all))) c.add.result c.add.ensures.tree c.add.ensures.small c.add.ensures.high)
