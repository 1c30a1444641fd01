use Rattle.std.proofs.Common.{◌≡◌, ◌-◌, suc, ap, sym, subst, ◌∙◌, arith, add-one}
use Rattle.ld_terms.specs.Tree.{Trees, Var, ◌▸◌}
use Rattle.ld_terms.specs.Item.{Many, IsSmall}
use Rattle.ld_terms.specs.Bank.{ListStandsFor, list_at}
use Rattle.book_top.specs.Names.{implied, variable_count}
use Rattle.ld_infer.proofs.Going.{continues_trans}
use Rattle.book_top.proofs.Continuing.{list_is, part_stops}
use Rattle.book_top.proofs.Listing.{implied_small}
use Rattle.book_top.proofs.build.implied_list.Goals as goal

pub returns-in_err-list-2-clause-continues : goal.returns-in_err-list-2-clause-continues
returns-in_err-list-2-clause-continues c = continues_trans _ _ _ c.loop-place.invariant.0 c.variable_more.ensures.continues

pub returns-in_err-list-2-clause-built : goal.returns-in_err-list-2-clause-built
returns-in_err-list-2-clause-built c =
    let l = c.loop-place in
    let v = variable_count c.args.scope.now in
    let u : Trees = list_at l.theory.items l.list ▸ Var (c.variable_count-variables.result - 1 - l.place) in
    let index : c.variable_count-variables.result - 1 - l.place ≡ v - suc l.place = omega (arith, c.variable_count-variables.ensures) in
    let same : u ≡ implied v (suc l.place) = λ i. list_is l.theory.items l.list (implied v l.place) l.invariant.1 i ▸ Var (index i) in
    let Small : Trees → Type 0 = λ us. IsSmall (Many us) in
    part_stops c.variable_more.new.theory.items (Many (implied v c.args.implied)) (Many u) c.in_err-list-2.field-0.0 c.from_residual-in_err-list-2.result c.in_err-list-2.ensures.built
    (λ h. subst Small (sym same) (implied_small v (suc l.place) c.args.implied (omega (arith, c.loop-place-test.true)) h))
    c.from_residual-in_err-list-2.ensures.1

pub loop-place-preserved : goal.loop-place-preserved
loop-place-preserved c =
    let l = c.loop-place in
    let v = variable_count c.args.scope.now in
    let u : Trees = list_at l.theory.items l.list ▸ Var (c.variable_count-variables.result - 1 - l.place) in
    let index : c.variable_count-variables.result - 1 - l.place ≡ v - suc l.place = omega (arith, c.variable_count-variables.ensures) in
    let same : u ≡ implied v (suc l.place) = λ i. list_is l.theory.items l.list (implied v l.place) l.invariant.1 i ▸ Var (index i) in
    let P : Trees → Type 0 = λ us. ListStandsFor c.variable_more.new.theory.items c.in_ok-list-2.list us × IsSmall (Many us) in
    let built = subst P (same ∙ ap (implied v) (sym (add-one l.place))) c.in_ok-list-2.ensures.built in
    (continues_trans _ _ _ l.invariant.0 c.variable_more.ensures.continues, built.0, built.1)
