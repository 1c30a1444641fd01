use Rattle.std.proofs.Common.{◌<◌, ◌≤◌, ◌-◌, length, ap, refl, arith}
use Rattle.ld_terms.specs.Tree.{Nil}
use Rattle.ld_terms.specs.Bank.{listed}
use Rattle.ld_env.proofs.CallerLemmas.{length-env_of}
use Rattle.ld_record.specs.Kept.{known_of}
use Rattle.ld_infer.proofs.Theories.{theory_adds, theory_levels, variable_set, levels_later, lifted_variable, read_variable, variable_read, types_set}
use Rattle.ld_infer.proofs.Concluding.{is_variable, ends_with}
use Rattle.ld_infer.proofs.Going.{continues_kept}
use Rattle.ld_infer.proofs.theory.Theory.last_variable.Goals as goal

pub overflow_sub-place-2 : goal.overflow_sub-place-2
overflow_sub-place-2 c = let below = is_variable _ _ c.self.inside.variables.items c.args.out c.self.view_is refl c.requires.there in omega arith

pub invariant_of-self-2 : goal.invariant_of-self-2
invariant_of-self-2 c =
    let items = c.self.inside.bank in
    let variables = c.self.inside.variables.items in
    let place = c.len.result - 1 - c.args.out in
    let v = c.index-variable.result.now in
    let old = known_of items c.self.inside.deriv in
    let new = known_of items c.lift_by_def.new.self in
    let adds = c.lift_by_def.ensures.adds in
    let are = c.self.invariant.levels_are in
    let there = is_variable _ _ c.self.inside.variables.items c.args.out c.self.view_is refl c.requires.there in
    let within : place < length variables = omega arith in
    let variable = read_variable items old _ variables place v are within c.index-variable.ensures in
    let many : c.len-2.result ≤ length new.env = omega (arith, length-env_of items c.self.inside.env, ap length c.self.invariant.env, ap length adds.env) in
    theory_levels _ _ _ _ _ _ _ _ _
    (variable_set items new _ variables place _ (levels_later items old new _ variables adds are) within
    (types_set variables place v c.in_ok-sort.sort (variable_read variables place v within c.index-variable.ensures))
    (lifted_variable items old new _ v c.in_ok-sort.sort c.len-2.result variable c.in_ok-sort.ensures.number many))
    (theory_adds _ _ _ _ _ _ _ _ c.lift_by_def.ensures.sound adds c.self.invariant)

pub returns-clause-ends : goal.returns-clause-ends
returns-clause-ends c =
    let there = is_variable _ _ c.self.inside.variables.items c.args.out c.self.view_is refl c.requires.there in
    ends_with c.self.inside.bank c.self.inside.deriv c.lift_by_def.new.self c.self.inside.env _ _ c.self.inside.levels.items c.self.inside.variables.items c.args.out (c.len.result - 1 - c.args.out)
    c.index-variable.result.now c.in_ok-sort.sort c.len-2.result c.self.invariant c.lift_by_def.ensures.adds there (omega arith) c.index-variable.ensures c.len-2.ensures c.in_ok-sort.ensures.number

pub returns-clause-continues : goal.returns-clause-continues
returns-clause-continues c =
    let variables = c.self.inside.variables.items in
    let place = c.len.result - 1 - c.args.out in
    let v = c.index-variable.result.now in
    let there = is_variable _ _ c.self.inside.variables.items c.args.out c.self.view_is refl c.requires.there in
    let within : place < length variables = omega arith in
    continues_kept _ _ _ _ c.self.view_is
    (ap (listed c.self.inside.bank Nil) (types_set variables place v c.in_ok-sort.sort (variable_read variables place v within c.index-variable.ensures)))
    c.lift_by_def.ensures.begins c.lift_by_def.ensures.adds
