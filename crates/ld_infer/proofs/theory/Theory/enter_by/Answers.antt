use Rattle.std.proofs.Common.{◌≡◌, ◌≤◌, ◌-◌, ◌++◌, ◌∷◌, [], List, length, ap, sym, ◌∙◌, subst, arith}
use Rattle.std.proofs.lemmas.Grind.{common_steps}
use Rattle.ld_infer.specs.declared.theory.Level.{Level}
use Rattle.ld_infer.specs.declared.variable.Variable.{Variable}
use Rattle.ld_terms.specs.Tree.{Trees, ◌▸◌}
use Rattle.ld_terms.specs.Item.{tree}
use Rattle.ld_terms.specs.Bank.{IsTermAt, tree_at}
use Rattle.ld_env.proofs.CallerLemmas.{length-env_of}
use Rattle.ld_record.specs.Kept.{known_of}
use Rattle.ld_record.proofs.Keeping.{begins_trans}
use Rattle.ld_record.proofs.Growing.{adds_trans, knows_context_later}
use Rattle.ld_record.specs.Growth.{KnowsContext}
use Rattle.ld_infer.specs.Standing.{Standing, KnowsSort}
use Rattle.ld_infer.specs.Theory.{context_of, AreLevels}
use Rattle.ld_infer.proofs.Theories.{theory_adds, theory_levels, levels_push, levels_later, read_level, new_level, variable_later}
use Rattle.ld_infer.proofs.Contexts.{context_of-push}
use Rattle.ld_infer.proofs.Concluding.{last_context, variable_here}
use Rattle.ld_infer.proofs.Going.{enters_kept}
use Rattle.ld_infer.proofs.theory.Theory.enter_by.Goals as goal

pub invariant_of-self-then-is_err : goal.invariant_of-self-then-is_err
invariant_of-self-then-is_err c =
    let items = c.self.inside.bank in
    let adds = adds_trans _ _ _ c.extend.ensures.adds c.emit.ensures.adds in
    let levels : c.pop.new.self.items ≡ c.self.inside.levels.items = grind (arith, common_steps) in
    let variables : c.push-2.new.self.items ≡ c.self.inside.variables.items = grind (arith, common_steps) in
    let Are : List Level → List Variable → Type 0 = λ ls vs. AreLevels items (known_of items c.emit.new.self) ls vs in
    let before = levels_later items _ _ _ _ adds c.self.invariant.levels_are in
    theory_levels _ _ _ _ _ _ _ _ _ (subst (λ ls. Are ls c.push-2.new.self.items) (sym levels) (subst (Are c.self.inside.levels.items) (sym variables) before))
    (theory_adds _ _ _ _ _ _ _ _ c.emit.ensures.sound adds c.self.invariant)

pub invariant_of-self-else-is_err : goal.invariant_of-self-else-is_err
invariant_of-self-else-is_err c =
    let items = c.self.inside.bank in
    let variables = c.self.inside.variables.items in
    let inside : Standing = record { items = items; kept = c.self.inside.deriv; entries = c.self.inside.env; context = context_of items variables } in
    let zero_known = known_of items c.self.inside.deriv in
    let one = known_of items c.extend.new.self in
    let two = known_of items c.emit.new.self in
    let adds = adds_trans _ _ _ c.extend.ensures.adds c.emit.ensures.adds in
    let are = c.self.invariant.levels_are in
    let as_many = are.as_many in
    let of = c.args.of in
    let At : Standing → Type 0 = λ s. IsTermAt s.items of in
    let Sorted : Standing → Type 0 = λ s. KnowsSort s c.args.sort (tree_at s.items of) in
    let there : IsTermAt items of = subst At (sym c.self.view_is) c.requires.of in
    let sorted : KnowsSort inside c.args.sort (tree_at items of) = subst Sorted (sym c.self.view_is) c.requires.sort in
    let outer = read_level items zero_known _ variables (c.len.result - 1) c.index-outer.result.now are (omega arith) c.index-outer.ensures in
    let stays = last_context items zero_known variables (c.len.result - 1) c.index-outer.result.now outer (omega arith) in
    let Extended : Trees → Type 0 = KnowsContext one c.in_ok-ctx.ctx in
    let extended : Extended (context_of items variables ▸ tree_at items of) = subst Extended (ap (λ ctx. ctx ▸ tree_at items of) stays.is) c.in_ok-ctx.ensures.number in
    let many : c.len-2.result ≤ length two.env = omega (arith, length-env_of items c.self.inside.env, ap length c.self.invariant.env, ap length adds.env) in
    let level = new_level two c.in_ok-ctx.ctx c.in_ok-star.star _ (context_of items variables ▸ tree_at items of) (knows_context_later one two _ _ c.emit.ensures.adds extended)
    c.in_ok-star.ensures.number many extended.is (ap tree c.self.invariant.star.item) (ap tree c.self.invariant.box.item) in
    let variable = variable_later items zero_known two _ _ adds (variable_here inside of c.args.sort there sorted) in
    let Are : List Level → List Variable → Type 0 = λ ls vs. AreLevels items two ls vs in
    let levels_pushed : c.push.new.self.items ≡ c.self.inside.levels.items ++ record { ctx = c.in_ok-ctx.ctx; star = c.in_ok-star.star } ∷ [] = grind (arith, common_steps) in
    let pushed : c.push-2.new.self.items ≡ variables ++ record { of = of; sort = c.args.sort } ∷ [] = grind (arith, common_steps) in
    let now = levels_push items two _ variables _ _ (levels_later items zero_known two _ variables adds are) level variable in
    theory_levels _ _ _ _ _ _ _ _ _
    (subst (λ ls. Are ls c.push-2.new.self.items) (sym levels_pushed) (subst (Are (c.self.inside.levels.items ++ record { ctx = c.in_ok-ctx.ctx; star = c.in_ok-star.star } ∷ [])) (sym pushed) now))
    (theory_adds _ _ _ _ _ _ _ _ c.emit.ensures.sound adds c.self.invariant)

pub returns-clause-ok : goal.returns-clause-ok
returns-clause-ok c =
    let items = c.self.inside.bank in
    let variables = c.self.inside.variables.items in
    let inside : Standing = record { items = items; kept = c.self.inside.deriv; entries = c.self.inside.env; context = context_of items variables } in
    let pushed : c.push-2.new.self.items ≡ variables ++ record { of = c.args.of; sort = c.args.sort } ∷ [] = grind (arith, common_steps) in
    enters_kept _ inside _ _ (tree_at items c.args.of) _ c.self.view_is
    (ap (context_of items) pushed ∙ context_of-push items variables (record { of = c.args.of; sort = c.args.sort }))
    (begins_trans _ _ _ c.extend.ensures.begins c.emit.ensures.begins) (adds_trans _ _ _ c.extend.ensures.adds c.emit.ensures.adds)
    (ap (λ (s : Standing). tree_at s.items c.args.of) c.self.view_is)
