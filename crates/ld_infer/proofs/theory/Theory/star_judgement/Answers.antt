use Rattle.std.proofs.Common.{◌≤◌, ◌-◌, length, ap, refl, subst, arith}
use Rattle.ld_terms.specs.Tree.{Star, Box}
use Rattle.ld_terms.specs.Known.{Judgement}
use Rattle.ld_env.proofs.CallerLemmas.{length-env_of}
use Rattle.ld_record.specs.Kept.{known_of}
use Rattle.ld_record.specs.Growth.{Knows}
use Rattle.ld_infer.specs.Standing.{Standing, here}
use Rattle.ld_infer.specs.Theory.{context_of}
use Rattle.ld_infer.proofs.Theories.{theory_adds, theory_levels, level_set, levels_later, lifted_level, read_level}
use Rattle.ld_infer.proofs.Concluding.{here_level}
use Rattle.ld_infer.proofs.theory.Theory.star_judgement.Goals as goal

pub invariant_of-self-2 : goal.invariant_of-self-2
invariant_of-self-2 c =
    let items = c.self.inside.bank in
    let variables = c.self.inside.variables.items in
    let old = known_of items c.self.inside.deriv in
    let new = known_of items c.lift_by_def.new.self in
    let adds = c.lift_by_def.ensures.adds in
    let are = c.self.invariant.levels_are in
    let as_many = are.as_many in
    let within : c.len-place.result - 1 ≤ length variables = omega arith in
    let level = read_level items old _ variables _ _ are within c.index-level.ensures in
    let many : c.len.result ≤ length new.env = omega (arith, length-env_of items c.self.inside.env, ap length c.self.invariant.env, ap length adds.env) in
    theory_levels _ _ _ _ _ _ _ _ _
    (level_set items new _ variables _ _ (levels_later items old new _ variables adds are) within (lifted_level old new _ _ _ c.len.result adds level c.in_ok-star.ensures.number many))
    (theory_adds _ _ _ _ _ _ _ _ c.lift_by_def.ensures.sound adds c.self.invariant)

pub returns-clause-number : goal.returns-clause-number
returns-clause-number c =
    let new = known_of c.self.inside.bank c.lift_by_def.new.self in
    let inside : Standing = record { items = c.self.inside.bank; kept = c.self.inside.deriv; entries = c.self.inside.env; context = context_of c.self.inside.bank c.self.inside.variables.items } in
    let P : Standing → Type 0 = λ s. Knows new c.in_ok-star.star (here s Star Box) in
    let Q : Judgement → Type 0 = λ s. Knows new c.in_ok-star.star s in
    let as_many = c.self.invariant.levels_are.as_many in
    subst P c.self.view_is
    (subst Q (here_level inside _ _ c.self.inside.levels.items c.self.inside.variables.items (c.len-place.result - 1) c.index-level.result.now c.len.result c.self.invariant refl (omega arith) c.index-level.ensures c.len.ensures)
    c.in_ok-star.ensures.number)
