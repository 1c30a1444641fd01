use Rattle.std.proofs.Common.{◌≡◌, ◌<◌, ◌+◌, ◌-◌, List, length, take, ap, ◌∙◌, sym, subst, arith}
use Rattle.std.proofs.lemmas.Grind.{common_steps}
use Rattle.ld_terms.specs.Tree.{Trees, count}
use Rattle.ld_record.specs.Kept.{known_of}
use Rattle.ld_infer.specs.declared.theory.Level.{Level}
use Rattle.ld_infer.specs.declared.variable.Variable.{Variable}
use Rattle.ld_infer.specs.Standing.{Standing, without_last}
use Rattle.ld_infer.specs.Theory.{context_of, AreLevels}
use Rattle.ld_infer.proofs.Contexts.{count-context_of, context_of-pop}
use Rattle.ld_infer.proofs.Theories.{theory_levels, levels_take}
use Rattle.ld_infer.proofs.theory.Theory.leave.Goals as goal
use Rattle.ld_infer.proofs.theory.Theory.leave.Goals.{After-pop-2}

-- there are variables
some : (c : After-pop-2) → 0 < length c.self.inside.variables.items
some c =
    let all = sym (count-context_of c.self.inside.bank c.self.inside.variables.items) ∙ ap (λ (s : Standing). count s.context) c.self.view_is in
    omega (arith, all, c.requires)

popped : (c : After-pop-2) → c.pop-2.new.self.items ≡ take (length c.self.inside.variables.items - 1) c.self.inside.variables.items
popped c = let there = some c in grind (arith, common_steps)

pub invariant_of-self : goal.invariant_of-self
invariant_of-self c =
    let variables = c.self.inside.variables.items in
    let levels = c.self.inside.levels.items in
    let n = length variables - 1 in
    let as_many = c.self.invariant.levels_are.as_many in
    let there = some c in
    let fewer : c.pop.new.self.items ≡ take (length levels - 1) levels = grind (arith, common_steps) in
    let many : length levels - 1 ≡ n + 1 = omega arith in
    let Are : List Level → List Variable → Type 0 = λ ls vs. AreLevels c.self.inside.bank (known_of c.self.inside.bank c.self.inside.deriv) ls vs in
    let are : Are (take (n + 1) levels) (take n variables) = levels_take _ _ levels variables n c.self.invariant.levels_are (omega arith) in
    theory_levels _ _ _ _ _ _ _ _ _
    (subst (λ ls. Are ls c.pop-2.new.self.items) (ap (λ k. take k levels) (sym many) ∙ sym fewer) (subst (Are (take (n + 1) levels)) (sym (popped c)) are))
    c.self.invariant

pub returns : goal.returns
returns c =
    let inside : Standing = record { items = c.self.inside.bank; kept = c.self.inside.deriv; entries = c.self.inside.env; context = context_of c.self.inside.bank c.self.inside.variables.items } in
    ap (λ (ctx : Trees). record inside { context = ctx }) (ap (context_of c.self.inside.bank) (popped c) ∙ context_of-pop c.self.inside.bank c.self.inside.variables.items (some c))
    ∙ ap (λ (s : Standing). record s { context = without_last s.context }) c.self.view_is
