use Rattle.std.proofs.Common.{◌≡◌, ◌++◌, ◌∷◌, [], List, get_or, ap, sym, ◌∙◌, refl, subst, arith, All}
use Rattle.std.proofs.lemmas.Grind.{common_steps}
use Rattle.std.proofs.lemmas.List.{take_all, map_more}
use Rattle.ld_terms.specs.Tree.{Nil}
use Rattle.ld_terms.specs.Bank.{listed, IsTermAt}
use Rattle.ld_terms.specs.declared.bank.TermId.{TermId}
use Rattle.ld_infer.specs.declared.variable.Variable.{Variable}
use Rattle.ld_infer.specs.Standing.{Standing}
use Rattle.ld_infer.specs.Theory.{types_of, no_variable}
use Rattle.ld_infer.proofs.Contexts.{types_live}
use Rattle.ld_infer.proofs.theory.Theory.parameters.Goals as goal
use Rattle.ld_infer.proofs.theory.Theory.parameters.Goals.{After-from_vec}

pub loop-variable-preserved : goal.loop-variable-preserved
loop-variable-preserved c =
    let items = c.deref-variable-items.result.now in
    let i = c.loop-variable.variable-index in
    let of : Variable → TermId = λ v. v.of in
    let pushed : c.push.new.self.items ≡ c.loop-variable.types.items ++ (get_or items i no_variable).of ∷ [] = grind (arith, common_steps) in
    pushed ∙ ap (λ ts. ts ++ (get_or items i no_variable).of ∷ []) c.loop-variable.invariant ∙ sym (map_more of items i no_variable c.loop-variable-test.true)

-- the types of all variables
all : (c : After-from_vec) → c.from_vec.result ≡ types_of c.self.inside.variables.items
all c =
    let items = c.deref-variable-items.result.now in
    c.from_vec.ensures ∙ c.loop-variable.invariant ∙ ap types_of (take_all c.loop-variable.variable-index items c.loop-variable-test.false) ∙ ap types_of c.deref-variable-items.ensures.value

pub returns-clause-types : goal.returns-clause-types
returns-clause-types c =
    let P : Standing → Type 0 = λ s. listed s.items Nil (types_of c.self.inside.variables.items) ≡ s.context in
    ap (listed c.args.self.now.items Nil) (all c) ∙ subst P c.self.view_is refl

pub returns-clause-terms : goal.returns-clause-terms
returns-clause-terms c =
    let P : Standing → Type 0 = λ s. All (IsTermAt s.items) (types_of c.self.inside.variables.items) in
    let Q : List TermId → Type 0 = λ ts. All (IsTermAt c.args.self.now.items) ts in
    subst Q (sym (all c)) (subst P c.self.view_is (types_live c.self.inside.bank c.self.inside.variables.items (λ i l. (c.self.invariant.levels_are.variable i l).term)))
