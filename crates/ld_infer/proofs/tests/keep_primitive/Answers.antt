use Rattle.std.proofs.Common.{◌≡◌, Some, ap, sym, ◌∙◌, subst}
use Rattle.ld_terms.specs.Tree.{Tree, Star, Trees}
use Rattle.ld_terms.specs.Derivable.{IsSort, star}
use Rattle.ld_terms.specs.Item.{tree}
use Rattle.ld_terms.specs.Bank.{tree_at}
use Rattle.ld_infer.specs.Reading.{type_in}
use Rattle.ld_infer.proofs.Going.{sort_known}
use Rattle.ld_infer.proofs.tests.keep_primitive.Goals as goal

some_once : {a b : Tree} → Some a ≡ Some b → a ≡ b
some_once e = cc

pub keep_primitive-requires-clause-judge : goal.keep_primitive-requires-clause-judge
keep_primitive-requires-clause-judge c =
    let holds = c.in_ok-of.ensures.tree in
    let typed = c.in_ok-typed.ensures.typed in
    let added = c.variable.ensures.continues in
    let type : Star ≡ tree_at c.variable.new.self.items c.in_ok-typed.typed.of =
    some_once (ap (λ (ctx : Trees). type_in ctx 1) (sym (c.add.ensures.continues.context ∙ c.in_ok-enter_both.ensures.context)) ∙ typed.type) in
    sort_known _ _ _ _ _ _ added (subst IsSort type star) typed.judged (sym (ap tree (added.items.kept _ holds.live ∙ holds.item)))
