use Rattle.std.proofs.Common.{◌≡◌, ◌++◌, ◌∷◌, [], List, sym, subst, arith}
use Rattle.std.proofs.lemmas.Grind.{common_steps}
use Rattle.ld_terms.specs.Bank.{list_at}
use Rattle.ld_terms.specs.declared.bank.TermId.{TermId}
use Rattle.ld_infer.proofs.Prefixing.{AreFirst, first_more}
use Rattle.ld_infer.proofs.instance.prefixes.Goals as goal

pub loop-before-preserved : goal.loop-before-preserved
loop-before-preserved c =
    let items = c.args.bank.now in
    let pushed : c.push.new.self.items ≡ c.loop-before.lists.items ++ c.loop-before.rest ∷ [] = grind (arith, common_steps) in
    let P : List TermId → Type 0 = λ ts. AreFirst items (list_at items c.args.us) c.in-Cons.before ts in
    subst P (sym pushed)
    (first_more items (list_at items c.args.us) c.loop-before.rest c.in-Cons.field-0 c.in-Cons.before c.loop-before.lists.items c.loop-before.invariant c.in-Cons.ensures.tree c.in-Cons.ensures.parts.1)
