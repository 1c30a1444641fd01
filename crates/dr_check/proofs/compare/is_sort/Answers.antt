use Rattle.std.proofs.Common.{subst, sym}
use Rattle.ld_terms.specs.Derivable.{IsSort}
use Rattle.ld_terms.specs.Item.{tree, IsOne}
use Rattle.dr_check.proofs.Deciding.{yes, no}
use Rattle.dr_check.proofs.Comparing.{a_sort, no_sort}
use Rattle.dr_check.proofs.compare.is_sort.Goals as goal

pub returns-in-Star : goal.returns-in-Star
returns-in-Star c = yes (subst (λ x. IsSort (tree x)) c.node.ensures.tree (a_sort _ _ c.in-Star.is))

pub returns-in_default : goal.returns-in_default
returns-in_default c =
    let one = subst IsOne (sym c.node.ensures.tree) c.requires.form in
    no (λ s. no_sort c.args.bank.now c.node.result one c.in_default.not-Star c.in_default.not-Box_ (subst (λ x. IsSort (tree x)) (sym c.node.ensures.tree) s))
