use Rattle.std.proofs.Common.{subst, IfOk}
use Rattle.ld_terms.specs.Tree.{Pi, Const, Nil}
use Rattle.ld_terms.specs.Item.{Item, One, tree}
use Rattle.ld_terms.specs.Bank.{Holds, IsTermAt}
use Rattle.ld_record.proofs.CallerLemmas.{term_there}
use Rattle.ld_record.proofs.sample.product.Goals as goal

pub add-requires : goal.add-requires
add-requires c =
    let there : IsTermAt c.args.bank.now c.args.a = term_there c.args.bank.now c.args.a (Const 0 Nil) c.requires in
    (there, there)

pub returns-clause-tree : goal.returns-clause-tree
returns-clause-tree c =
    let P : Item → Type 0 = λ x. IfOk c.add.result (λ t. Holds c.add.new.self t (One (Pi (tree x) (tree x)))) in
    subst P c.requires.item c.add.ensures.tree

pub returns-clause-kept : goal.returns-clause-kept
returns-clause-kept c = c.add.ensures.kept
