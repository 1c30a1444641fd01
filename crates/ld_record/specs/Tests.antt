-- What tests say of the derivations that they keep.
use Rattle.std.specs.Prelude.{◌≡◌, ℕ, List, length}
use Rattle.ld_terms.specs.Tree.{Tree, Star, Box, Var, App, Lam, Pi, Const, Trees, Nil, ◌▸◌}
use Rattle.ld_terms.specs.Item.{Item}
use Rattle.ld_terms.specs.Bank.{StandsFor}
use Rattle.ld_terms.specs.declared.bank.TermId.{TermId}
use Rattle.ld_terms.specs.Known.{Known, Judgement}
use Rattle.ld_record.specs.declared.record.JudgeId.{JudgeId}
use Rattle.ld_record.specs.Growth.{Knows}

abbrev pub judged : (entries : ℕ) → Trees → Tree → Tree → Judgement
judged entries context term type = record { entries = entries; context = context; term = term; type = type }

-- `A : *`
abbrev pub one_type : Trees
one_type = Nil ▸ Star

-- `A : *` and `x : A`
abbrev pub type_and_member : Trees
type_and_member = one_type ▸ Var 0

-- `fun B : * . B`
abbrev pub same_type : Tree
same_type = Lam Star (Var 0)

-- `A : *` and `x : (fun B : * . B) A`
abbrev pub type_and_redex : Trees
type_and_redex = one_type ▸ App same_type (Var 0)

-- the numbers of `*`, `box`, a primitive `A`, and the product of `A` and `A`
pub record AreTerms (items : List Item) (star box a product : TermId) : Type 0 where
  pub star_is : StandsFor items star Star
  pub box_is : StandsFor items box Box
  pub a_is : StandsFor items a (Const 0 Nil)
  pub product_is : StandsFor items product (Pi (Const 0 Nil) (Const 0 Nil))

-- `A : *` over one entry, the same in the context of a variable of `A`, and the product
pub record AreJudged (known : Known) (typed inner formed : JudgeId) : Type 0 where
  pub one : length known.env ≡ 1
  pub typed_is : Knows known typed (judged 1 Nil (Const 0 Nil) Star)
  pub inner_is : Knows known inner (judged 1 (Nil ▸ Const 0 Nil) (Const 0 Nil) Star)
  pub formed_is : Knows known formed (judged 1 Nil (Pi (Const 0 Nil) (Const 0 Nil)) Star)
