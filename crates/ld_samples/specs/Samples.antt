-- The judgements that are derived for tests, and what an entry has of its judgement.
use Rattle.std.specs.Prelude.{◌≡◌, ◌<◌, List, [], length}
use Rattle.ld_terms.specs.Tree.{Star, Box, Var, Lam, Pi, Nil, ◌▸◌}
use Rattle.ld_terms.specs.Derivable.{IsSort}
use Rattle.ld_terms.specs.Entry as named
use Rattle.ld_terms.specs.Item.{Item}
use Rattle.ld_terms.specs.Bank.{StandsFor, tree_at, listed}
use Rattle.ld_terms.specs.Known.{Known, Judgement, judgement_at}
use Rattle.ld_env.specs.declared.env.Entry.{Entry}
use Rattle.ld_env.specs.Entries.{body_of, IsLiveEntry}
use Rattle.ld_record.specs.declared.record.JudgeId.{JudgeId}
use Rattle.ld_record.specs.Growth.{Knows}
use Rattle.ld_samples.specs.declared.judging.SampleTerms.{SampleTerms}
use Rattle.ld_samples.specs.declared.judging.SampleJudges.{SampleJudges}

-- `* : box`, and the same in the context of a variable of type `*`
abbrev pub sort : Judgement
sort = record { entries = 0; context = Nil; term = Star; type = Box }

abbrev pub inner_sort : Judgement
inner_sort = record { entries = 0; context = Nil ▸ Star; term = Star; type = Box }

-- this variable, and the same behind another one
abbrev pub variable : Judgement
variable = record { entries = 0; context = Nil ▸ Star; term = Var 0; type = Star }

abbrev pub outer_variable : Judgement
outer_variable = record { entries = 0; context = Nil ▸ Star ▸ Star; term = Var 1; type = Star }

abbrev pub product : Judgement
product = record { entries = 0; context = Nil; term = Pi Star Star; type = Box }

abbrev pub identity : Judgement
identity = record { entries = 0; context = Nil; term = Lam Star (Var 0); type = Pi Star Star }

-- what the numbers of the terms stand for
pub record AreTerms (items : List Item) (terms : SampleTerms) : Type 0 where
  pub star_is : StandsFor items terms.star Star
  pub over_is : StandsFor items terms.over Box
  pub inner_is : StandsFor items terms.inner (Var 0)
  pub outer_is : StandsFor items terms.outer (Var 1)
  pub product_is : StandsFor items terms.product (Pi Star Star)
  pub identity_is : StandsFor items terms.identity (Lam Star (Var 0))

-- the numbers are those of the judgements, and there are no entries
pub record AreJudged (known : Known) (judges : SampleJudges) : Type 0 where
  pub none : known.env ≡ []
  pub inner_sort_is : Knows known judges.inner_sort inner_sort
  pub variable_is : Knows known judges.variable variable
  pub outer_variable_is : Knows known judges.outer_variable outer_variable
  pub product_is : Knows known judges.product product
  pub identity_is : Knows known judges.identity identity

-- the entry is that of a judgement over no entries
pub record IsOf (items : List Item) (known : Known) (entry : Entry) (j : JudgeId) : Type 0 where
  pub live : j.0 < length known.nodes
  pub entries : (judgement_at known j.0).entries ≡ 0
  pub there : IsLiveEntry items entry
  pub params : listed items Nil entry.params ≡ (judgement_at known j.0).context
  pub body : body_of items entry.body ≡ named.Defined (judgement_at known j.0).term
  pub type : tree_at items entry.of ≡ (judgement_at known j.0).type

-- the entry is a primitive whose type is the term of a judgement over no entries
pub record IsPrimitiveOf (items : List Item) (known : Known) (entry : Entry) (j : JudgeId) : Type 0 where
  pub live : j.0 < length known.nodes
  pub entries : (judgement_at known j.0).entries ≡ 0
  pub sort : IsSort (judgement_at known j.0).type
  pub there : IsLiveEntry items entry
  pub params : listed items Nil entry.params ≡ (judgement_at known j.0).context
  pub body : body_of items entry.body ≡ named.Primitive
  pub type : tree_at items entry.of ≡ (judgement_at known j.0).term
