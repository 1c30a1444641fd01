-- How a variable is typed: in the context that ends with it, and then with each later variable.
use Rattle.std.specs.Prelude.{◌≡◌, ℕ, suc, length, Some}
use Rattle.ld_terms.specs.Tree.{Tree, Trees, Var, ◌▸◌}
use Rattle.ld_terms.specs.Item.{One, IsSmall}
use Rattle.ld_terms.specs.Bank.{IsTermAt, tree_at}
use Rattle.ld_terms.specs.Derivable.{IsSort}
use Rattle.ld_terms.specs.Known.{Judgement}
use Rattle.ld_record.specs.declared.record.JudgeId.{JudgeId}
use Rattle.ld_record.specs.Growth.{Knows}
use Rattle.ld_infer.specs.declared.variable.Variable.{Variable}
use Rattle.ld_infer.specs.declared.variable.VariableTyped.{VariableTyped}
use Rattle.ld_infer.specs.Reading.{type_in}
use Rattle.ld_infer.specs.Standing.{Standing, known, env, without}

-- the judgement of a term and its type in a context, over all entries
abbrev pub judged_in : Standing → Trees → Tree → Tree → Judgement
judged_in s ctx t type = record { entries = length (env s); context = ctx; term = t; type = type }

-- the number is that of a judgement, in a context, of the term and a sort of it
pub record KnowsSortIn (s : Standing) (ctx : Trees) (j : JudgeId) (t : Tree) : Type 0 where
  pub sort : Tree
  pub is : IsSort sort
  pub knows : Knows (known s) j (judged_in s ctx t sort)

-- The context without so many variables ends with this one, whose type has a sort in the context before it.
pub record EndsWith (s : Standing) (out : ℕ) (v : Variable) : Type 0 where
  pub term : IsTermAt s.items v.of
  pub last : without out s.context ≡ without (suc out) s.context ▸ tree_at s.items v.of
  pub sort : KnowsSortIn s (without (suc out) s.context) v.sort (tree_at s.items v.of)

-- a small type, which has a sort in the context without so many variables
pub record IsTypeIn (s : Standing) (out : ℕ) (v : Variable) : Type 0 where
  pub term : IsTermAt s.items v.of
  pub small : IsSmall (One (tree_at s.items v.of))
  pub sort : KnowsSortIn s (without out s.context) v.sort (tree_at s.items v.of)

-- the type of a variable of the context without so many, with its judgements
pub record IsTypedIn (s : Standing) (out i : ℕ) (v : VariableTyped) : Type 0 where
  pub term : IsTermAt s.items v.of
  pub type : type_in (without out s.context) i ≡ Some (tree_at s.items v.of)
  pub small : IsSmall (One (tree_at s.items v.of))
  pub judged : Knows (known s) v.judge (judged_in s (without out s.context) (Var i) (tree_at s.items v.of))
  pub sorted : KnowsSortIn s (without out s.context) v.sort (tree_at s.items v.of)

-- a variable's type is not small
abbrev pub IsHighIn : Trees → ℕ → Type 0
IsHighIn ctx i = (a : Tree) → type_in ctx i ≡ Some a → ¬ IsSmall (One a)
