-- What a theory keeps true.
use Rattle.std.specs.Prelude.{◌≡◌, ◌<◌, ◌≤◌, ◌+◌, ◌^◌, ℕ, List, length, map, take, slice_index_or}
use Rattle.ld_terms.specs.Tree.{Tree, Trees, Nil, Star, Box}
use Rattle.ld_terms.specs.Item.{Item}
use Rattle.ld_terms.specs.Bank.{StandsFor, IsTermAt, tree_at, listed}
use Rattle.ld_terms.specs.Derivable.{IsSort}
use Rattle.ld_terms.specs.Known.{Known, context_at, judgement_at}
use Rattle.ld_terms.specs.declared.bank.TermId.{TermId}
use Rattle.ld_env.specs.Named.{Named}
use Rattle.ld_env.specs.Entries.{env_of, AreLive}
use Rattle.ld_record.specs.declared.record.JudgeId.{JudgeId}
use Rattle.ld_record.specs.declared.record.Kept.{Kept}
use Rattle.ld_record.specs.Kept.{known_of, IsSound}
use Rattle.ld_infer.specs.declared.theory.Level.{Level}
use Rattle.ld_infer.specs.declared.variable.Variable.{Variable}

abbrev pub types_of : List Variable → List TermId
types_of variables = map (λ v. v.of) variables

-- the context of these variables
abbrev pub context_of : List Item → List Variable → Trees
context_of items variables = listed items Nil (types_of variables)

-- a judgement of the term and the type in the context, which may be over fewer entries than there are
pub record IsJudgedIn (known : Known) (ctx : Trees) (j : JudgeId) (t : Tree) : Type 0 where
  pub live : j.0 < length known.nodes
  pub entries : (judgement_at known j.0).entries ≤ length known.env
  pub context : (judgement_at known j.0).context ≡ ctx
  pub term : (judgement_at known j.0).term ≡ t

-- a level is a context, with a judgement for `* : box` in it
pub record IsLevel (known : Known) (ctx : Trees) (l : Level) : Type 0 where
  pub there : l.ctx.0 < length known.contexts
  pub is : context_at known l.ctx.0 ≡ ctx
  pub star : IsJudgedIn known ctx l.star Star
  pub box : (judgement_at known l.star.0).type ≡ Box

-- a variable behind a context, whose type has a sort there
pub record IsVariable (items : List Item) (known : Known) (ctx : Trees) (v : Variable) : Type 0 where
  pub term : IsTermAt items v.of
  pub judged : IsJudgedIn known ctx v.sort (tree_at items v.of)
  pub sort : IsSort (judgement_at known v.sort.0).type

abbrev pub no_level : Level
no_level = record { ctx = record { 0 = 0 }; star = record { 0 = 0 } }

abbrev pub no_variable : Variable
no_variable = record { of = record { 0 = 0 }; sort = record { 0 = 0 } }

abbrev pub level_at : List Level → ℕ → Level
level_at levels i = slice_index_or levels i no_level

abbrev pub variable_at : List Variable → ℕ → Variable
variable_at variables i = slice_index_or variables i no_variable

-- There is a level for each prefix of the context, the empty one first, and each variable stands behind the one of those before it.
pub record AreLevels (items : List Item) (known : Known) (levels : List Level) (variables : List Variable) : Type 0 where
  pub as_many : length levels ≡ length variables + 1
  pub level : (i : ℕ) → i ≤ length variables → IsLevel known (context_of items (take i variables)) (level_at levels i)
  pub variable : (i : ℕ) → i < length variables → IsVariable items known (context_of items (take i variables)) (variable_at variables i)

pub record IsTheory (items : List Item) (kept : List Kept) (entries : List Named) (star_term box_term : TermId) (levels : List Level) (variables : List Variable) : Type 0 where
  pub sound : IsSound items kept
  pub env : env_of items entries ≡ (known_of items kept).env
  pub live : AreLive items entries
  pub star : StandsFor items star_term Star
  pub box : StandsFor items box_term Box
  pub levels_are : AreLevels items (known_of items kept) levels variables
  pub room : length (known_of items kept).env < 2 ^ 32
