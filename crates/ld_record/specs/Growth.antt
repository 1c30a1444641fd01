-- What is known of a number, and how what is known grows.
use Rattle.std.specs.Prelude.{◌≡◌, ◌<◌, ◌≤◌, ℕ, List, length}
use Rattle.ld_terms.specs.Tree.{Trees}
use Rattle.ld_terms.specs.Item.{Item}
use Rattle.ld_terms.specs.Entry.{Primitive}
use Rattle.ld_terms.specs.Known.{Known, Equality, Judgement, context_at, equality_at, judgement_at}
use Rattle.ld_record.specs.declared.record.JudgeId.{JudgeId}
use Rattle.ld_record.specs.declared.record.CtxId.{CtxId}
use Rattle.ld_record.specs.declared.record.EqId.{EqId}
use Rattle.ld_record.specs.declared.record.Judge.{Judge}
use Rattle.ld_record.specs.declared.record.Step.{Step}
use Rattle.ld_record.specs.declared.record.Step.TheVariants as step
use Rattle.ld_record.specs.Follows.{entry_at, IsDefined}
use Rattle.ld_record.specs.Kept.{HasNumbers, judgement_of}

-- the number is that of this judgement
pub record Knows (known : Known) (j : JudgeId) (s : Judgement) : Type 0 where
  pub live : j.0 < length known.nodes
  pub is : judgement_at known j.0 ≡ s

-- the number is that of this context
pub record KnowsContext (known : Known) (c : CtxId) (ctx : Trees) : Type 0 where
  pub live : c.0 < length known.contexts
  pub is : context_at known c.0 ≡ ctx

-- the number is that of this equality
pub record KnowsEquality (known : Known) (e : EqId) (q : Equality) : Type 0 where
  pub live : e.0 < length known.equalities
  pub is : equality_at known e.0 ≡ q

-- what a judgement says of its numbers
pub record IsNodeOf (items : List Item) (known : Known) (judge : Judge) (j : JudgeId) : Type 0 where
  pub numbers : HasNumbers items known judge
  pub is : judgement_of items known judge ≡ judgement_at known j.0

-- Contexts, equalities and judgements are added, and nothing else.
pub record Adds (old new : Known) : Type 0 where
  pub env : new.env ≡ old.env
  pub notes : new.notes ≡ old.notes
  pub contexts : length old.contexts ≤ length new.contexts
  pub context : (c : ℕ) → c < length old.contexts → context_at new c ≡ context_at old c
  pub equalities : length old.equalities ≤ length new.equalities
  pub equality : (e : ℕ) → e < length old.equalities → equality_at new e ≡ equality_at old e
  pub nodes : length old.nodes ≤ length new.nodes
  pub node : (n : ℕ) → n < length old.nodes → judgement_at new n ≡ judgement_at old n

-- the judgement over the first entries, up to this number
abbrev pub over_first : Judgement → ℕ → Judgement
over_first s n = record s { entries = n }

-- the rule leads over the entry from a judgement over those before it
abbrev pub LeadsOver : Known → (entry : ℕ) → JudgeId → Step → Type 0
LeadsOver known entry j (step.Def n) = (n ≡ j) × IsDefined (entry_at known.env entry).body
LeadsOver known entry j (step.DefPrim n) = (n ≡ j) × ((entry_at known.env entry).body ≡ Primitive)
LeadsOver known entry j _ = ⊥
