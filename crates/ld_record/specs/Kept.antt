-- What the records of a derivation say, over the items of a bank, and when each is an instance of its rule.
use Rattle.std.specs.Prelude.{◌≡◌, ◌<◌, ◌≤◌, ℕ, Bool, true, false, List, [], ◌∷◌, length, take}
use Rattle.ld_terms.specs.Tree.{Tree, ◌▸◌}
use Rattle.ld_terms.specs.Item.{Item}
use Rattle.ld_terms.specs.Bank.{tree_at, IsTermAt}
use Rattle.ld_terms.specs.Entry as named
use Rattle.ld_terms.specs.Known.{Known, nothing, Equality, Judgement, context_at, judgement_at, line_entry, primitive_entry, bound_by, MayBeLine, MayBePrimitive, MayBeFlag, with_context, with_equality, with_node, with_entry, with_flag}
use Rattle.ld_terms.specs.declared.bank.TermId.{TermId}
use Rattle.ld_record.specs.declared.record.JudgeId.{JudgeId}
use Rattle.ld_record.specs.declared.record.CtxId.{CtxId}
use Rattle.ld_record.specs.declared.record.Judge.{Judge}
use Rattle.ld_record.specs.declared.record.EqStep.{EqStep}
use Rattle.ld_record.specs.declared.record.Step.{Step}
use Rattle.ld_record.specs.declared.record.Kept.{Kept}
use Rattle.ld_record.specs.declared.record.Kept.TheVariants.{Context, Equal, Node, Entry, Flag}
use Rattle.ld_record.specs.Follows.{Follows}
use Rattle.ld_record.specs.Equal.{eq_rule_of, FollowsEqual}

-- the judgement that a record's numbers stand for
abbrev pub judgement_of : List Item → Known → Judge → Judgement
judgement_of items known judge = record {
  entries = judge.entries;
  context = context_at known judge.ctx.0;
  term = tree_at items judge.term;
  type = tree_at items judge.of;
}

-- the equality that the numbers of two terms stand for
abbrev pub equality_of : List Item → Known → (left right : TermId) → EqStep → Equality
equality_of items known left right step = record {
  left = tree_at items left;
  right = tree_at items right;
  bound = bound_by known (tree_at items left) (eq_rule_of step);
}

-- the entry of a primitive, or of a line
abbrev pub entry_by : (prim : Bool) → List ℕ → Judgement → named.Entry
entry_by true name j = primitive_entry name j
entry_by false name j = line_entry name j

abbrev pub with_kept : List Item → Known → Kept → Known
with_kept items known (Context c t) = with_context known (context_at known c.0 ▸ tree_at items t)
with_kept items known (Equal left right step) = with_equality known (equality_of items known left right step)
with_kept items known (Node judge step) = with_node known (judgement_of items known judge)
with_kept items known (Entry name j prim) = with_entry known (entry_by prim name (judgement_at known j.0))
with_kept items known (Flag j) = with_flag known (judgement_at known j.0)

abbrev pub known_after : List Item → Known → List Kept → Known
known_after items known [] = known
known_after items known (k ∷ ks) = known_after items (with_kept items known k) ks

-- what the records have made known
abbrev pub known_of : List Item → List Kept → Known
known_of items kept = known_after items nothing kept

-- the tree is the term of a judgement
pub record IsJudged (known : Known) (t : Tree) : Type 0 where
  pub number : ℕ
  pub live : number < length known.nodes
  pub term : (judgement_at known number).term ≡ t

-- a context is there, and is extended by the term of a judgement
pub record FitsContext (items : List Item) (known : Known) (c : CtxId) (t : TermId) : Type 0 where
  pub context : c.0 < length known.contexts
  pub term : IsTermAt items t
  pub judged : IsJudged known (tree_at items t)

-- two terms are equal by the rule
pub record FitsEqual (items : List Item) (known : Known) (left right : TermId) (step : EqStep) : Type 0 where
  pub left_there : IsTermAt items left
  pub right_there : IsTermAt items right
  pub follows : FollowsEqual known (tree_at items left) (tree_at items right) step

-- the numbers are those of terms, of a context and of entries
pub record HasNumbers (items : List Item) (known : Known) (judge : Judge) : Type 0 where
  pub entries : judge.entries ≤ length known.env
  pub context : judge.ctx.0 < length known.contexts
  pub term : IsTermAt items judge.term
  pub of : IsTermAt items judge.of

pub record FitsNode (items : List Item) (known : Known) (judge : Judge) (step : Step) : Type 0 where
  pub numbers : HasNumbers items known judge
  pub follows : Follows known (judgement_of items known judge) step

abbrev pub MayBeEntry : (prim : Bool) → Known → List ℕ → ℕ → Type 0
MayBeEntry true known name n = MayBePrimitive known name n
MayBeEntry false known name n = MayBeLine known name n

pub record FitsEntry (known : Known) (name : List ℕ) (j : JudgeId) (prim : Bool) : Type 0 where
  pub live : j.0 < length known.nodes
  pub may : MayBeEntry prim known name j.0

pub record FitsFlag (known : Known) (j : JudgeId) : Type 0 where
  pub live : j.0 < length known.nodes
  pub may : MayBeFlag known j.0

-- a record meets its condition over what is known
abbrev pub Fits : List Item → Known → Kept → Type 0
Fits items known (Context c t) = FitsContext items known c t
Fits items known (Equal left right step) = FitsEqual items known left right step
Fits items known (Node judge step) = FitsNode items known judge step
Fits items known (Entry name j prim) = FitsEntry known name j prim
Fits items known (Flag j) = FitsFlag known j

abbrev pub AreSound : List Item → Known → List Kept → Type 0
AreSound items known [] = Unit {0}
AreSound items known (k ∷ ks) = Fits items known k × AreSound items (with_kept items known k) ks

-- each record meets its condition over the earlier ones
pub record IsSound (items : List Item) (kept : List Kept) : Type 0 where
  pub all : AreSound items nothing kept

-- Records are added at the end.
pub record Begins (old new : List Kept) : Type 0 where
  pub front : take (length old) new ≡ old
