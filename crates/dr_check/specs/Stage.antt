-- What a checker has come to, over the items of its bank.
use Rattle.std.specs.Prelude.{◌≡◌, ◌<◌, ℕ, Bool, true, false, List, [], length, map, slice_index_or, All, Some, Result, Ok, Err}
use Rattle.ld_terms.specs.Tree.{Tree}
use Rattle.ld_terms.specs.Item.{Item, One, IsSmall}
use Rattle.ld_terms.specs.Bank.{tree_at, list_at, IsTermAt, IsListAt}
use Rattle.ld_terms.specs.Entry.{Entry, Env}
use Rattle.ld_terms.specs.Known.{Known, Note, FlagNote, EntryNote, Equality, Judgement, no_judgement, line_entry, primitive_entry}
use Rattle.ld_terms.specs.Record.{State, with_term}
use Rattle.ld_terms.specs.declared.bank.TermFault.{TermFault}
use Rattle.ld_terms.specs.declared.bank.TermFault.TheVariants.{High, Memory}
use Rattle.ld_terms.specs.declared.bank.TermId.{TermId}
use Rattle.ld_env.specs.Named.{Named}
use Rattle.ld_env.specs.Entries.{env_of, AreLive}
use Rattle.dr_check.specs.declared.checker.Judged.{Judged}
use Rattle.dr_check.specs.declared.checker.Equated.{Equated}
use Rattle.dr_check.specs.declared.checker.Noted.{Noted}
use Rattle.dr_check.specs.declared.checker.Noted.TheVariants as noted

-- the items of the bank, and the terms and all that is known
pub record Stage : Type 0 where
  pub items : List Item
  pub state : State

abbrev pub judgement_of : List Item → Judged → Judgement
judgement_of items n = record { entries = n.entries; context = list_at items n.ctx; term = tree_at items n.term; type = tree_at items n.of }

abbrev pub equality_of : List Item → Equated → Equality
equality_of items e = record { left = tree_at items e.left; right = tree_at items e.right; bound = e.bound }

abbrev pub flag_note : Judgement → Note
flag_note j = FlagNote j.context j.term

-- a flag of a node, or an entry, by their numbers
abbrev pub note_of : List Judgement → Env → Noted → Note
note_of nodes env (noted.Flag n) = flag_note (slice_index_or nodes n no_judgement)
note_of nodes env (noted.Entry k) = EntryNote (slice_index_or env k (primitive_entry [] no_judgement))

abbrev pub known_of : List Item → List Named → List TermId → List Equated → List Judged → List Noted → Known
known_of items entries contexts equalities nodes notes = record {
  contexts = map (list_at items) contexts;
  equalities = map (equality_of items) equalities;
  nodes = map (judgement_of items) nodes;
  env = env_of items entries;
  notes = map (note_of (map (judgement_of items) nodes) (env_of items entries)) notes;
}

abbrev pub state_of : List Item → List Named → List TermId → List TermId → List Equated → List Judged → List Noted → State
state_of items entries terms contexts equalities nodes notes = record {
  terms = map (tree_at items) terms;
  known = known_of items entries contexts equalities nodes notes;
}

-- the parts of a node and of an equality are terms of the bank
pub record IsJudgedAt (items : List Item) (n : Judged) : Type 0 where
  pub ctx : IsListAt items n.ctx
  pub term : IsTermAt items n.term
  pub of : IsTermAt items n.of

pub record IsEquatedAt (items : List Item) (e : Equated) : Type 0 where
  pub left : IsTermAt items e.left
  pub right : IsTermAt items e.right

abbrev pub IsNoted : (nodes entries : ℕ) → Noted → Type 0
IsNoted nodes entries (noted.Flag n) = n < nodes
IsNoted nodes entries (noted.Entry k) = k < entries

pub record AreTables (items : List Item) (entries : List Named) (terms contexts : List TermId) (equalities : List Equated) (nodes : List Judged) (notes : List Noted) : Type 0 where
  pub live : AreLive items entries
  pub terms_are : All (IsTermAt items) terms
  pub contexts_are : All (IsListAt items) contexts
  pub equalities_are : All (IsEquatedAt items) equalities
  pub nodes_are : All (IsJudgedAt items) nodes
  pub notes_are : All (IsNoted (length nodes) (length entries)) notes

-- A term is added, or refused exactly where it isn't small.
abbrev pub AddsTerm : {T : Type 0} → (old new : State) → Tree → Result T TermFault → Type 0
AddsTerm old new t (Ok v) = IsSmall (One t) × (new ≡ with_term old (Some t))
AddsTerm old new t (Err High) = ¬ IsSmall (One t) × (new ≡ old)
AddsTerm old new t (Err Memory) = new ≡ old

-- the entry of a primitive, or of a line
abbrev pub entry_by : (prim : Bool) → List ℕ → Judgement → Entry
entry_by true name j = primitive_entry name j
entry_by false name j = line_entry name j
