-- The invariant of the walk: what is known of a place that printed items have come to, and of the lines that stand there.
--
-- Items are printed over Δ, under the flags fs, which stand for the context of the term that is printed. So many lines, each an
-- entry, were appended to Δ.
use Rattle.std.specs.Prelude.{◌≡◌, ◌≤◌, ◌+◌, ℕ, suc, List, Some, length, max, slice_get}
use Rattle.ld_terms.specs.Tree.{Tree, count}
use Rattle.ld_terms.specs.Item.{IsSmall, One, greatest_index, height}
use Rattle.ld_terms.specs.Entry.{Entry, EntryAt, Env, IsFresh, UnfoldsTo}
use Rattle.ld_terms.specs.Derivable.{Derivable, IsLegalContext}
use Rattle.ld_laws.specs.Unfolding.{Unfolded}
use Rattle.ld_laws.proofs.Converting.{Extends}
use Rattle.fb_steps.specs.Items.{Operand, Elim}
use Rattle.fb_steps.specs.Steps.{Spine}
use Rattle.fb_steps.specs.Places.{OpenFlag, Place, context_of, numbers}
use Rattle.fb_steps.specs.Spells.{OperandIs, Applies}
use Rattle.fb_steps.specs.Shown.{IsShownOperand, IsShownBody}
use Rattle.fb_steps.proofs.Lists.{EndsWith}

-- names for lines, no two of them the same
abbrev pub Differ : (ℕ → List ℕ) → Type 0
Differ name = (i j : ℕ) → name i ≡ name j → i ≡ j

-- Δ is followed by so many lines, the open flags begin with fs, their context is legal, and the names of later lines are free.
pub record IsPlace (Δ : Env) (name : ℕ → List ℕ) (fs : List OpenFlag) (lines : ℕ) (p : Place) : Type 0 where
  pub extends : Extends Δ p.env
  pub entries : length p.env ≡ length Δ + lines
  pub marked : length p.marks ≡ length p.env
  pub flags : EndsWith fs p.flags
  pub legal : IsLegalContext p.env (context_of fs)
  pub fresh : (i : ℕ) → lines ≤ i → IsFresh (name (suc i)) p.env

-- entries and their flags stay
pub record Grows (p q : Place) : Type 0 where
  pub entries : Extends p.env q.env
  pub marks : (k : ℕ) (mark : List ℕ) → slice_get p.marks k ≡ Some mark → slice_get q.marks k ≡ Some mark

-- The tree unfolds to the part, in every environment with the place's entries.
abbrev pub UnfoldsIn : Env → (p : Place) → (t part : Tree) → Type 0
UnfoldsIn Δ p t part = (Δ' : Env) → Extends p.env Δ' → Unfolded Δ' (length Δ) t part

-- A line stands for a part of the type: it was made under the flags, with the type as its own, and its body unfolds to the part.
pub record StandsFor (Δ : Env) (fs : List OpenFlag) (p : Place) (number : ℕ) (part type : Tree) : Type 0 where
  pub before : ℕ
  pub number_is : number ≡ suc before
  pub entry : Entry
  pub at : EntryAt p.env (length Δ + before) entry
  pub params_are : entry.params ≡ context_of fs
  pub type_is : entry.type ≡ type
  pub body : Tree
  pub has_body : UnfoldsTo entry.body body
  pub mark : slice_get p.marks (length Δ + before) ≡ Some (numbers fs)
  pub unfolds : UnfoldsIn Δ p body part
  pub small : IsSmall (One part) → count (context_of fs) ≤ 64 → IsSmall (One body)

-- It is no higher than the part, and has no greater index than the part, or than so many flags give.
pub record IsLow (flags : ℕ) (t part : Tree) : Type 0 where
  pub height_le : height t ≤ height part
  pub index_le : greatest_index t ≤ max (greatest_index part) flags

-- A tree over the place's entries takes the place of a part over Δ: it has each type that the part has there, and unfolds to it.
pub record Replaces (Δ : Env) (fs : List OpenFlag) (p : Place) (t part : Tree) : Type 0 where
  pub typed : (type : Tree) → Derivable Δ (context_of fs) part type → Derivable p.env (context_of fs) t type
  pub unfolds : UnfoldsIn Δ p t part

-- what an operand is, and what a spine is, at a line under the flags
pub record OperandFor (Δ : Env) (fs : List OpenFlag) (p : Place) (b : Operand) (part : Tree) : Type 0 where
  pub tree : Tree
  pub is : OperandIs (length Δ) p.marks fs b tree
  pub shown : IsShownOperand Δ (count (context_of fs)) b
  pub replaces : Replaces Δ fs p tree part
  pub low : IsLow (count (context_of fs)) tree part

pub record SpineFor (Δ : Env) (fs : List OpenFlag) (p : Place) (s : Spine) (part : Tree) : Type 0 where
  pub tree : Tree
  pub applies : Applies (length Δ) p.marks fs s.0 s.1 tree
  pub shown : IsShownBody Δ (count (context_of fs)) (Elim s.0 s.1)
  pub replaces : Replaces Δ fs p tree part
  pub low : IsLow (count (context_of fs)) tree part
