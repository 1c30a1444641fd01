-- The trees that printed items show: terms over the entries that were there before them, and the flags at the item's depth.
use Rattle.std.specs.Prelude.{◌<◌, ℕ, List, All, ⊤}
use Rattle.ld_terms.specs.Entry.{Env}
use Rattle.ld_terms.specs.Named.{IsWellFormed}
use Rattle.fb_steps.specs.Items.{Operand, Term, OfLine, LineBody, Plain, Intro, Elim, Item, Flag, Line}

abbrev pub IsShownOperand : Env → (depth : ℕ) → Operand → Type 0
IsShownOperand Δ depth (Term t) = IsWellFormed Δ depth t
IsShownOperand Δ depth (OfLine number) = ⊤

abbrev pub IsShownBody : Env → (depth : ℕ) → LineBody → Type 0
IsShownBody Δ depth (Plain t) = IsWellFormed Δ depth t
IsShownBody Δ depth (Intro number) = ⊤
IsShownBody Δ depth (Elim f bs) = IsWellFormed Δ depth f × All (IsShownOperand Δ depth) bs

abbrev pub IsShown : Env → Item → Type 0
IsShown Δ (Flag depth type) = IsWellFormed Δ depth type
IsShown Δ (Line depth number body type part) = IsShownBody Δ depth body × IsWellFormed Δ depth type

abbrev pub AreShown : Env → List Item → Type 0
AreShown Δ items = All (IsShown Δ) items

-- no flag is opened where 64 are open
abbrev pub HasRoom : Item → Type 0
HasRoom (Flag depth type) = depth < 64
HasRoom (Line depth number body type part) = ⊤
