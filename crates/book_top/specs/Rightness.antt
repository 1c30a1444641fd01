-- What the verdict on an item says of what the item's rule asks for.
use Rattle.std.specs.Prelude.{◌≡◌, ℕ, List, Ok}
use Rattle.ld_terms.specs.Tree.{Tree, Trees}
use Rattle.ld_terms.specs.Derivable.{IsLegalContext, Derivable}
use Rattle.ld_laws.specs.Typing.{HasSort}
use Rattle.ld_infer.specs.declared.failure.PathStep.{PathStep}
use Rattle.ld_infer.specs.Reading.{Refusal}
use Rattle.ld_infer.specs.Refusals.{HasNoSort, HoldsAt}
use Rattle.ld_defrules.specs.Parts.{PartOfType, PartOfLine}
use Rattle.fb_parse.specs.Items.{SurfaceItem}
use Rattle.book_top.specs.Book.{Book, Reading, Flag, Prim, Line, closed}
use Rattle.book_top.specs.Verdict.{Verdicts, Accepted, RuleRefused, read_item}

-- the context is legal over the environment, which is legal then
abbrev pub IsLegalBook : Book → Type 0
IsLegalBook b = IsLegalContext b.env b.context

-- what the rule of an item asks for: its type has a sort, or its body has the stated type
abbrev pub HasDerivation : Book → Reading → Type 0
HasDerivation b (Flag type) = HasSort b.env b.context type
HasDerivation b (Prim type) = HasSort b.env b.context type
HasDerivation b (Line body type) = Derivable b.env b.context body type

-- no sort is a type of its type, or its body hasn't the stated type
abbrev pub HasNoDerivation : Book → Reading → Type 0
HasNoDerivation b (Flag type) = HasNoSort b.env b.context type
HasNoDerivation b (Prim type) = HasNoSort b.env b.context type
HasNoDerivation b (Line body type) = ¬ Derivable b.env b.context body type

-- the parts of an item as it is read
abbrev pub PartOfItem : Trees → Reading → List PathStep → Trees → Tree → Type 0
PartOfItem ctx (Flag type) = PartOfType ctx type
PartOfItem ctx (Prim type) = PartOfType ctx type
PartOfItem ctx (Line body type) = PartOfLine ctx body type

-- The item is read so, and has a derivation where the flags beyond its bars are closed.
pub record IsDerivable (b : Book) (i : SurfaceItem) : Type 0 where
  pub reading : Reading
  pub read : read_item b i ≡ Ok reading
  pub derivation : HasDerivation (closed i.bars b) reading

-- The item is read so, and has no derivation where the flags beyond its bars are closed; and there the reason of a refusal holds of
-- the part of the item at its path.
pub record IsUnderivable (b : Book) (i : SurfaceItem) (f : Refusal) : Type 0 where
  pub reading : Reading
  pub read : read_item b i ≡ Ok reading
  pub none : HasNoDerivation (closed i.bars b) reading
  pub because : HoldsAt b.env (PartOfItem (closed i.bars b).context reading) f

-- Over a legal book, an item that is accepted has a derivation.
pub record VerdictDerivable : Type 0 where
  pub derivable : (b : Book) (i : SurfaceItem) (n : ℕ) → IsLegalBook b → Verdicts b i Accepted n → IsDerivable b i

-- Over a legal book, an item that a rule refuses has none, for the reason that is said.
pub record RefusedUnderivable : Type 0 where
  pub underivable : (b : Book) (i : SurfaceItem) (f : Refusal) (n : ℕ) → IsLegalBook b → Verdicts b i (RuleRefused f) n → IsUnderivable b i f
