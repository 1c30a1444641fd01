-- The parts of an item: the first step of a path leads into its type or into a line's body, and the rest to a part of that.
use Rattle.std.specs.Prelude.{List, ◌∷◌}
use Rattle.ld_terms.specs.Tree.{Tree, Trees}
use Rattle.ld_infer.specs.declared.failure.PathStep.{PathStep}
use Rattle.ld_infer.specs.declared.failure.PathStep.TheVariants.{Of, Body}
use Rattle.ld_infer.specs.Parts.{PartAt}

-- of a flag or a primitive
pub data PartOfType (ctx : Trees) (type : Tree) : List PathStep → Trees → Tree → Type 0 where
  in_type : {inner : Trees} {t : Tree} {path : List PathStep} → PartAt ctx type path inner t → PartOfType ctx type (Of ∷ path) inner t

-- of a line
pub data PartOfLine (ctx : Trees) (body type : Tree) : List PathStep → Trees → Tree → Type 0 where
  in_type : {inner : Trees} {t : Tree} {path : List PathStep} → PartAt ctx type path inner t → PartOfLine ctx body type (Of ∷ path) inner t
  in_body : {inner : Trees} {t : Tree} {path : List PathStep} → PartAt ctx body path inner t → PartOfLine ctx body type (Body ∷ path) inner t
