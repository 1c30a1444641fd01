-- The parts of two terms, as they are gathered.
use Rattle.std.specs.Prelude.{◌≡◌, ◌≤◌, ℕ, ⊤, Bool, true, false, List, [], ◌∷◌, ◌++◌, length, map, Option, None, Some, All}
use Rattle.ld_terms.specs.Item.{Item}
use Rattle.ld_terms.specs.Bank.{tree_at, IsTermAt}
use Rattle.ld_terms.specs.Known.{Known}
use Rattle.ld_record.specs.declared.record.EqId.{EqId}
use Rattle.ld_reduce.specs.Cost.{Equates}
use Rattle.ld_convert.specs.Apart as spec
use Rattle.ld_convert.specs.declared.parts.Part.{Part}

abbrev pub part_of : List Item → Part → spec.Part
part_of items p = spec.part (tree_at items p.left) (tree_at items p.right) p.under

abbrev pub parts_in : List Item → List Part → List spec.Part
parts_in items ps = map (part_of items) ps

pub record IsLivePart (items : List Item) (p : Part) : Type 0 where
  pub left : IsTermAt items p.left
  pub right : IsTermAt items p.right
  pub under : p.under ≤ 1

-- the parts are behind those that were there
pub record Gathers (items : List Item) (old new : List Part) (parts : Option (List spec.Part)) : Type 0 where
  pub added : List spec.Part
  pub is : parts ≡ Some added
  pub behind : parts_in items new ≡ parts_in items old ++ added
  pub live : All (IsLivePart items) new

-- whether there are parts, and then which
abbrev pub Gathered : List Item → (old new : List Part) → Option (List spec.Part) → Bool → Type 0
Gathered items old new parts true = Gathers items old new parts
Gathered items old new parts false = parts ≡ None

-- an equality for each part
abbrev pub AreSame : Known → (bound : ℕ) → List EqId → List spec.Part → Type 0
AreSame known bound [] [] = ⊤
AreSame known bound (e ∷ es) (p ∷ ps) = Equates known e p.left p.right bound × AreSame known bound es ps
AreSame known bound _ _ = ⊥

-- there are parts, and an equality for each, which unfolds only entries that are there
pub record SameParts (known : Known) (es : List EqId) (o : Option (List spec.Part)) : Type 0 where
  pub parts : List spec.Part
  pub is : o ≡ Some parts
  pub same : AreSame known (length known.env) es parts
