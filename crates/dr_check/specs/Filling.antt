-- What is put in for the innermost variables of a body.
use Rattle.std.specs.Prelude.{List}
use Rattle.ld_terms.specs.Tree.{Trees, Nil, ◌▸◌}
use Rattle.ld_terms.specs.Item.{Item}
use Rattle.ld_terms.specs.Bank.{tree_at, list_at, IsTermAt, IsListAt}
use Rattle.dr_check.specs.declared.shape.Filling.{Filling}
use Rattle.dr_check.specs.declared.shape.Filling.TheVariants as filling

abbrev pub filling_of : List Item → Filling → Trees
filling_of items (filling.List us) = list_at items us
filling_of items (filling.One u) = Nil ▸ tree_at items u

abbrev pub IsFillingAt : List Item → Filling → Type 0
IsFillingAt items (filling.List us) = IsListAt items us
IsFillingAt items (filling.One u) = IsTermAt items u
