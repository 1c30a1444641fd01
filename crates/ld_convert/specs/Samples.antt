-- Lines for the tests.
use Rattle.std.specs.Prelude.{◌≡◌, ◌<◌, ◌∷◌, [], List}
use Rattle.ld_terms.specs.Tree.{Nil, ◌▸◌}
use Rattle.ld_terms.specs.Entry as named
use Rattle.ld_terms.specs.Item.{Item}
use Rattle.ld_terms.specs.Bank.{tree_at, list_at, IsTermAt}
use Rattle.ld_terms.specs.declared.bank.TermId.{TermId}
use Rattle.ld_terms.specs.Known.{line_entry, primitive_entry}
use Rattle.ld_samples.specs.Samples.{inner_sort, variable}

-- each with a parameter x of type `*`: the primitive `p : *`, `c := *` and `k := x`
abbrev pub lines : named.Env
lines = primitive_entry (112 ∷ []) inner_sort ∷ line_entry (99 ∷ []) inner_sort ∷ line_entry (107 ∷ []) variable ∷ []

-- the list has this term alone
pub record IsOnly (items : List Item) (us u : TermId) : Type 0 where
  pub term : IsTermAt items u
  pub is : list_at items us ≡ Nil ▸ tree_at items u
  pub below : u.0 < us.0
