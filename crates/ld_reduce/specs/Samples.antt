-- Lines for the tests.
use Rattle.std.specs.Prelude.{[], ◌∷◌}
use Rattle.ld_terms.specs.Entry as named
use Rattle.ld_terms.specs.Known.{line_entry}
use Rattle.ld_samples.specs.Samples.{outer_variable, product, identity}

-- `q := all x : *. *`, `f := fun x : *. x`, `k := x` with the parameters x and y of type `*`
abbrev pub lines : named.Env
lines = line_entry (113 ∷ []) product ∷ line_entry (102 ∷ []) identity ∷ line_entry (107 ∷ []) outer_variable ∷ []
