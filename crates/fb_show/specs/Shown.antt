-- What the parts of the code give.
use Rattle.std.specs.Prelude.{ℕ, suc, Bool, true, false, if◌then◌else◌, List, [], ◌++◌, map, length, slice_get, codes, decimal}
use Rattle.ld_terms.specs.Tree.{Tree, App, Lam, Pi}
use Rattle.ld_terms.specs.Item.{Item, One, Many}
use Rattle.ld_env.specs.Named.{Named}
use Rattle.fb_parse.specs.Grammar.{Surface, Surfaces, Apply, none, more}
use Rattle.fb_write.specs.Canonical.{nowhere, term_text, terms_text, in_parentheses, is_compound, is_open_ended}
use Rattle.fb_show.specs.Display.{avoids, all_avoid, own_or}

-- how many parameters each entry has
abbrev pub params_of : List Named → List ℕ
params_of = map (λ n. length n.entry.params)

-- the names of levels over a base
abbrev pub numbered : List ℕ → ℕ → List ℕ
numbered base i = base ++ decimal (suc i)

abbrev pub avoids_item : Item → ℕ → Bool
avoids_item (One t) i = avoids t i
avoids_item (Many us) i = all_avoid us i

-- an application, or the head alone
abbrev pub whole : Surface → Surfaces → Surface
whole f none = f
whole f (more a us) = Apply nowhere f (more a us)

abbrev pub is_apply : Surface → Bool
is_apply (Apply s f us) = true
is_apply _ = false

-- the same where the first levels have names of their own
abbrev pub own_numbered : (own : List (List ℕ)) → (base : List ℕ) → ℕ → List ℕ
own_numbered own base i = own_or (slice_get own i) (numbered base i)

-- the text of the function part of an application
abbrev pub head_text : Surface → List ℕ
head_text f = if is_apply f then term_text f else in_parentheses (is_compound f) (term_text f)

abbrev pub part_text : Bool → Surface → List ℕ
part_text enclosed a = in_parentheses enclosed (term_text a)

-- what stands behind the name of an instance
abbrev pub filling_text : Surfaces → List ℕ
filling_text none = []
filling_text (more a us) = codes "(" ++ terms_text (more a us) ++ codes ")"

-- what stands before the range of a product
abbrev pub domain_text : (unused : Bool) → List ℕ → Surface → List ℕ
domain_text true x a = in_parentheses (is_open_ended a) (term_text a) ++ codes " -> "
domain_text false x a = codes "all " ++ x ++ codes " : " ++ term_text a ++ codes " . "

-- terms before another
abbrev pub before_text : Surfaces → List ℕ
before_text none = []
before_text (more a us) = terms_text (more a us) ++ codes ", "

-- which terms are shown as compound, and as open-ended
abbrev pub is_compound_tree : Tree → Bool
is_compound_tree (App f u) = true
is_compound_tree (Lam a m) = true
is_compound_tree (Pi a b) = true
is_compound_tree _ = false

abbrev pub is_open_tree : Tree → Bool
is_open_tree (Lam a m) = true
is_open_tree (Pi a b) = true
is_open_tree _ = false
