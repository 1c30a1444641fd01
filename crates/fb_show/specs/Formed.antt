-- The terms that are shown, and the scope in which the shown term is read.
use Rattle.std.specs.Prelude.{◌≡◌, ℕ, zero, suc, ◌<◌, List, [], ◌∷◌, Option, Some, map, length, slice_get}
use Rattle.ld_terms.specs.Tree.{Tree, Trees, Star, Box, Var, App, Lam, Pi, Const, Nil, ◌▸◌, count}
use Rattle.fb_scope.specs.State.{State}
use Rattle.fb_scope.specs.Resolve.{variables}
use Rattle.fb_show.specs.Display.{level_name}

-- Under so many variables, over entries with so many parameters each: each variable is there, and each instance is of an entry, with
-- as many arguments as the entry has parameters.
abbrev mutual
  pub IsFormed : (params : List ℕ) → (depth : ℕ) → Tree → Type 0
  IsFormed params d Star = Unit {0}
  IsFormed params d Box = Unit {0}
  IsFormed params d (Var i) = i < d
  IsFormed params d (App f u) = IsFormed params d f × IsFormed params d u
  IsFormed params d (Lam a m) = IsFormed params d a × IsFormed params (suc d) m
  IsFormed params d (Pi a b) = IsFormed params d a × IsFormed params (suc d) b
  IsFormed params d (Const k us) = (slice_get params k ≡ Some (count us)) × AreFormed params d us

  pub AreFormed : (params : List ℕ) → (depth : ℕ) → Trees → Type 0
  AreFormed params d Nil = Unit {0}
  AreFormed params d (us ▸ u) = AreFormed params d us × IsFormed params d u

-- no two have one name
abbrev pub AreDistinct : List (List ℕ) → Type 0
AreDistinct names = (i j : ℕ) (x : List ℕ) → slice_get names i ≡ Some x → slice_get names j ≡ Some x → i ≡ j

-- the names of so many levels, innermost first
abbrev pub level_names : List (List ℕ) → (depth : ℕ) → List (Option (List ℕ))
level_names names zero = []
level_names names (suc d) = Some (level_name names d) ∷ level_names names d

-- The variables that are open have the names of their levels, and each entry has so many parameters, for which it was made.
pub record NamesLevels (s : State) (names : List (List ℕ)) (params : List ℕ) (depth : ℕ) : Type 0 where
  pub variables : variables s ≡ level_names names depth
  pub made : map length s.marks ≡ params
  pub few : (k n : ℕ) → slice_get params k ≡ Some n → n < 4_294_967_296
  pub entries : length names ≡ length params
