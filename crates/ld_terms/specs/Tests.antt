-- Tests of trees.
use Rattle.std.specs.Prelude.{Bool, true, false}
use Rattle.std.proofs.Math.Decide.{ℕ_discrete}
use Rattle.ld_terms.specs.Tree.{Tree, Star, Box, Var, App, Lam, Pi, Const, Tree-discrete}

abbrev pub is_yes : {A : Type 0} → Dec A → Bool
is_yes (yes p) = true
is_yes (no p) = false

-- whether two trees are equal
abbrev pub equals : Tree → Tree → Bool
equals t u = is_yes (Tree-discrete ℕ_discrete t u)

abbrev pub is_star : Tree → Bool
is_star Star = true
is_star Box = false
is_star (Var i) = false
is_star (App f u) = false
is_star (Lam a m) = false
is_star (Pi a b) = false
is_star (Const k us) = false

abbrev pub is_box : Tree → Bool
is_box Star = false
is_box Box = true
is_box (Var i) = false
is_box (App f u) = false
is_box (Lam a m) = false
is_box (Pi a b) = false
is_box (Const k us) = false
