-- What the tests of trees tell.
use Rattle.std.proofs.Common.{◌≡◌, true, false, refl}
use Rattle.std.proofs.Math.Decide.{ℕ_discrete}
use Rattle.ld_terms.specs.Tree.{Tree, Star, Box, Var, App, Lam, Pi, Const, Tree-discrete}
use Rattle.ld_terms.specs.Tests.{is_yes, equals, is_box}

pub equal_trees : (t u : Tree) → t ≡ u → equals t u ≡ true
equal_trees t u e = by_decision (Tree-discrete ℕ_discrete t u)
  where
    by_decision : (d : Dec (t ≡ u)) → is_yes d ≡ true
    by_decision (yes p) = refl
    by_decision (no n) = absurd (n e)

pub other_trees : (t u : Tree) → (t ≡ u → ⊥) → equals t u ≡ false
other_trees t u n = by_decision (Tree-discrete ℕ_discrete t u)
  where
    by_decision : (d : Dec (t ≡ u)) → is_yes d ≡ false
    by_decision (yes p) = absurd (n p)
    by_decision (no n) = refl

pub no_box : (t : Tree) → (t ≡ Box → ⊥) → is_box t ≡ false
no_box Star n = refl
no_box Box n = absurd (n refl)
no_box (Var i) n = refl
no_box (App f u) n = refl
no_box (Lam a m) n = refl
no_box (Pi a b) n = refl
no_box (Const k us) n = refl
