-- What it says of two trees that a comparison finds them the same.
use Rattle.std.specs.Prelude.{ℕ, ⊤, [], ◌∷◌}
use Rattle.ld_terms.specs.Tree.{Tree}
use Rattle.ld_terms.specs.Entry.{Env}
use Rattle.ld_terms.specs.Step.{Converts}
use Rattle.ld_reduce.specs.Task.{Pairs, Answer, Gives}
use Rattle.ld_convert.specs.Apart.{Apart}
use Rattle.ld_convert.specs.Compares.{Compares}

-- the two trees of each pair are convertible
abbrev pub AreConvertible : Env → Pairs → Type 0
AreConvertible env [] = ⊤
AreConvertible env (p ∷ ps) = Converts env p.0 p.1 × AreConvertible env ps

-- From convertible pairs, two trees that are found the same are convertible; and whatever the answer is, so are the pairs left.
pub record ComparesSame : Type 0 where
  pub are_same : (env : Env) (nesting : ℕ) (a b : Tree) (K L : Pairs) (n : ℕ) → AreConvertible env K → Compares env nesting a b K (Gives tt) L n → Converts env a b
  pub pairs : (env : Env) (nesting : ℕ) (a b : Tree) (K L : Pairs) (r : Answer Apart (Unit {0})) (n : ℕ) → AreConvertible env K → Compares env nesting a b K r L n → AreConvertible env L
