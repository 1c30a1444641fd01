-- What it says of two trees that a comparison ends with them apart.
use Rattle.std.specs.Prelude.{ℕ, ⊤, List}
use Rattle.ld_terms.specs.Tree.{Tree}
use Rattle.ld_terms.specs.Entry.{Env, IsScopedEnv}
use Rattle.ld_terms.specs.Step.{Converts}
use Rattle.ld_terms.specs.Item.{Item}
use Rattle.ld_terms.specs.Bank.{tree_at}
use Rattle.ld_reduce.specs.Task.{Pairs, Fails}
use Rattle.ld_convert.specs.Apart.{apart}
use Rattle.ld_convert.specs.Compares.{Compares}
use Rattle.ld_convert.specs.declared.job.Compared.{Compared}
use Rattle.ld_convert.specs.declared.job.Compared.TheVariants as compared

-- neither the two that were compared nor the two at which it ended are convertible
pub record AreApart (env : Env) (a b l r : Tree) : Type 0 where
  pub compared : ¬ Converts env a b
  pub ended : ¬ Converts env l r

-- in a scoped environment a comparison ends with two trees apart only where they are so
pub record ComparesApart : Type 0 where
  pub are_apart : (env : Env) → IsScopedEnv env → (nesting : ℕ) (a b l r : Tree) (under : ℕ) (K L : Pairs) (n : ℕ) →
      Compares env nesting a b K (Fails (apart l r under)) L n → AreApart env a b l r

-- what an answer says of two trees that were compared, where they aren't the same
abbrev pub ShowsApart : Env → List Item → (a b : Tree) → Compared → Type 0
ShowsApart env items a b (compared.Same e) = ⊤
ShowsApart env items a b (compared.Apart l r under) = AreApart env a b (tree_at items l) (tree_at items r)
