-- A comparison has at most one answer, with the known pairs that it leaves and the number of its steps.
use Rattle.std.specs.Prelude.{◌≡◌, ℕ}
use Rattle.ld_terms.specs.Tree.{Tree}
use Rattle.ld_terms.specs.Entry.{Env}
use Rattle.ld_reduce.specs.Task.{Pairs, Answer, Task}
use Rattle.ld_convert.specs.Compares.{Compares}

-- two answers are the same, with the known pairs and the steps
pub record Agree {R : Type 0} (r s : R) (L M : Pairs) (n m : ℕ) : Type 0 where
  pub answer : r ≡ s
  pub known : L ≡ M
  pub steps : n ≡ m

abbrev pub AnswersOnce : {E X : Type 0} → Task E X → Type 0
AnswersOnce {E} {X} p = (K L M : Pairs) (r s : Answer E X) (n m : ℕ) → p K r L n → p K s M m → Agree r s L M n m

pub record ComparesOnce : Type 0 where
  pub once : (env : Env) (nesting : ℕ) (a b : Tree) → AnswersOnce (Compares env nesting a b)
