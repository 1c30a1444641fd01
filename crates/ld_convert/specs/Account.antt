-- What a comparison answers, what it costs, and what it leaves.
use Rattle.std.specs.Prelude.{◌≡◌, ◌<◌, ℕ, ⊤, List, Result, Ok, Err}
use Rattle.ld_terms.specs.Tree.{Tree}
use Rattle.ld_terms.specs.Item.{Item}
use Rattle.ld_terms.specs.Bank.{tree_at, IsTermAt}
use Rattle.ld_terms.specs.Known.{Known}
use Rattle.ld_reduce.specs.Task.{Pairs, Answer, Gives, Fails, High, Nested, Task, Answers}
use Rattle.ld_reduce.specs.Work.{Work, Takes}
use Rattle.ld_reduce.specs.Cost.{Equates}
use Rattle.ld_reduce.specs.declared.stop.Stop.{Stop}
use Rattle.ld_reduce.specs.declared.stop.Stop.TheVariants as stop
use Rattle.ld_convert.specs.Apart.{Apart, apart}
use Rattle.ld_convert.specs.declared.job.Compared.{Compared}
use Rattle.ld_convert.specs.declared.job.Compared.TheVariants as compared

-- The task has this answer alone, by steps that were made.
pub record Comes {E X : Type 0} (p : Task E X) (K : Pairs) (r : Answer E X) (K' : Pairs) (old new : Work) : Type 0 where
  pub steps : ℕ
  pub answers : Answers p K r K' steps
  pub takes : Takes old new steps

-- The task has no answer by the steps that were left, and all of these were made.
pub record RunsOut {E X : Type 0} (p : Task E X) (K : Pairs) (old new : Work) : Type 0 where
  pub none : (r : Answer E X) (L : Pairs) (n : ℕ) → p K r L n → old.left < n
  pub left : new.left ≡ 0
  pub takes : Takes old new old.left

-- why a task stops; want of memory is free
abbrev pub StopsTask : {E X : Type 0} → Task E X → (K K' : Pairs) → (old new : Work) → Stop → Type 0
StopsTask p K K' old new stop.Spent = RunsOut p K old new
StopsTask p K K' old new stop.High = Comes p K High K' old new
StopsTask p K K' old new stop.Nested = Comes p K Nested K' old new
StopsTask p K K' old new stop.Memory = ⊤

-- two trees found the same, with an equality; or two terms that are apart
abbrev pub ComparedAs : Task Apart (Unit {0}) → (a b : Tree) (bound : ℕ) → List Item → Known → (K K' : Pairs) → (old new : Work) → Result Compared Stop → Type 0
ComparedAs p a b bound items known K K' old new (Ok (compared.Same e)) = Comes p K (Gives tt) K' old new × Equates known e a b bound
ComparedAs p a b bound items known K K' old new (Ok (compared.Apart l r under)) =
    Comes p K (Fails (apart (tree_at items l) (tree_at items r) under)) K' old new × IsTermAt items l × IsTermAt items r
ComparedAs p a b bound items known K K' old new (Err s) = StopsTask p K K' old new s
