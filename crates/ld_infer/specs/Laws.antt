-- A reading has at most one answer, with the known pairs that it leaves and the number of its steps.
use Rattle.std.specs.Prelude.{ℕ}
use Rattle.ld_terms.specs.Tree.{Tree, Trees}
use Rattle.ld_terms.specs.Entry.{Env}
use Rattle.ld_convert.specs.Laws.{AnswersOnce}
use Rattle.ld_infer.specs.Reading.{Asked, Types, SortOf}

pub record ReadsOnce : Type 0 where
  pub types : (env : Env) (ctx : Trees) (nesting : ℕ) (q : Asked) (t : Tree) → AnswersOnce (Types env ctx nesting q t)
  pub sorts : (env : Env) (ctx : Trees) (nesting : ℕ) (q : Asked) (t : Tree) → AnswersOnce (SortOf env ctx nesting q t)
