-- The judging of an item has at most one answer, with the known pairs that it leaves and the number of its steps.
use Rattle.ld_terms.specs.Tree.{Tree, Trees}
use Rattle.ld_terms.specs.Entry.{Env}
use Rattle.ld_convert.specs.Laws.{AnswersOnce}
use Rattle.ld_defrules.specs.Judged.{flag_judged, primitive_judged, line_judged}

pub record JudgesOnce : Type 0 where
  pub flags : (env : Env) (ctx : Trees) (type : Tree) → AnswersOnce (flag_judged env ctx type)
  pub primitives : (env : Env) (ctx : Trees) (type : Tree) → AnswersOnce (primitive_judged env ctx type)
  pub lines : (env : Env) (ctx : Trees) (body type : Tree) → AnswersOnce (line_judged env ctx body type)
