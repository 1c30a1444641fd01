-- The judging of an item has at most one answer, known pairs and number of steps.
use Rattle.std.specs.Prelude.{Bool, true, false}
use Rattle.ld_terms.specs.Tree.{Tree, Box, Trees}
use Rattle.ld_terms.specs.Entry.{Env}
use Rattle.ld_terms.specs.Tests.{equals, is_box}
use Rattle.ld_infer.specs.declared.failure.RuleName.{RuleName}
use Rattle.ld_infer.specs.declared.failure.RuleName.TheVariants.{Weak, Def, DefPrim}
use Rattle.ld_infer.specs.declared.failure.PathStep.TheVariants.{Of, Body}
use Rattle.ld_reduce.specs.Task.{Fails, gives, ◌>>◌}
use Rattle.ld_convert.specs.Apart.{apart}
use Rattle.ld_convert.specs.Laws.{AnswersOnce}
use Rattle.ld_convert.proofs.Agreeing.{at_once, gives_once, bind_once, faults_once}
use Rattle.ld_convert.specs.Compares.{Compares}
use Rattle.ld_convert.proofs.Once.{compares_once}
use Rattle.ld_infer.specs.Reading.{inside, SortOf, Types}
use Rattle.ld_infer.proofs.Once.{reads_once, then_once}
use Rattle.ld_defrules.specs.Laws.{JudgesOnce}
use Rattle.ld_defrules.specs.Judged as judged
use Rattle.ld_defrules.specs.Judged.{other_type}

module _ (env : Env) (ctx : Trees) where
  type_once : (rule : RuleName) (type : Tree) → AnswersOnce (judged.type_judged env ctx rule type)
  type_once rule type = faults_once (inside Of) (SortOf env ctx 1 (rule, 2) type) (reads_once.sorts env ctx 1 (rule, 2) type)

  sorted_once : (rule : RuleName) (type : Tree) → AnswersOnce (judged.type_judged env ctx rule type >> gives (tt {0}))
  sorted_once rule type = then_once (judged.type_judged env ctx rule type) (gives tt) (type_once rule type) (gives_once tt)

  body_once : (body : Tree) → AnswersOnce (judged.body_judged env ctx body)
  body_once body = faults_once (inside Body) (Types env ctx 1 (Def, 2) body) (reads_once.types env ctx 1 (Def, 2) body)

  stated_once : (equal : Bool) (type stated : Tree) → AnswersOnce (judged.same_as_stated env ctx equal type stated)
  stated_once true type stated = gives_once tt
  stated_once false type stated = faults_once (other_type ctx type stated) (Compares env 1 type stated) (compares_once.once env 1 type stated)

  has_type_once : (body stated : Tree) → AnswersOnce (judged.has_type env ctx body stated)
  has_type_once body stated =
      bind_once (judged.body_judged env ctx body) (λ r. judged.same_as_stated env ctx (equals r.type stated) r.type stated) (body_once body)
      (λ r. stated_once (equals r.type stated) r.type stated)

  box_or_not_once : (box : Bool) (type : Tree) → AnswersOnce (judged.box_or_not env ctx box type)
  box_or_not_once true type = gives_once tt
  box_or_not_once false type = at_once (Fails (other_type ctx type Box (apart type Box 0))) 0

  has_box_once : (body : Tree) → AnswersOnce (judged.has_box env ctx body)
  has_box_once body =
      bind_once (judged.body_judged env ctx body) (λ r. judged.box_or_not env ctx (is_box r.type) r.type) (body_once body)
      (λ r. box_or_not_once (is_box r.type) r.type)

  line_once : (box : Bool) (body stated : Tree) → AnswersOnce (judged.line_judging env ctx box body stated)
  line_once true body stated = has_box_once body
  line_once false body stated =
      then_once (judged.type_judged env ctx Def stated) (judged.has_type env ctx body stated) (type_once Def stated) (has_type_once body stated)

pub judges_once : JudgesOnce
judges_once = record {
  flags = λ env ctx type. sorted_once env ctx Weak type;
  primitives = λ env ctx type. sorted_once env ctx DefPrim type;
  lines = λ env ctx body type. line_once env ctx (is_box type) body type;
}
