-- What a caller cites: what a call with a budget answers, as the answer of a task, of any faults and from any known pairs.
use Rattle.std.proofs.Common.{◌≡◌, ◌<◌, ℕ, Result, Ok, Err, List, refl, ap, ◌∙◌}
use Rattle.std.specs.Prelude.{⊤}
use Rattle.ld_terms.specs.Tree.{Tree}
use Rattle.ld_terms.specs.Item.{Item}
use Rattle.ld_terms.specs.Bank.{tree_at}
use Rattle.ld_terms.specs.Known.{Known}
use Rattle.ld_terms.specs.declared.bank.TermId.{TermId}
use Rattle.ld_record.specs.declared.record.EqId.{EqId}
use Rattle.ld_reduce.specs.Task.{Pairs, Answer, Gives, High, Task}
use Rattle.ld_reduce.specs.Task as task
use Rattle.ld_reduce.specs.Heads.{Reached, At, TooHigh, Way, answer, reaches}
use Rattle.ld_reduce.specs.Work.{Work, Takes}
use Rattle.ld_reduce.specs.Cost as cost
use Rattle.ld_reduce.specs.Laws.{Once}
use Rattle.ld_reduce.specs.declared.stop.Stop.{Stop}
use Rattle.ld_reduce.specs.declared.stop.Stop.TheVariants as stop

-- The task has this answer alone, leaves what is known, and its steps were made.
pub record TaskComes {E : Type 0} (p : Task E Tree) (K : Pairs) (r : Answer E Tree) (old new : Work) : Type 0 where
  pub steps : ℕ
  pub answers : task.Answers p K r K steps
  pub takes : Takes old new steps

-- The task has no answer by the steps that were left, and all of these were made.
pub record TaskRunsOut {E : Type 0} (p : Task E Tree) (K : Pairs) (old new : Work) : Type 0 where
  pub none : (r : Answer E Tree) (L : Pairs) (n : ℕ) → p K r L n → old.left < n
  pub left : new.left ≡ 0
  pub takes : Takes old new old.left

abbrev pub AnswersTask : {E : Type 0} → Task E Tree → Pairs → List Item → (old new : Work) → Result (TermId × EqId) Stop → Type 0
AnswersTask p K items old new (Ok t) = TaskComes p K (Gives (tree_at items t.0)) old new
AnswersTask p K items old new (Err stop.Spent) = TaskRunsOut p K old new
AnswersTask p K items old new (Err stop.High) = TaskComes p K High old new
AnswersTask p K items old new (Err stop.Nested) = ⊥
AnswersTask p K items old new (Err stop.Memory) = ⊤

pub comes_task : {E : Type 0} (way : Way) (K : Pairs) (r : Reached) (old new : Work) → Once way → cost.Comes way r old new → TaskComes {E = E} (reaches way) K (answer r) old new
comes_task way K r old new once c = record {
  steps = c.steps;
  answers = record {
    is = (r, c.comes, refl, refl);
    only = λ s L m h. let o = once h.0 r m c.steps h.1 c.comes in (h.2 ∙ ap answer o.0, h.3, o.1);
  };
  takes = c.takes;
}

pub runs_out_task : {E : Type 0} (way : Way) (K : Pairs) (old new : Work) → cost.IsSpent way old new → TaskRunsOut {E = E} (reaches way) K old new
runs_out_task way K old new h = record { none = λ r L n p. h.none p.0 n p.1; left = h.left; takes = h.takes }

pub answers_task : (E : Type 0) (way : Way) (K : Pairs) (from : Tree) (bound : ℕ) (items : List Item) (known : Known) (old new : Work) (result : Result (TermId × EqId) Stop)
    → Once way → cost.Answers way from bound items known old new result → AnswersTask {E = E} (reaches way) K items old new result
answers_task E way K from bound items known old new (Ok t) once h = comes_task way K (At (tree_at items t.0)) old new once h.0
answers_task E way K from bound items known old new (Err stop.Spent) once h = runs_out_task way K old new h
answers_task E way K from bound items known old new (Err stop.High) once h = comes_task way K TooHigh old new once h
answers_task E way K from bound items known old new (Err stop.Nested) once h = h
answers_task E way K from bound items known old new (Err stop.Memory) once h = tt
