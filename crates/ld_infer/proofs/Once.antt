-- A reading has at most one answer, known pairs and number of steps.
use Rattle.std.specs.Prelude.{ℕ, zero, suc, ◌-◌, Bool, true, false, ◌||◌, Option, Some, None, slice_get}
use Rattle.std.proofs.Common.{sym, ◌∙◌}
use Rattle.ld_terms.specs.Tree.{Tree, Star, Box, Var, App, Lam, Pi, Const, Trees, Nil, ◌▸◌, count}
use Rattle.ld_terms.specs.Put.{put}
use Rattle.ld_terms.specs.Entry.{Entry, Env}
use Rattle.ld_terms.specs.Tests.{equals, is_star, is_box}
use Rattle.ld_infer.specs.declared.failure.RuleName.{RuleName}
use Rattle.ld_infer.specs.declared.failure.RuleName.TheVariants.{Form, Appl, Abst}
use Rattle.ld_infer.specs.declared.failure.PathStep.{PathStep}
use Rattle.ld_infer.specs.declared.failure.PathStep.TheVariants.{Dom, Ran, Fun, Arg, Body, Nth}
use Rattle.ld_reduce.specs.Heads.{Expose, head_step}
use Rattle.ld_reduce.specs.Task.{Fails, Gives, Nested, Task, gives, step, formed, small, high, no_answer, ◌>>=◌, ◌>>◌}
use Rattle.ld_reduce.proofs.Once.{runs_once}
use Rattle.ld_convert.specs.Apart.{Apart}
use Rattle.ld_convert.specs.Compares.{compare_within}
use Rattle.ld_convert.specs.Laws.{AnswersOnce}
use Rattle.ld_convert.proofs.Agreeing.{at_once, gives_once, reaches_once, bind_once, faults_once}
use Rattle.ld_convert.proofs.Once.{within_once}
use Rattle.ld_infer.specs.Laws.{ReadsOnce}
use Rattle.ld_infer.specs.Reading as reading
use Rattle.ld_infer.specs.Reading.{Asked, Found, Refusal, Reason, found, product_of, type_in, instance_rule}

no_answer_once : {E X : Type 0} → AnswersOnce (no_answer {E = E} {X = X})
no_answer_once K L M r s n m p q = absurd p

formed_once : {E : Type 0} (t : Tree) → AnswersOnce (formed {E = E} t)
formed_once t K L M r s n m (small i e k z) (small j f l w) = record { answer = e ∙ sym f; known = k ∙ sym l; steps = z ∙ sym w }
formed_once t K L M r s n m (small i e k z) (high j f l w) = absurd (j i)
formed_once t K L M r s n m (high i e k z) (small j f l w) = absurd (i j)
formed_once t K L M r s n m (high i e k z) (high j f l w) = record { answer = e ∙ sym f; known = k ∙ sym l; steps = z ∙ sym w }

-- one task and then another
pub then_once : {E X Y : Type 0} (p : Task E X) (q : Task E Y) → AnswersOnce p → AnswersOnce q → AnswersOnce (p >> q)
then_once p q hp hq = bind_once p (λ _. q) hp (λ _. hq)

refused_once : {X : Type 0} (depth : ℕ) (q : Asked) (e : Reason) → AnswersOnce (reading.refused {X = X} depth q e)
refused_once depth q e = at_once (Fails (reading.refusal q depth e)) 0

exposed_once : (env : Env) (t : Tree) → AnswersOnce (reading.exposed env t)
exposed_once env t = reaches_once (Expose env t) (runs_once (head_step env) t)

module _ (env : Env) (depth : ℕ) where
  exposed_sort_once : (star : Bool) (q : Asked) (type : Tree) → AnswersOnce (reading.exposed_sort env depth star q type)
  exposed_sort_once true q type = gives_once Star
  exposed_sort_once false q type = refused_once depth q (Reason.NotSort type)

  sort_in_once : (sort : Bool) (q : Asked) (type : Tree) → AnswersOnce (reading.sort_in env depth sort q type)
  sort_in_once true q type = gives_once type
  sort_in_once false q type = bind_once _ (λ t. reading.exposed_sort env depth (is_star t) q type) (exposed_once env type) (λ t. exposed_sort_once (is_star t) q type)

-- Below, hr says that the readings of parts have at most one answer.
module _ (env : Env) (depth : ℕ) (read : Asked → Tree → Task Refusal Found) (hr : (q : Asked) (t : Tree) → AnswersOnce (read q t)) where
  pub sort_of_once : (q : Asked) (t : Tree) → AnswersOnce (reading.sort_of env depth read q t)
  sort_of_once q t =
      bind_once (read q t) (λ r. reading.sort_in env depth (is_star r.type || is_box r.type) q r.type) (hr q t)
      (λ r. sort_in_once env depth (is_star r.type || is_box r.type) q r.type)

  again_once : (q : Asked) (t : Tree) → AnswersOnce (reading.again env depth read q t)
  again_once q t =
      let sorted = reading.sort_of env depth read q t in
      then_once (step >> sorted) (gives tt) (then_once step sorted (at_once (Gives tt) 1) (sort_of_once q t)) (gives_once tt)

  again_unless_once : (comes : Bool) (q : Asked) (t : Tree) → AnswersOnce (reading.again_unless env depth read comes q t)
  again_unless_once true q t = gives_once tt
  again_unless_once false q t = again_once q t

  exposed_product_once : (p : Option (Tree × Tree)) (q : Asked) (type : Tree) → AnswersOnce (reading.exposed_product env depth read p q type)
  exposed_product_once (Some p) q type = then_once (reading.again env depth read q (Pi p.0 p.1)) (gives p) (again_once q (Pi p.0 p.1)) (gives_once p)
  exposed_product_once None q type = refused_once depth q (Reason.NotFunction type)

  product_in_once : (p : Option (Tree × Tree)) (q : Asked) (type : Tree) → AnswersOnce (reading.product_in env depth read p q type)
  product_in_once (Some p) q type = gives_once p
  product_in_once None q type =
      bind_once (reading.exposed env type) (λ t. reading.exposed_product env depth read (product_of t) q type) (exposed_once env type)
      (λ t. exposed_product_once (product_of t) q type)

-- And hc says so of the comparison of a part's type with the one that is wanted.
module _ (env : Env) (compare : Tree → Tree → Task Apart (Unit {0})) (hc : (a b : Tree) → AnswersOnce (compare a b))
    (depth : ℕ) (read : Asked → Tree → Task Refusal Found) (hr : (q : Asked) (t : Tree) → AnswersOnce (read q t)) where
  same_type_once : (q : Asked) (type wanted : Tree) → AnswersOnce (reading.same_type env compare depth read q type wanted)
  same_type_once q type wanted =
      faults_once (λ d. reading.refusal q depth (Reason.NotSame type wanted d)) (compare type wanted) (hc type wanted)

  suits_once : (equal : Bool) (q : Asked) (type wanted : Tree) → AnswersOnce (reading.suits env compare depth read equal q type wanted)
  suits_once true q type wanted = gives_once tt
  suits_once false q type wanted =
      then_once (reading.same_type env compare depth read q type wanted) (reading.again env depth read q wanted) (same_type_once q type wanted) (again_once env depth read hr q wanted)

  argument_once : (s : PathStep) (q : Asked) (wanted u : Tree) → AnswersOnce (reading.argument_reading env compare depth read s q wanted u)
  argument_once s q wanted u =
      faults_once (reading.inside s) (read q u >>= λ r. reading.suits env compare depth read (equals r.type wanted) q r.type wanted)
      (bind_once (read q u) (λ r. reading.suits env compare depth read (equals r.type wanted) q r.type wanted) (hr q u) (λ r. suits_once (equals r.type wanted) q r.type wanted))

  next_argument_once : (rule : RuleName) (p : Tree) (us : Trees) (u : Tree) → AnswersOnce (reading.next_argument env compare depth read rule p us u)
  next_argument_once rule p us u =
      bind_once (formed (put p us)) (λ wanted. reading.argument_reading env compare depth read (Nth (suc (count us))) (rule, suc (count us)) wanted u) (formed_once (put p us))
      (λ wanted. argument_once (Nth (suc (count us))) (rule, suc (count us)) wanted u)

  arguments_once : (rule : RuleName) (ps us : Trees) → AnswersOnce (reading.arguments env compare depth read rule ps us)
  arguments_once rule Nil Nil = gives_once tt
  arguments_once rule (ps ▸ p) (us ▸ u) =
      then_once (reading.arguments env compare depth read rule ps us) (reading.next_argument env compare depth read rule p us u) (arguments_once rule ps us) (next_argument_once rule p us u)
  arguments_once rule Nil (us ▸ u) = no_answer_once
  arguments_once rule (ps ▸ p) Nil = no_answer_once

variable_once : (a : Option Tree) → AnswersOnce (reading.variable_reading a)
variable_once None = no_answer_once
variable_once (Some a) = bind_once (formed a) (λ t. gives (found t true)) (formed_once a) (λ t. gives_once (found t true))

module _ (env : Env) (read : Trees → Asked → Tree → Task Refusal Found) (hr : (ctx : Trees) (q : Asked) (t : Tree) → AnswersOnce (read ctx q t)) (ctx : Trees) where
  sort_under_once : (inner : Trees) (q : Asked) (t : Tree) → AnswersOnce (reading.sort_under env read ctx inner q t)
  sort_under_once inner q t = sort_of_once env (count inner) (read inner) (hr inner) q t

  product_once : (a b : Tree) → AnswersOnce (reading.product_reading env read ctx a b)
  product_once a b =
      let range = reading.within Ran (reading.sort_under env read ctx (ctx ▸ a) (Form, 2) b) in
      then_once (reading.within Dom (reading.sort_under env read ctx ctx (Form, 1) a)) (range >>= λ s. gives (found s (is_star s)))
      (faults_once (reading.inside Dom) _ (sort_under_once ctx (Form, 1) a))
      (bind_once range (λ s. gives (found s (is_star s))) (faults_once (reading.inside Ran) _ (sort_under_once (ctx ▸ a) (Form, 2) b)) (λ s. gives_once (found s (is_star s))))

  body_sorted_once : (box : Bool) (a : Tree) (r : Found) → AnswersOnce (reading.body_sorted env read ctx box a r)
  body_sorted_once true a r = refused_once (count ctx) (Abst, 2) Reason.BoxBody
  body_sorted_once false a r = again_unless_once env (suc (count ctx)) (read (ctx ▸ a)) (hr (ctx ▸ a)) r.sort_comes (Abst, 2) r.type

  body_once : (a m : Tree) → AnswersOnce (reading.body_reading env read ctx a m)
  body_once a m =
      bind_once (reading.within Body (read (ctx ▸ a) (Abst, 1) m)) (λ r. reading.body_sorted env read ctx (is_box r.type) a r >> gives r)
      (faults_once (reading.inside Body) (read (ctx ▸ a) (Abst, 1) m) (hr (ctx ▸ a) (Abst, 1) m))
      (λ r. then_once (reading.body_sorted env read ctx (is_box r.type) a r) (gives r) (body_sorted_once (is_box r.type) a r) (gives_once r))

  abstraction_once : (a m : Tree) → AnswersOnce (reading.abstraction_reading env read ctx a m)
  abstraction_once a m =
      let typed = λ (r : Found). formed (Pi a r.type) >>= λ t. gives (found t true) in
      then_once (reading.within Dom (reading.sort_under env read ctx ctx (Abst, 1) a)) (reading.body_reading env read ctx a m >>= typed)
      (faults_once (reading.inside Dom) _ (sort_under_once ctx (Abst, 1) a))
      (bind_once (reading.body_reading env read ctx a m) typed (body_once a m)
      (λ r. bind_once (formed (Pi a r.type)) (λ t. gives (found t true)) (formed_once (Pi a r.type)) (λ t. gives_once (found t true))))

  function_once : (f : Tree) → AnswersOnce (reading.function_reading env read ctx f)
  function_once f =
      faults_once (reading.inside Fun) (reading.product_read env read ctx f)
      (bind_once (read ctx (Appl, 1) f) (λ r. reading.product_in env (count ctx) (read ctx) (product_of r.type) (Appl, 1) r.type) (hr ctx (Appl, 1) f)
      (λ r. product_in_once env (count ctx) (read ctx) (hr ctx) (product_of r.type) (Appl, 1) r.type))

typed_once : (t : Tree) → AnswersOnce (formed {E = Refusal} t >>= λ n. gives (found n false))
typed_once t = bind_once (formed t) (λ n. gives (found n false)) (formed_once t) (λ n. gives_once (found n false))

module _ (env : Env) (compare : Tree → Tree → Task Apart (Unit {0})) (hc : (a b : Tree) → AnswersOnce (compare a b))
    (read : Trees → Asked → Tree → Task Refusal Found) (hr : (ctx : Trees) (q : Asked) (t : Tree) → AnswersOnce (read ctx q t)) (ctx : Trees) where
  application_once : (f u : Tree) → AnswersOnce (reading.application_reading env compare read ctx f u)
  application_once f u =
      let argument = λ (p : Tree × Tree). reading.argument_reading env compare (count ctx) (read ctx) Arg (Appl, 2) p.0 u in
      let typed = λ (p : Tree × Tree). formed {E = Refusal} (put p.1 (Nil ▸ u)) >>= λ n. gives (found n false) in
      bind_once (reading.function_reading env read ctx f) (λ p. argument p >> typed p) (function_once env read hr ctx f)
      (λ p. then_once (argument p) (typed p) (argument_once env compare hc (count ctx) (read ctx) (hr ctx) Arg (Appl, 2) p.0 u) (typed_once (put p.1 (Nil ▸ u))))

  instance_once : (e : Option Entry) (us : Trees) → AnswersOnce (reading.instance_reading env compare read ctx e us)
  instance_once None us = no_answer_once
  instance_once (Some e) us =
      let all = reading.arguments env compare (count ctx) (read ctx) (instance_rule e.body) e.params us in
      then_once all (formed (put e.type us) >>= λ n. gives (found n false))
      (arguments_once env compare hc (count ctx) (read ctx) (hr ctx) (instance_rule e.body) e.params us) (typed_once (put e.type us))

  reading_once : (q : Asked) (t : Tree) → AnswersOnce (reading.reading env compare read ctx q t)
  reading_once q Star = gives_once (found Box false)
  reading_once q Box = refused_once (count ctx) q Reason.NoType
  reading_once q (Var i) = variable_once (type_in ctx i)
  reading_once q (Pi a b) = product_once env read hr ctx a b
  reading_once q (Lam a m) = abstraction_once env read hr ctx a m
  reading_once q (App f u) = application_once f u
  reading_once q (Const k us) = instance_once (slice_get env k) us

-- the reading where so many nestings are left
within_left_once : (left : ℕ) (env : Env) (ctx : Trees) (q : Asked) (t : Tree) → AnswersOnce (reading.read_within left env ctx q t)
within_left_once zero env ctx q t = at_once Nested 0
within_left_once (suc left) env ctx q t =
    reading_once env (compare_within left env) (within_once left env) (reading.read_within left env) (within_left_once left env) ctx q t

pub reads_once : ReadsOnce
reads_once = record {
  types = λ env ctx nesting q t. within_left_once (1001 - nesting) env ctx q t;
  sorts = λ env ctx nesting q t. sort_of_once env (count ctx) (reading.read_within (1001 - nesting) env ctx) (within_left_once (1001 - nesting) env ctx) q t;
}
