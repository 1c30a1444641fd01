-- The plain reading of a term: its type in a context. It is a task, whose answer, known pairs and steps are those that a check counts.
use Rattle.std.specs.Prelude.{ℕ, zero, suc, ◌+◌, ◌-◌, Bool, true, false, ◌||◌, List, [], ◌∷◌, Option, Some, None, slice_get}
use Rattle.ld_terms.specs.Tree.{Tree, Star, Box, Var, App, Lam, Pi, Const, Trees, Nil, ◌▸◌, count}
use Rattle.ld_terms.specs.Put.{lift, put}
use Rattle.ld_terms.specs.Entry.{Entry, Env}
use Rattle.ld_terms.specs.Entry as entry
use Rattle.ld_terms.specs.Tests.{equals, is_star, is_box}
use Rattle.ld_infer.specs.declared.failure.RuleName.{RuleName}
use Rattle.ld_infer.specs.declared.failure.RuleName.TheVariants.{Form, Appl, Abst, Inst, InstPrim}
use Rattle.ld_infer.specs.declared.failure.PathStep.{PathStep}
use Rattle.ld_infer.specs.declared.failure.PathStep.TheVariants.{Dom, Ran, Fun, Arg, Body, Nth}
use Rattle.ld_reduce.specs.Heads.{Expose, reaches}
use Rattle.ld_convert.specs.Apart.{Apart}
use Rattle.ld_convert.specs.Compares.{compare_within}
use Rattle.ld_reduce.specs.Task.{Task, gives, fails, nested, no_answer, step, formed, ◌>>=◌, ◌>>◌, faults_by}

-- a rule and the number of a premise, for which a reading is asked
abbrev pub Asked : Type 0
Asked = RuleName × ℕ

-- why a premise fails, with the trees that it speaks of
pub data Reason : Type 0 where
  NoType : Reason
  NotSort : (found : Tree) → Reason
  NotFunction : (found : Tree) → Reason
  BoxBody : Reason
  NotSame : (found wanted : Tree) → Apart → Reason

-- the premise that fails, the part at which it does, and the number of variables there
pub record Refusal : Type 0 where
  pub rule : RuleName
  pub premise : ℕ
  pub path : List PathStep
  pub depth : ℕ
  pub reason : Reason

abbrev pub refusal : Asked → (depth : ℕ) → Reason → Refusal
refusal q depth reason = record { rule = q.0; premise = q.1; path = []; depth = depth; reason = reason }

-- the refusal of a part, which stands at a step
abbrev pub inside : PathStep → Refusal → Refusal
inside s r = record r { path = s ∷ r.path }

abbrev pub within : {X : Type 0} → PathStep → Task Refusal X → Task Refusal X
within s p = faults_by (inside s) p

-- a type, and whether its sort comes with it
pub record Found : Type 0 where
  pub type : Tree
  pub sort_comes : Bool

abbrev pub found : Tree → Bool → Found
found t comes = record { type = t; sort_comes = comes }

-- the domain and the range of a product
abbrev pub product_of : Tree → Option (Tree × Tree)
product_of (Pi dom ran) = Some (dom, ran)
product_of Star = None
product_of Box = None
product_of (Var i) = None
product_of (App f u) = None
product_of (Lam a m) = None
product_of (Const k us) = None

abbrev pub lifted : Option Tree → Option Tree
lifted None = None
lifted (Some t) = Some (lift t 1 0)

-- the type of a variable of the context, over all of it
abbrev pub type_in : Trees → ℕ → Option Tree
type_in Nil i = None
type_in (ctx ▸ a) zero = Some (lift a 1 0)
type_in (ctx ▸ a) (suc i) = lifted (type_in ctx i)

-- the head form of a type, where a sort or a product is wanted
abbrev pub exposed : Env → Tree → Task Refusal Tree
exposed env t = reaches (Expose env t)

-- a refusal of the term itself, among so many variables
abbrev pub refused : {X : Type 0} → (depth : ℕ) → Asked → Reason → Task Refusal X
refused depth q reason = fails (refusal q depth reason)

-- the sort that a type is, or that it exposes
module _ (env : Env) (depth : ℕ) where
  abbrev pub exposed_sort : (star : Bool) → Asked → (type : Tree) → Task Refusal Tree
  exposed_sort true q type = gives Star
  exposed_sort false q type = refused depth q (NotSort type)

  abbrev pub sort_in : (sort : Bool) → Asked → (type : Tree) → Task Refusal Tree
  sort_in true q type = gives type
  sort_in false q type = exposed env type >>= λ t. exposed_sort (is_star t) q type

-- Below, read is the reading of parts in a context of so many variables.
module _ (env : Env) (depth : ℕ) (read : Asked → Tree → Task Refusal Found) where
  abbrev pub sort_of : Asked → Tree → Task Refusal Tree
  sort_of q t = read q t >>= λ r. sort_in env depth (is_star r.type || is_box r.type) q r.type

  -- Typing again: one step, and then the sort. No refusal comes there, for what a reading types again.
  abbrev pub again : Asked → Tree → Task Refusal (Unit {0})
  again q t = step >> sort_of q t >> gives tt

  abbrev pub again_unless : (sort_comes : Bool) → Asked → Tree → Task Refusal (Unit {0})
  again_unless true q t = gives tt
  again_unless false q t = again q t

  -- the product that a type is, or that it exposes; in that case it is typed again
  abbrev pub exposed_product : Option (Tree × Tree) → Asked → (type : Tree) → Task Refusal (Tree × Tree)
  exposed_product (Some p) q type = again q (Pi p.0 p.1) >> gives p
  exposed_product None q type = refused depth q (NotFunction type)

  abbrev pub product_in : Option (Tree × Tree) → Asked → (type : Tree) → Task Refusal (Tree × Tree)
  product_in (Some p) q type = gives p
  product_in None q type = exposed env type >>= λ t. exposed_product (product_of t) q type

-- And compare is the comparison of a part's type with the one that is wanted.
module _ (env : Env) (compare : Tree → Tree → Task Apart (Unit {0})) (depth : ℕ) (read : Asked → Tree → Task Refusal Found) where
  -- the type found is the one wanted, or is compared with it, and the one wanted is typed again
  abbrev pub same_type : Asked → (type wanted : Tree) → Task Refusal (Unit {0})
  same_type q type wanted = faults_by (λ d. refusal q depth (NotSame type wanted d)) (compare type wanted)

  abbrev pub suits : (equal : Bool) → Asked → (type wanted : Tree) → Task Refusal (Unit {0})
  suits true q type wanted = gives tt
  suits false q type wanted = same_type q type wanted >> again env depth read q wanted

  -- the reading of an argument, which is to have the type that is wanted
  abbrev pub suited_reading : Asked → (wanted u : Tree) → Task Refusal (Unit {0})
  suited_reading q wanted u = read q u >>= λ r. suits (equals r.type wanted) q r.type wanted

  abbrev pub argument_reading : PathStep → Asked → (wanted u : Tree) → Task Refusal (Unit {0})
  argument_reading s q wanted u = within s (suited_reading q wanted u)

  -- The argument behind so many is to have its parameter's type, with those put in.
  abbrev pub next_argument : RuleName → (p : Tree) → (us : Trees) → (u : Tree) → Task Refusal (Unit {0})
  next_argument rule p us u = formed (put p us) >>= λ wanted. argument_reading (Nth (suc (count us))) (rule, suc (count us)) wanted u

  -- Each argument of an instance is to have its parameter's type, with the arguments before it put in.
  abbrev pub arguments : RuleName → (params us : Trees) → Task Refusal (Unit {0})
  arguments rule Nil Nil = gives tt
  arguments rule (ps ▸ p) (us ▸ u) = arguments rule ps us >> next_argument rule p us u
  arguments rule Nil (us ▸ u) = no_answer
  arguments rule (ps ▸ p) Nil = no_answer

-- the rule for an instance of an entry with this body
abbrev pub instance_rule : entry.Body → RuleName
instance_rule (entry.Defined t) = Inst
instance_rule entry.Primitive = InstPrim

-- the reading of a variable whose type is this
abbrev pub variable_reading : Option Tree → Task Refusal Found
variable_reading None = no_answer
variable_reading (Some a) = formed a >>= λ t. gives (found t true)

-- the readings by the forms of terms, where read is the reading of parts in a context
module _ (env : Env) (read : Trees → Asked → Tree → Task Refusal Found) (ctx : Trees) where
  -- the sort of a part in a context
  abbrev pub sort_under : Trees → Asked → Tree → Task Refusal Tree
  sort_under inner q t = sort_of env (count inner) (read inner) q t

  abbrev pub product_reading : (a b : Tree) → Task Refusal Found
  product_reading a b =
      within Dom (sort_under ctx (Form, 1) a) >>
      (within Ran (sort_under (ctx ▸ a) (Form, 2) b) >>= λ s. gives (found s (is_star s)))

  -- The type of the body must not be box, and is typed again where its sort doesn't come.
  abbrev pub body_sorted : (box : Bool) → (a : Tree) → Found → Task Refusal (Unit {0})
  body_sorted true a r = refused (count ctx) (Abst, 2) BoxBody
  body_sorted false a r = again_unless env (suc (count ctx)) (read (ctx ▸ a)) r.sort_comes (Abst, 2) r.type

  -- the type of an abstraction's body, under its variable, which has a sort
  abbrev pub body_reading : (a m : Tree) → Task Refusal Found
  body_reading a m = within Body (read (ctx ▸ a) (Abst, 1) m) >>= λ r. body_sorted (is_box r.type) a r >> gives r

  abbrev pub abstraction_reading : (a m : Tree) → Task Refusal Found
  abstraction_reading a m =
      within Dom (sort_under ctx (Abst, 1) a) >>
      (body_reading a m >>= λ r. formed (Pi a r.type) >>= λ t. gives (found t true))

  -- the product that the type of an application's function is, or that it exposes
  abbrev pub product_read : (f : Tree) → Task Refusal (Tree × Tree)
  product_read f = read ctx (Appl, 1) f >>= λ r. product_in env (count ctx) (read ctx) (product_of r.type) (Appl, 1) r.type

  abbrev pub function_reading : (f : Tree) → Task Refusal (Tree × Tree)
  function_reading f = within Fun (product_read f)

-- And compare is the comparison of a part's type with the one that is wanted.
module _ (env : Env) (compare : Tree → Tree → Task Apart (Unit {0})) (read : Trees → Asked → Tree → Task Refusal Found) (ctx : Trees) where
  abbrev pub application_reading : (f u : Tree) → Task Refusal Found
  application_reading f u =
      function_reading env read ctx f >>= λ p.
      argument_reading env compare (count ctx) (read ctx) Arg (Appl, 2) p.0 u >>
      (formed (put p.1 (Nil ▸ u)) >>= λ n. gives (found n false))

  abbrev pub instance_reading : Option Entry → (us : Trees) → Task Refusal Found
  instance_reading None us = no_answer
  instance_reading (Some e) us =
      arguments env compare (count ctx) (read ctx) (instance_rule e.body) e.params us >>
      (formed (put e.type us) >>= λ n. gives (found n false))

  abbrev pub reading : Asked → Tree → Task Refusal Found
  reading q Star = gives (found Box false)
  reading q Box = refused (count ctx) q NoType
  reading q (Var i) = variable_reading (type_in ctx i)
  reading q (Pi a b) = product_reading env read ctx a b
  reading q (Lam a m) = abstraction_reading env read ctx a m
  reading q (App f u) = application_reading f u
  reading q (Const k us) = instance_reading (slice_get env k) us

-- the reading where so many nestings are left
abbrev pub read_within : (left : ℕ) → Env → Trees → Asked → Tree → Task Refusal Found
read_within zero env ctx q t = nested
read_within (suc left) env ctx q t = reading env (compare_within left env) (read_within left env) ctx q t

-- the reading of a term at nesting m, and the sort that it has
abbrev pub Types : Env → (ctx : Trees) → (m : ℕ) → Asked → Tree → Task Refusal Found
Types env ctx m q t = read_within (1001 - m) env ctx q t

abbrev pub SortOf : Env → (ctx : Trees) → (m : ℕ) → Asked → Tree → Task Refusal Tree
SortOf env ctx m q t = sort_of env (count ctx) (read_within (1001 - m) env ctx) q t

-- the reading of the parts of a term that is read at nesting m
abbrev pub part_reading : (m : ℕ) → Env → Trees → Asked → Tree → Task Refusal Found
part_reading m env ctx q t = Types env ctx (m + 1) q t
