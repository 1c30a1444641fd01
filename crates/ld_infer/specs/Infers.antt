-- What type inference answers.
use Rattle.std.specs.Prelude.{◌≡◌, ◌<◌, ◌⊎◌, ℕ, Bool, List, ◌∷◌, length, slice_index_or, ⊤, Option, Some, None, IfSome, is_some, Result, Ok, Err}
use Rattle.std.specs.List.{AllByRecursion}
use Rattle.std.specs.Global.{Vec}
use Rattle.ld_terms.specs.Tree.{Tree, Trees, Var, Pi, count}
use Rattle.ld_terms.specs.Item.{Item, One, IsSmall}
use Rattle.ld_terms.specs.Bank.{tree_at, list_at, IsTermAt, IsListAt}
use Rattle.ld_terms.specs.Derivable.{IsSort}
use Rattle.ld_terms.specs.Named.{IsWellFormed, AreNamed}
use Rattle.ld_terms.specs.Entry.{AreScoped}
use Rattle.ld_terms.specs.Known.{IsNode, JudgeArguments}
use Rattle.ld_terms.specs.declared.bank.TermId.{TermId}
use Rattle.ld_record.specs.declared.record.JudgeId.{JudgeId}
use Rattle.ld_record.specs.declared.record.EqId.{EqId}
use Rattle.ld_record.specs.declared.record.Step.{Step}
use Rattle.ld_record.specs.declared.record.Step.TheVariants.{Inst, InstPrim}
use Rattle.ld_record.specs.Follows.{numbers_of}
use Rattle.ld_record.specs.Growth.{Knows}
use Rattle.ld_reduce.specs.Cost.{Equates}
use Rattle.ld_convert.specs.Apart.{apart}
use Rattle.ld_convert.specs.Compares.{Compares}
use Rattle.ld_convert.specs.declared.job.Compared.{Compared}
use Rattle.ld_convert.specs.declared.job.Compared.TheVariants as compared
use Rattle.ld_infer.specs.declared.failure.Why.{Why}
use Rattle.ld_infer.specs.declared.failure.Why.TheVariants as why
use Rattle.ld_infer.specs.declared.failure.Failure.{Failure}
use Rattle.ld_infer.specs.declared.failure.InferFault.{InferFault}
use Rattle.ld_infer.specs.declared.failure.InferFault.TheVariants as fault
use Rattle.ld_reduce.specs.declared.stop.Stop.{Stop}
use Rattle.ld_reduce.specs.declared.stop.Stop.TheVariants as stop
use Rattle.ld_infer.specs.declared.failure.PathStep.{PathStep}
use Rattle.ld_infer.specs.declared.inference.Typed.{Typed}
use Rattle.ld_infer.specs.declared.inference.BodyTyped.{BodyTyped}
use Rattle.ld_infer.specs.declared.function.FunctionTyped.{FunctionTyped}
use Rattle.ld_infer.specs.declared.variable.VariableTyped.{VariableTyped}
use Rattle.ld_reduce.specs.Task.{Task, Gives, Fails, High, Nested}
use Rattle.ld_infer.specs.Account.{Account, Comes, RunsOut}
use Rattle.ld_infer.specs.Reading.{Reason, NoType, NotSort, NotFunction, BoxBody, NotSame, Refusal, Found, found, type_in, exposed}
use Rattle.ld_infer.specs.Standing.{Standing, known, env, here, without, KnowsSort}

-- a failure of the code, with its terms as trees
abbrev pub reason_of : List Item → Why → Reason
reason_of items why.NoType = NoType
reason_of items (why.NotSort t) = NotSort (tree_at items t)
reason_of items (why.NotFunction t) = NotFunction (tree_at items t)
reason_of items why.BoxBody = BoxBody
reason_of items (why.NotSame t wanted left right under) =
    NotSame (tree_at items t) (tree_at items wanted) (apart (tree_at items left) (tree_at items right) under)

abbrev pub refusal_of : List Item → Failure → Refusal
refusal_of items f = record { rule = f.rule; premise = f.premise; path = f.path; depth = f.depth; reason = reason_of items f.why }

-- The task ends with what a fault says. Want of memory is free.
abbrev pub StopsBy : {E X : Type 0} → Task E X → Stop → (before after : Account) → Type 0
StopsBy p stop.Spent before after = RunsOut p before after
StopsBy p stop.High before after = Comes p High before after
StopsBy p stop.Nested before after = Comes p Nested before after
StopsBy p stop.Memory before after = ⊤

abbrev pub Stops : {X : Type 0} → List Item → Task Refusal X → InferFault → (before after : Account) → Type 0
Stops items p (fault.Refused f) before after = Comes p (Fails (refusal_of items f)) before after
Stops items p (fault.Stop s) before after = StopsBy p s before after

-- A type was found, and the judgement of the term and the type is kept; where the type's sort comes, its judgement too.
pub record IsTyped (old new : Standing) (p : Task Refusal Found) (t : TermId) (before after : Account) (r : Typed) : Type 0 where
  pub term : IsTermAt new.items r.of
  pub gives : Comes p (Gives (found (tree_at new.items r.of) (is_some r.of_judge))) before after
  pub judged : Knows (known new) r.judge (here old (tree_at old.items t) (tree_at new.items r.of))
  pub sorted : IfSome r.of_judge (λ j. KnowsSort new j (tree_at new.items r.of))

-- what is answered for a term whose reading is the task
abbrev pub Infers : (old new : Standing) → Task Refusal Found → TermId → (before after : Account) → Result Typed InferFault → Type 0
Infers old new p t before after (Ok r) = IsTyped old new p t before after r
Infers old new p t before after (Err f) = Stops new.items p f before after

-- a sort, with the judgement of the term and the sort
pub record HasSort (old new : Standing) (t : Tree) (s : TermId × JudgeId) : Type 0 where
  pub term : IsTermAt new.items s.0
  pub sort : IsSort (tree_at new.items s.0)
  pub judged : Knows (known new) s.1 (here old t (tree_at new.items s.0))

-- the head form of a type, and an equality of the two over the entries that are there
pub record IsExposed (old new : Standing) (type : Tree) (before after : Account) (r : TermId × EqId) : Type 0 where
  pub term : IsTermAt new.items r.0
  pub formed : IsWellFormed (env new) (count new.context) (tree_at new.items r.0)
  pub gives : Comes (exposed (env old) type) (Gives (tree_at new.items r.0)) before after
  pub equal : Equates (known new) r.1 type (tree_at new.items r.0) (length (env old))

abbrev pub Exposes : (old new : Standing) → (type : Tree) → (before after : Account) → Result (TermId × EqId) Stop → Type 0
Exposes old new type before after (Ok r) = IsExposed old new type before after r
Exposes old new type before after (Err s) = StopsBy (exposed (env old) type) s before after

-- two types that are the same, with an equality over the entries that are there; or two terms that are apart
abbrev pub ComparesTypes : (old new : Standing) → (nesting : ℕ) → (type wanted : Tree) → (before after : Account) → Result Compared Stop → Type 0
ComparesTypes old new nesting type wanted before after (Ok (compared.Same e)) =
    Comes (Compares (env old) nesting type wanted) (Gives tt) before after × Equates (known new) e type wanted (length (env old))
ComparesTypes old new nesting type wanted before after (Ok (compared.Apart left right under)) =
    Comes (Compares (env old) nesting type wanted) (Fails (apart (tree_at new.items left) (tree_at new.items right) under)) before after
ComparesTypes old new nesting type wanted before after (Err s) = StopsBy (Compares (env old) nesting type wanted) s before after

-- the sort of the term is what the task gives
pub record IsSorted (old new : Standing) (p : Task Refusal Tree) (t : TermId) (before after : Account) (s : TermId × JudgeId) : Type 0 where
  pub has : HasSort old new (tree_at old.items t) s
  pub gives : Comes p (Gives (tree_at new.items s.0)) before after

abbrev pub InfersSort : (old new : Standing) → Task Refusal Tree → TermId → (before after : Account) → Result (TermId × JudgeId) InferFault → Type 0
InfersSort old new p t before after (Ok s) = IsSorted old new p t before after s
InfersSort old new p t before after (Err f) = Stops new.items p f before after

-- the term is typed again, and has a sort
pub record IsTypedAgain (old new : Standing) (p : Task Refusal (Unit {0})) (t : TermId) (before after : Account) (s : TermId × JudgeId) : Type 0 where
  pub has : HasSort old new (tree_at old.items t) s
  pub gives : Comes p (Gives tt) before after

abbrev pub TypesAgain : (old new : Standing) → Task Refusal (Unit {0}) → TermId → (before after : Account) → Result (TermId × JudgeId) InferFault → Type 0
TypesAgain old new p t before after (Ok s) = IsTypedAgain old new p t before after s
TypesAgain old new p t before after (Err f) = Stops new.items p f before after

-- the type of an abstraction's body, which has a sort, in the context that has the variable
pub record IsBodyTyped (old new : Standing) (p : Task Refusal Found) (m : TermId) (before after : Account) (r : BodyTyped) : Type 0 where
  pub term : IsTermAt new.items r.of
  pub comes : Bool
  pub gives : Comes p (Gives (found (tree_at new.items r.of) comes)) before after
  pub judged : Knows (known new) r.judge (here old (tree_at old.items m) (tree_at new.items r.of))
  pub sorted : HasSort new new (tree_at new.items r.of) r.sort

abbrev pub InfersBody : (old new : Standing) → Task Refusal Found → TermId → (before after : Account) → Result BodyTyped InferFault → Type 0
InfersBody old new p m before after (Ok r) = IsBodyTyped old new p m before after r
InfersBody old new p m before after (Err f) = Stops new.items p f before after

-- the function's type is the product of a domain and a range
pub record IsFunctionTyped (old new : Standing) (p : Task Refusal (Tree × Tree)) (f : TermId) (before after : Account) (r : FunctionTyped) : Type 0 where
  pub domain : IsTermAt new.items r.domain
  pub range : IsTermAt new.items r.range
  pub gives : Comes p (Gives (tree_at new.items r.domain, tree_at new.items r.range)) before after
  pub judged : Knows (known new) r.judge (here old (tree_at old.items f) (Pi (tree_at new.items r.domain) (tree_at new.items r.range)))

abbrev pub InfersFunction : (old new : Standing) → Task Refusal (Tree × Tree) → TermId → (before after : Account) → Result FunctionTyped InferFault → Type 0
InfersFunction old new p f before after (Ok r) = IsFunctionTyped old new p f before after r
InfersFunction old new p f before after (Err e) = Stops new.items p e before after

-- the term has the type that is wanted
pub record IsSuited (old new : Standing) (p : Task Refusal (Unit {0})) (u wanted : Tree) (before after : Account) (j : JudgeId) : Type 0 where
  pub gives : Comes p (Gives tt) before after
  pub judged : Knows (known new) j (here old u wanted)

abbrev pub Suits : (old new : Standing) → Task Refusal (Unit {0}) → (u wanted : Tree) → (before after : Account) → Result JudgeId InferFault → Type 0
Suits old new p u wanted before after (Ok j) = IsSuited old new p u wanted before after j
Suits old new p u wanted before after (Err e) = Stops new.items p e before after

-- the arguments have their parameters' types, by a judgement for each, in order
pub record AreJudged (old new : Standing) (p : Task Refusal (Unit {0})) (params us : Trees) (before after : Account) (js : List JudgeId) : Type 0 where
  pub gives : Comes p (Gives tt) before after
  pub live : AllByRecursion (IsNode (known new)) (numbers_of js)
  pub judged : JudgeArguments (known new) (numbers_of js) (length (env old)) old.context params us

abbrev pub JudgesArguments : (old new : Standing) → Task Refusal (Unit {0}) → (params us : Trees) → (before after : Account) → Result (Vec JudgeId) InferFault → Type 0
JudgesArguments old new p params us before after (Ok js) = AreJudged old new p params us before after js.items
JudgesArguments old new p params us before after (Err f) = Stops new.items p f before after

-- the lists that are left of a list of trees without its last ones, for each number of those
pub record ArePrefixes (items : List Item) (us : Trees) (lists : List TermId) : Type 0 where
  pub as_many : length lists ≡ count us
  pub each : (i : ℕ) (d : TermId) → i < length lists → IsListAt items (slice_index_or lists i d) × (list_at items (slice_index_or lists i d) ≡ without i us)

-- the fault is this refusal
abbrev pub IsRefusedBy : List Item → Refusal → InferFault → Type 0
IsRefusedBy items r (fault.Refused f) = refusal_of items f ≡ r
IsRefusedBy items r (fault.Stop s) = ⊥

-- the fault of a part, told of the whole: the step stands in front of a refusal's path, unless memory runs out
abbrev pub IsWithin : PathStep → (part whole : InferFault) → Type 0
IsWithin step (fault.Refused f) whole = (whole ≡ fault.Refused (record f { path = step ∷ f.path })) ⊎ (whole ≡ fault.Stop stop.Memory)
IsWithin step (fault.Stop s) whole = whole ≡ fault.Stop s

-- the type of a variable of the context, with a judgement of the variable and one of the type's sort
pub record IsVariableTyped (old new : Standing) (i : ℕ) (v : VariableTyped) : Type 0 where
  pub term : IsTermAt new.items v.of
  pub type : type_in old.context i ≡ Some (tree_at new.items v.of)
  pub small : IsSmall (One (tree_at new.items v.of))
  pub judged : Knows (known new) v.judge (here old (Var i) (tree_at new.items v.of))
  pub sorted : KnowsSort new v.sort (tree_at new.items v.of)

-- a term that a reading is asked for, over the theory's entries and variables
abbrev pub IsReadable : Standing → TermId → Type 0
IsReadable s t = IsTermAt s.items t × IsWellFormed (env s) (count s.context) (tree_at s.items t)

-- arguments that are over the theory's entries and variables
abbrev pub AreReadable : Standing → Trees → Type 0
AreReadable s us = AreNamed (env s) us × AreScoped us (count s.context)

-- the rule for an instance of an entry that has a body, or of a primitive
abbrev pub IsInstanceStep : Option TermId → JudgeId → List JudgeId → Step → Type 0
IsInstanceStep (Some body) star judges step = step ≡ Inst star judges
IsInstanceStep None star judges step = step ≡ InstPrim star judges
