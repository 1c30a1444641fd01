-- Types that are reduced at their heads: the task's answer, and how a term is led to the type that is reached.
use Rattle.std.proofs.Common.{◌≡◌, ◌+◌, ◌-◌, ℕ, Bool, true, false, ◌||◌, List, length, Option, None, Result, Ok, Err, refl, ap, sym, ◌∙◌, subst, arith}
use Rattle.std.proofs.lemmas.List.{take_all}
use Rattle.std.specs.Prelude.{is_some}
use Rattle.ld_terms.specs.Tree.{Tree, Trees, Star, Box, Pi, count}
use Rattle.ld_terms.specs.Item.{Item}
use Rattle.ld_terms.specs.Bank.{tree_at, IsTermAt}
use Rattle.ld_terms.specs.Entry.{Env, IsScoped, IsScopedEnv}
use Rattle.ld_terms.specs.Tests.{is_star, is_box}
use Rattle.ld_terms.specs.Derivable.{IsSort}
use Rattle.ld_terms.specs.Derivable as typing
use Rattle.ld_terms.specs.Known.{Judgement}
use Rattle.ld_terms.specs.Named.{IsNamed}
use Rattle.ld_terms.specs.declared.bank.TermId.{TermId}
use Rattle.ld_laws.proofs.Scoping.{scopes}
use Rattle.ld_record.specs.declared.record.JudgeId.{JudgeId}
use Rattle.ld_record.specs.declared.record.EqId.{EqId}
use Rattle.ld_record.specs.Follows.{ByConv}
use Rattle.ld_record.specs.Kept.{IsSound}
use Rattle.ld_record.specs.Growth.{Knows}
use Rattle.ld_record.proofs.CallerLemmas.{derivable}
use Rattle.ld_reduce.specs.Task.{Pairs, Task, Answer, Gives, Fails, High, Answers}
use Rattle.ld_reduce.specs.Heads.{Expose, At, head_step}
use Rattle.ld_reduce.specs.Work.{Work, work}
use Rattle.ld_convert.specs.Pairs.{pairs_of}
use Rattle.ld_convert.specs.declared.job.Job.{Job}
use Rattle.ld_reduce.specs.Cost as cost
use Rattle.ld_reduce.specs.Cost.{Equates}
use Rattle.ld_reduce.specs.declared.stop.Stop.{Stop}
use Rattle.ld_reduce.specs.declared.stop.Stop.TheVariants as stop
use Rattle.ld_reduce.proofs.CallerLemmas.{TaskComes, answers_task}
use Rattle.ld_reduce.proofs.Once.{runs_once}
use Rattle.ld_reduce.proofs.Going.{right_named, equates_later}
use Rattle.ld_infer.specs.declared.failure.RuleName.TheVariants.{Appl}
use Rattle.ld_infer.specs.declared.failure.InferFault.{InferFault}
use Rattle.ld_infer.specs.declared.failure.InferFault.TheVariants as fault
use Rattle.ld_infer.specs.declared.inference.Typed.{Typed}
use Rattle.ld_infer.specs.declared.function.FunctionTyped.{FunctionTyped}
use Rattle.ld_infer.specs.Account.{Account, Comes}
use Rattle.ld_infer.specs.Reading.{Asked, NotSort, NotFunction, Refusal, refusal, Found, found, exposed, exposed_sort, sort_in, again, product_of, exposed_product, product_in, product_read, read_within, part_reading, Types, SortOf}
use Rattle.ld_infer.specs.Standing.{Standing, known, env, here, account, Continues, KnowsType, KnowsPairs}
use Rattle.ld_infer.specs.Infers.{Stops, StopsBy, Exposes, IsTyped, IsSorted, IsTypedAgain, IsFunctionTyped, InfersSort, InfersFunction, IsRefusedBy}
use Rattle.ld_infer.proofs.Accounts.{comes_then}
use Rattle.ld_infer.proofs.Stopping.{stop_first, stops_first, stops_then, refused_by}
use Rattle.ld_infer.proofs.Sorts.{gives_now, fails_now, at_fault}
use Rattle.ld_infer.proofs.Going.{continues_trans, here_stays, term_stays, tree_stays, knows_stays}
use Rattle.ld_infer.proofs.Pairs.{account_stays}
use Rattle.ld_infer.proofs.Staying.{known_here, at_same, at_both}
use Rattle.ld_infer.proofs.Concluding.{well_formed}
use Rattle.ld_infer.proofs.HeadScopes.{runs_scoped}

-- where a judgement over all entries is known, the environment is scoped
env_scoped : (s : Standing) (j : JudgeId) (t type : Tree) → IsSound s.items s.kept → Knows (known s) j (here s t type) → IsScopedEnv (env s)
env_scoped s j t type sound knows =
    let P : Env → Type 0 = λ Δ. IsScopedEnv Δ in
    subst P (take_all (length (env s)) (env s) (omega arith)) (scopes (derivable s.items s.kept j (here s t type) sound knows)).of_env

-- the answer of the call, as that of the task
comes_by : (p : Task Refusal Tree) (r : Answer Refusal Tree) (w w' : Account) → w'.known ≡ w.known → TaskComes p w.known r (work w.left w.spent) (work w'.left w'.spent) → Comes p r w w'
comes_by p r w w' known h =
    let P : Pairs → Type 0 = λ K. Answers p w.known r K h.steps in
    record { steps = h.steps; answers = subst P (sym known) h.answers; takes = record { left = h.takes.left; spent = h.takes.spent } }

pub exposure : (old new : Standing) (type : Tree) (w w' : Account) (result : Result (TermId × EqId) Stop) → IsScopedEnv (env old) → IsScoped type (count old.context) → Continues old new
    → IsSound new.items new.kept → w'.known ≡ w.known
    → cost.Answers (Expose (env old) type) type (length (env old)) new.items (known new) (work w.left w.spent) (work w'.left w'.spent) result → Exposes old new type w w' result
exposure old new type w w' (Ok r) scoped within goes sound known_is h =
    let task = answers_task Refusal (Expose (env old) type) w.known type (length (env old)) new.items (known new) (work w.left w.spent) (work w'.left w'.spent) (Ok r) (runs_once (head_step (env old)) type) h in
    let x = tree_at new.items r.0 in
    let P : Trees → Type 0 = λ ctx. IsScoped x (count ctx) in
    record {
      term = h.1.term;
      formed = record {
        named = right_named new.items new.kept r.1 type x (length (env old)) sound h.1.equal;
        scoped = subst P (sym goes.context) (runs_scoped (env old) (count old.context) type (At x) h.0.steps scoped h.0.comes x refl within);
      };
      gives = comes_by (exposed (env old) type) (Gives x) w w' known_is task;
      equal = h.1.equal;
    }
exposure old new type w w' (Err stop.Spent) scoped within goes sound known_is h =
    let task = answers_task Refusal (Expose (env old) type) w.known type (length (env old)) new.items (known new) (work w.left w.spent) (work w'.left w'.spent) (Err stop.Spent) (runs_once (head_step (env old)) type) h in
    record { none = task.none; left = task.left; takes = record { left = task.takes.left; spent = task.takes.spent } }
exposure old new type w w' (Err stop.High) scoped within goes sound known_is h =
    let task = answers_task Refusal (Expose (env old) type) w.known type (length (env old)) new.items (known new) (work w.left w.spent) (work w'.left w'.spent) (Err stop.High) (runs_once (head_step (env old)) type) h in
    comes_by (exposed (env old) type) High w w' known_is task
exposure old new type w w' (Err stop.Nested) scoped within goes sound known_is h = absurd h
exposure old new type w w' (Err stop.Memory) scoped within goes sound known_is h = tt

-- The same for the values that a theory had, and a job: the type is that of a judgement of its context.
pub exposed_type : (old inside new : Standing) (t : TermId) (j : JudgeId) (job : Job) (budget : Work) (result : Result (TermId × EqId) Stop) → inside ≡ old → IsSound inside.items inside.kept
    → KnowsType old j (tree_at old.items t) → Continues old new → IsSound new.items new.kept → KnowsPairs old job.known
    → cost.Answers (Expose (env inside) (tree_at inside.items t)) (tree_at inside.items t) (length (env inside)) new.items (known new) job.budget budget result
    → Exposes old new (tree_at old.items t) (account old job) (account new (record job { budget = budget })) result
exposed_type old inside new t j job budget result view sound h goes now pairs answers =
    let P : Standing → Type 0 = λ s. IsSound s.items s.kept in
    let Q : Standing → Type 0 = λ s. cost.Answers (Expose (env s) (tree_at s.items t)) (tree_at s.items t) (length (env s)) new.items (known new) job.budget budget result in
    let sound_old = subst P view sound in
    let formed = well_formed old j h.term (tree_at old.items t) sound_old h.knows in
    let same : pairs_of new.items job.known ≡ pairs_of old.items job.known = ap (λ (w : Account). w.known) (account_stays old new job goes pairs) in
    exposure old new (tree_at old.items t) (account old job) (account new (record job { budget = budget })) result (env_scoped old j h.term (tree_at old.items t) sound_old h.knows) formed.1.scoped goes now same
    (subst Q view answers)

pub type_named : (old inside : Standing) (t : TermId) (j : JudgeId) → inside ≡ old → IsSound inside.items inside.kept → KnowsType old j (tree_at old.items t) → IsNamed (env inside) (tree_at inside.items t)
type_named old inside t j view sound h =
    let P : Standing → Type 0 = λ s. IsSound s.items s.kept in
    let Q : Standing → Type 0 = λ s. IsNamed (env s) (tree_at s.items t) in
    subst Q (sym view) (well_formed old j h.term (tree_at old.items t) (subst P view sound) h.knows).1.named

-- a judgement that was kept earlier, of a term that stays
known_on : (a c : Standing) (j : JudgeId) (t t' type : Tree) → Continues a c → t' ≡ t → Knows (known a) j (here a t type) → Knows (known c) j (here c t' type)
known_on a c j t t' type h e k =
    let P : Tree → Type 0 = λ x. Knows (known c) j (here c x type) in
    let Q : Judgement → Type 0 = λ s. Knows (known c) j s in
    subst P (sym e) (subst Q (sym (here_stays a c t type h)) (knows_stays a c j (here a t type) h k))

-- the judgement of a term and a type, led to the term of another judgement
by_conv : (s : Standing) (j k : JudgeId) (e : EqId) (t type wanted sort : Tree) → Knows (known s) j (here s t type) → Knows (known s) k (here s wanted sort) → IsSort sort
    → Equates (known s) e type wanted (length (env s)) → ByConv (known s) (here s t wanted) j k e
by_conv s j k e t type wanted sort p q is h =
    let S : Tree → Type 0 = IsSort in
    record {
      first = record { live = p.live; entries = ap (λ (x : Judgement). x.entries) p.is };
      second = record { live = q.live; entries = ap (λ (x : Judgement). x.entries) q.is };
      live = h.sides.live;
      typed = ap (λ (x : Judgement). x.context) p.is;
      wanted = ap (λ (x : Judgement). x.context) q.is;
      sort = subst S (sym (ap (λ (x : Judgement). x.type) q.is)) is;
      left = h.sides.left ∙ sym (ap (λ (x : Judgement). x.type) p.is);
      right = h.sides.right;
      bound = h.most;
      term = sym (ap (λ (x : Judgement). x.term) p.is);
      type = sym (ap (λ (x : Judgement). x.term) q.is);
    }

-- The standings are those of the term's judgement, behind the type that is reached, and behind its judgement.
pub conv_here : (a b c : Standing) (j k : JudgeId) (e : EqId) (t to : TermId) (type sort : Tree) → Continues a b → Continues b c → IsTermAt a.items t → IsTermAt b.items to
    → Knows (known a) j (here a (tree_at a.items t) type) → Equates (known b) e type (tree_at b.items to) (length (env a)) → Knows (known c) k (here b (tree_at b.items to) sort) → IsSort sort
    → ByConv (known c) (here c (tree_at c.items t) (tree_at c.items to)) j k e
conv_here a b c j k e t to type sort goes more at at_to p equal q is =
    let all = continues_trans a b c goes more in
    let same = tree_stays b c to more at_to in
    let J : Judgement → Type 0 = λ s. Knows (known c) k s in
    let K : Tree → Type 0 = λ x. Knows (known c) k (here c x sort) in
    let E : Tree → Env → Type 0 = λ x Δ. Equates (known c) e type x (length Δ) in
    by_conv c j k e (tree_at c.items t) type (tree_at c.items to) sort
    (known_on a c j (tree_at a.items t) (tree_at c.items t) type all (tree_stays a c t all at) p)
    (subst K (sym same) (subst J (sym (here_stays b c (tree_at b.items to) sort more)) q)) is
    (at_both E (sym same) (sym all.adds.env) (equates_later (known b) (known c) e type (tree_at b.items to) (length (env a)) more.adds equal))

-- `*` has the type box, and is what was reached
pub star_reached : (b c : Standing) (k : JudgeId) (to : TermId) → tree_at b.items to ≡ Star → Knows (known c) k (here b Star Box) → Knows (known c) k (here b (tree_at b.items to) Box)
star_reached b c k to is h = let P : Tree → Type 0 = λ x. Knows (known c) k (here b x Box) in subst P (sym is) h

-- the tasks where a type is no sort, or no product, as it stands
module _ (Δ : Env) (depth : ℕ) (q : Asked) where
  sort_there : (is : Bool) (type : Tree) (w : Account) → is ≡ true → Comes (exposed_sort Δ depth is q type) (Gives Star) w w
  sort_there true type w e = gives_now Star w
  sort_there false type w e = absurd (cc)

  no_sort : (is : Bool) (type : Tree) (w : Account) → is ≡ false → Comes (exposed_sort Δ depth is q type) (Fails (refusal q depth (NotSort type))) w w
  no_sort false type w e = fails_now (refusal q depth (NotSort type)) w
  no_sort true type w e = absurd (cc)

  pub sort_exposed : (type t : Tree) (w w' : Account) → Comes (exposed Δ type) (Gives t) w w' → is_star t ≡ true → Comes (sort_in Δ depth false q type) (Gives Star) w w'
  sort_exposed type t w w' h is = comes_then (exposed Δ type) _ t (Gives Star) w w' w' h (sort_there (is_star t) type w' is)

  pub sort_refused : (type t : Tree) (w w' : Account) → Comes (exposed Δ type) (Gives t) w w' → is_star t ≡ false → Comes (sort_in Δ depth false q type) (Fails (refusal q depth (NotSort type))) w w'
  sort_refused type t w w' h is = comes_then (exposed Δ type) _ t (Fails (refusal q depth (NotSort type))) w w' w' h (no_sort (is_star t) type w' is)

module _ (Δ : Env) (depth : ℕ) (read : Asked → Tree → Task Refusal Found) (q : Asked) where
  pub product_exposed : (type t dom ran : Tree) (w w1 w2 : Account) → Comes (exposed Δ type) (Gives t) w w1 → t ≡ Pi dom ran → Comes (again Δ depth read q t) (Gives tt) w1 w2
      → Comes (product_in Δ depth read None q type) (Gives (dom, ran)) w w2
  product_exposed type t dom ran w w1 w2 h e k =
      let P : Tree → Type 0 = λ x. Comes (again Δ depth read q x) (Gives tt) w1 w2 in
      let Q : Option (Tree × Tree) → Type 0 = λ o. Comes (exposed_product Δ depth read o q type) (Gives (dom, ran)) w1 w2 in
      comes_then (exposed Δ type) _ t (Gives (dom, ran)) w w1 w2 h
      (subst Q (sym (ap product_of e)) (comes_then (again Δ depth read q (Pi dom ran)) _ tt (Gives (dom, ran)) w1 w2 w2 (subst P e k) (gives_now (dom, ran) w2)))

  pub product_again_stops : (items : List Item) (type t dom ran : Tree) (g : InferFault) (w w1 w2 : Account) → Comes (exposed Δ type) (Gives t) w w1 → t ≡ Pi dom ran
      → Stops items (again Δ depth read q t) g w1 w2 → Stops items (product_in Δ depth read None q type) g w w2
  product_again_stops items type t dom ran g w w1 w2 h e k =
      let P : Tree → Type 0 = λ x. Stops items (again Δ depth read q x) g w1 w2 in
      let Q : Option (Tree × Tree) → Type 0 = λ o. Stops items (exposed_product Δ depth read o q type) g w1 w2 in
      stops_then items (exposed Δ type) _ t g w w1 w2 h (subst Q (sym (ap product_of e)) (stops_first items (again Δ depth read q (Pi dom ran)) _ g w1 w2 (subst P e k)))

  pub product_refused : (type t : Tree) (w w' : Account) → Comes (exposed Δ type) (Gives t) w w' → product_of t ≡ None
      → Comes (product_in Δ depth read None q type) (Fails (refusal q depth (NotFunction type))) w w'
  product_refused type t w w' h e =
      let Q : Option (Tree × Tree) → Type 0 = λ o. Comes (exposed_product Δ depth read o q type) (Fails (refusal q depth (NotFunction type))) w' w' in
      comes_then (exposed Δ type) _ t (Fails (refusal q depth (NotFunction type))) w w' w' h (subst Q (sym e) (fails_now (refusal q depth (NotFunction type)) w'))

-- The sort of a term, behind its type.
module _ (a b c : Standing) (t : TermId) (x : Typed) (w w1 w2 : Account) (goes : Continues a b) (at : IsTermAt a.items t) where
  pub sort_later : (nest : ℕ) (q : Asked) (r : Result (TermId × JudgeId) InferFault) → IsTyped a b (Types (env a) a.context nest q (tree_at a.items t)) t w w1 x
      → (is_star (tree_at b.items x.of) || is_box (tree_at b.items x.of)) ≡ false
      → InfersSort b c (sort_in (env b) (count b.context) false q (tree_at b.items x.of)) t w1 w2 r
      → InfersSort a c (SortOf (env a) a.context nest q (tree_at a.items t)) t w w2 r
  sort_later nest q (Ok s) h other k =
      let read = read_within (1001 - nest) (env a) a.context in
      let type = tree_at b.items x.of in
      let P : Env → Trees → Bool → Type 0 = λ Δ ctx is. Comes (sort_in Δ (count ctx) is q type) (Gives (tree_at c.items s.0)) w1 w2 in
      record {
        has = record {
          term = k.has.term;
          sort = k.has.sort;
          judged = known_here a b c s.1 (tree_at b.items t) (tree_at a.items t) (tree_at c.items s.0) (tree_at c.items s.0) goes (tree_stays a b t goes at) refl k.has.judged;
        };
        gives = comes_then (read q (tree_at a.items t)) _ (found type (is_some x.of_judge)) (Gives (tree_at c.items s.0)) w w1 w2 h.gives (at_same P goes.adds.env goes.context (sym other) k.gives);
      }
  sort_later nest q (Err f) h other k =
      let read = read_within (1001 - nest) (env a) a.context in
      let type = tree_at b.items x.of in
      let P : Env → Trees → Bool → Type 0 = λ Δ ctx is. Stops c.items (sort_in Δ (count ctx) is q type) f w1 w2 in
      stops_then c.items (read q (tree_at a.items t)) _ (found type (is_some x.of_judge)) f w w1 w2 h.gives (at_same P goes.adds.env goes.context (sym other) k)

  -- The product of a function's type, behind the type.
  pub product_later : (nest : ℕ) (r : Result FunctionTyped InferFault) → IsTyped a b (Types (env a) a.context (nest + 1) (Appl, 1) (tree_at a.items t)) t w w1 x
      → product_of (tree_at b.items x.of) ≡ None
      → InfersFunction b c (product_in (env b) (count b.context) (part_reading nest (env b) b.context) None (Appl, 1) (tree_at b.items x.of)) t w1 w2 r
      → InfersFunction a c (product_read (env a) (part_reading nest (env a)) a.context (tree_at a.items t)) t w w2 r
  product_later nest (Ok r) h none k =
      let type = tree_at b.items x.of in
      let p : Tree × Tree = (tree_at c.items r.domain, tree_at c.items r.range) in
      let P : Env → Trees → Option (Tree × Tree) → Type 0 = λ Δ ctx o. Comes (product_in Δ (count ctx) (part_reading nest Δ ctx) o (Appl, 1) type) (Gives p) w1 w2 in
      record {
        domain = k.domain;
        range = k.range;
        gives = comes_then (part_reading nest (env a) a.context (Appl, 1) (tree_at a.items t)) _ (found type (is_some x.of_judge)) (Gives p) w w1 w2 h.gives
            (at_same P goes.adds.env goes.context (sym none) k.gives);
        judged = known_here a b c r.judge (tree_at b.items t) (tree_at a.items t) _ _ goes (tree_stays a b t goes at) refl k.judged;
      }
  product_later nest (Err f) h none k =
      let type = tree_at b.items x.of in
      let P : Env → Trees → Option (Tree × Tree) → Type 0 = λ Δ ctx o. Stops c.items (product_in Δ (count ctx) (part_reading nest Δ ctx) o (Appl, 1) type) f w1 w2 in
      stops_then c.items (part_reading nest (env a) a.context (Appl, 1) (tree_at a.items t)) _ (found type (is_some x.of_judge)) f w w1 w2 h.gives
      (at_same P goes.adds.env goes.context (sym none) k)

-- the type is too far, too high, or memory runs out
pub sort_stopped : (a b : Standing) (q : Asked) (t : TermId) (type : Tree) (s : Stop) (f : InferFault) (r : Result (TermId × JudgeId) InferFault) (w w' : Account)
    → r ≡ Err f → f ≡ fault.Stop s → StopsBy (exposed (env a) type) s w w' → InfersSort a b (sort_in (env a) (count a.context) false q type) t w w' r
sort_stopped a b q t type s f r w w' is same h =
    at_fault (λ x. InfersSort a b (sort_in (env a) (count a.context) false q type) t w w' x) r (fault.Stop s) f is same (stop_first (exposed (env a) type) _ s w w' h)

pub product_expose_stopped : (a b : Standing) (nest : ℕ) (t : TermId) (type : Tree) (s : Stop) (f : InferFault) (r : Result FunctionTyped InferFault) (w w' : Account)
    → r ≡ Err f → f ≡ fault.Stop s → StopsBy (exposed (env a) type) s w w'
    → InfersFunction a b (product_in (env a) (count a.context) (part_reading nest (env a) a.context) None (Appl, 1) type) t w w' r
product_expose_stopped a b nest t type s f r w w' is same h =
    at_fault (λ x. InfersFunction a b (product_in (env a) (count a.context) (part_reading nest (env a) a.context) None (Appl, 1) type) t w w' x) r (fault.Stop s) f is same
    (stop_first (exposed (env a) type) _ s w w' h)

-- what is reached is no sort, or no product
pub sort_not_reached : (a b : Standing) (q : Asked) (of : TermId) (t : Tree) (f : InferFault) (w w' : Account) → Continues a b → IsTermAt a.items of
    → Comes (exposed (env a) (tree_at a.items of)) (Gives t) w w' → is_star t ≡ false → IsRefusedBy b.items (refusal q (count b.context) (NotSort (tree_at b.items of))) f
    → Stops b.items (sort_in (env a) (count a.context) false q (tree_at a.items of)) f w w'
sort_not_reached a b q of t f w w' goes at gives other is =
    let type = tree_at a.items of in
    let P : Trees → Tree → Type 0 = λ ctx x. IsRefusedBy b.items (refusal q (count ctx) (NotSort x)) f in
    refused_by b.items (sort_in (env a) (count a.context) false q type) (refusal q (count a.context) (NotSort type)) f w w' (at_both P goes.context (tree_stays a b of goes at) is)
    (sort_refused (env a) (count a.context) q type t w w' gives other)

pub product_not_reached : (a b : Standing) (nest : ℕ) (of : TermId) (t : Tree) (f : InferFault) (w w' : Account) → Continues a b → IsTermAt a.items of
    → Comes (exposed (env a) (tree_at a.items of)) (Gives t) w w' → product_of t ≡ None → IsRefusedBy b.items (refusal (Appl, 1) (count b.context) (NotFunction (tree_at b.items of))) f
    → Stops b.items (product_in (env a) (count a.context) (part_reading nest (env a) a.context) None (Appl, 1) (tree_at a.items of)) f w w'
product_not_reached a b nest of t f w w' goes at gives other is =
    let type = tree_at a.items of in
    let P : Trees → Tree → Type 0 = λ ctx x. IsRefusedBy b.items (refusal (Appl, 1) (count ctx) (NotFunction x)) f in
    refused_by b.items (product_in (env a) (count a.context) (part_reading nest (env a) a.context) None (Appl, 1) type) (refusal (Appl, 1) (count a.context) (NotFunction type)) f w w'
    (at_both P goes.context (tree_stays a b of goes at) is) (product_refused (env a) (count a.context) (part_reading nest (env a) a.context) (Appl, 1) type t w w' gives other)

-- the answer that a sort was reached: the standings are those at the start, behind the type, behind the judgement of `*`, and at the end
pub sort_reached : (a b c d : Standing) (q : Asked) (t to : TermId) (type : Tree) (judge : JudgeId) (w w' : Account)
    → Continues a b → Continues b c → Continues c d → IsTermAt a.items t → IsTermAt b.items to → Comes (exposed (env a) type) (Gives (tree_at b.items to)) w w' → tree_at b.items to ≡ Star
    → Knows (known d) judge (here c (tree_at c.items t) (tree_at c.items to))
    → IsSorted a d (sort_in (env a) (count a.context) false q type) t w w' (to, judge)
sort_reached a b c d q t to type judge w w' goes more last at at_to gives is knows =
    let all = continues_trans a b c goes more in
    let on = continues_trans b c d more last in
    let there = term_stays b c to more at_to in
    let star : tree_at d.items to ≡ Star = tree_stays b d to on at_to ∙ is in
    let S : Tree → Type 0 = IsSort in
    let G : Tree → Type 0 = λ x. Comes (sort_in (env a) (count a.context) false q type) (Gives x) w w' in
    record {
      has = record {
        term = term_stays b d to on at_to;
        sort = subst S (sym star) typing.star;
        judged = known_here a c d judge (tree_at c.items t) (tree_at a.items t) (tree_at c.items to) (tree_at d.items to) all (tree_stays a c t all at) (sym (tree_stays c d to last there)) knows;
      };
      gives = subst G (sym star) (sort_exposed (env a) (count a.context) q type (tree_at b.items to) w w' gives (ap is_star is));
    }

-- a type that is typed again, told of the standing before it was reached
pub again_moved : (a b : Standing) (nest : ℕ) (q : Asked) (x : Tree) (P : Task Refusal (Unit {0}) → Type 0) → Continues a b
    → P (again (env b) (count b.context) (part_reading nest (env b) b.context) q x) → P (again (env a) (count a.context) (part_reading nest (env a) a.context) q x)
again_moved a b nest q x P goes h = at_both (λ Δ ctx. P (again Δ (count ctx) (part_reading nest Δ ctx) q x)) goes.adds.env goes.context h

pub product_stopped : (a b : Standing) (items : List Item) (nest : ℕ) (type t dom ran : Tree) (g : InferFault) (w w1 w2 : Account) → Continues a b → Comes (exposed (env a) type) (Gives t) w w1 → t ≡ Pi dom ran
    → Stops items (again (env b) (count b.context) (part_reading nest (env b) b.context) (Appl, 1) t) g w1 w2
    → Stops items (product_in (env a) (count a.context) (part_reading nest (env a) a.context) None (Appl, 1) type) g w w2
product_stopped a b items nest type t dom ran g w w1 w2 goes h is k =
    product_again_stops (env a) (count a.context) (part_reading nest (env a) a.context) (Appl, 1) items type t dom ran g w w1 w2 h is
    (again_moved a b nest (Appl, 1) t (λ p. Stops items p g w1 w2) goes k)

-- the answer that a product was reached: the standings are those at the start, behind the product, behind its sort, and at the end
pub product_reached : (a b c d : Standing) (nest : ℕ) (f to dom ran : TermId) (type : Tree) (s : TermId × JudgeId) (judge : JudgeId) (w w1 w2 : Account)
    → Continues a b → Continues b c → Continues c d → IsTermAt a.items f → IsTermAt b.items to → IsTermAt b.items dom → IsTermAt b.items ran → Comes (exposed (env a) type) (Gives (tree_at b.items to)) w w1
    → tree_at b.items to ≡ Pi (tree_at b.items dom) (tree_at b.items ran)
    → IsTypedAgain b c (again (env b) (count b.context) (part_reading nest (env b) b.context) (Appl, 1) (tree_at b.items to)) to w1 w2 s
    → Knows (known d) judge (here c (tree_at c.items f) (tree_at c.items to))
    → IsFunctionTyped a d (product_in (env a) (count a.context) (part_reading nest (env a) a.context) None (Appl, 1) type) f w w2 (record { judge = judge; domain = dom; range = ran })
product_reached a b c d nest f to dom ran type s judge w w1 w2 goes more last at at_to at_dom at_ran gives is again_is knows =
    let all = continues_trans a b c goes more in
    let on = continues_trans b c d more last in
    let dom_is : tree_at d.items dom ≡ tree_at b.items dom = tree_stays b d dom on at_dom in
    let ran_is : tree_at d.items ran ≡ tree_at b.items ran = tree_stays b d ran on at_ran in
    let to_is : tree_at c.items to ≡ Pi (tree_at d.items dom) (tree_at d.items ran) =
    tree_stays b c to more at_to ∙ is ∙ ap (λ x. Pi x (tree_at b.items ran)) (sym dom_is) ∙ ap (Pi (tree_at d.items dom)) (sym ran_is) in
    let G : Tree → Tree → Type 0 = λ x y. Comes (product_in (env a) (count a.context) (part_reading nest (env a) a.context) None (Appl, 1) type) (Gives (x, y)) w w2 in
    record {
      domain = term_stays b d dom on at_dom;
      range = term_stays b d ran on at_ran;
      gives = at_both G (sym dom_is) (sym ran_is)
          (product_exposed (env a) (count a.context) (part_reading nest (env a) a.context) (Appl, 1) type (tree_at b.items to) (tree_at b.items dom) (tree_at b.items ran) w w1 w2 gives is
          (again_moved a b nest (Appl, 1) (tree_at b.items to) (λ p. Comes p (Gives tt) w1 w2) goes again_is.gives));
      judged = known_here a c d judge (tree_at c.items f) (tree_at a.items f) (tree_at c.items to) _ all (tree_stays a c f all at) to_is knows;
    }
