-- The sort of a term, of a domain, and of a type that is typed again.
use Rattle.std.proofs.Common.{◌≡◌, ◌+◌, ◌-◌, ◌≤◌, ℕ, suc, Bool, true, false, ◌||◌, List, Result, Ok, Err, IsErrAnd, sym, subst, arith}
use Rattle.std.proofs.lemmas.Result.{err_from_is_err_and}
use Rattle.ld_terms.specs.Tree.{Tree, Trees, count}
use Rattle.ld_terms.specs.Item.{Item}
use Rattle.ld_terms.specs.Entry.{Env}
use Rattle.ld_terms.specs.Tests.{is_star, is_box}
use Rattle.ld_terms.specs.Bank.{tree_at}
use Rattle.ld_terms.specs.declared.bank.TermId.{TermId}
use Rattle.ld_record.specs.declared.record.JudgeId.{JudgeId}
use Rattle.ld_infer.specs.declared.failure.InferFault.{InferFault}
use Rattle.ld_reduce.specs.Task.{Pairs, Task, Gives, Fails, Answers, gives, fails, step, ◌>>◌}
use Rattle.ld_convert.specs.Compares.{Compares}
use Rattle.ld_infer.specs.Account.{Account, Takes, Comes}
use Rattle.ld_infer.specs.Reading.{Asked, Refusal, Found, found, sort_in, sort_of, again, reading, read_within, Types, SortOf, part_reading}
use Rattle.ld_infer.specs.Standing.{Standing, env}
use Rattle.ld_infer.specs.Infers.{Stops, InfersSort, TypesAgain}
use Rattle.ld_reduce.proofs.Tasks.{gives_answers, fails_answers, step_answers}
use Rattle.ld_infer.proofs.Accounts.{comes_at_once, comes_then}
use Rattle.ld_infer.proofs.Stopping.{stops_first, stops_then}

-- a value that is given at once, and a fault
pub gives_now : {E X : Type 0} (x : X) (w : Account) → Comes {E = E} (gives x) (Gives x) w w
gives_now x w = comes_at_once (gives x) (Gives x) w (gives_answers x w.known)

pub fails_now : {E X : Type 0} (e : E) (w : Account) → Comes {X = X} (fails e) (Fails e) w w
fails_now e w = comes_at_once (fails e) (Fails e) w (fails_answers e w.known)

-- at a nesting that is not passed, the reading of a term is that by its form
pub reads : (Δ : Env) (ctx : Trees) (nest : ℕ) (q : Asked) (t t' : Tree) (P : Task Refusal Found → Type 0) → nest ≤ 1000 → t ≡ t'
    → P (reading Δ (Compares Δ (nest + 1)) (part_reading nest Δ) ctx q t') → P (Types Δ ctx nest q t)
reads Δ ctx nest q t t' P less same h =
    let left : 1001 - nest ≡ suc (1001 - (nest + 1)) = omega (arith, less) in
    let Q : ℕ → Type 0 = λ n. P (read_within n Δ ctx q t) in
    let R : Tree → Type 0 = λ x. P (reading Δ (Compares Δ (nest + 1)) (part_reading nest Δ) ctx q x) in
    subst Q (sym left) (subst R (sym same) h)

-- where a question asks whether a tree is a sort
module _ (Δ : Env) (depth : ℕ) (read : Asked → Tree → Task Refusal Found) (q : Asked) where
  pub sort_in_true : (is : Bool) (type : Tree) (w : Account) → is ≡ true → Comes (sort_in Δ depth is q type) (Gives type) w w
  sort_in_true true type w e = gives_now type w
  sort_in_true false type w e = cc

  pub sort_given : (t type : Tree) (comes : Bool) (w w' : Account) → Comes (read q t) (Gives (found type comes)) w w' → (is_star type || is_box type) ≡ true
      → Comes (sort_of Δ depth read q t) (Gives type) w w'
  sort_given t type comes w w' h e = comes_then (read q t) _ (found type comes) (Gives type) w w' w' h (sort_in_true (is_star type || is_box type) type w' e)

  pub sort_stops : (items : List Item) (t : Tree) (f : InferFault) (w w' : Account) → Stops items (read q t) f w w' → Stops items (sort_of Δ depth read q t) f w w'
  sort_stops items t f w w' h = stops_first items (read q t) _ f w w' h

  -- one step of work
  pub one_step : (w w' : Account) → Takes w w' 1 → w'.known ≡ w.known → Comes {E = Refusal} step (Gives tt) w w'
  one_step w w' takes known =
      let P : Pairs → Type 0 = λ K. Answers {E = Refusal} step w.known (Gives tt) K 1 in
      record { steps = 1; answers = subst P (sym known) (step_answers w.known); takes = takes }

  pub again_given : (t sort : Tree) (w w1 w2 : Account) → Takes w w1 1 → w1.known ≡ w.known → Comes (sort_of Δ depth read q t) (Gives sort) w1 w2
      → Comes (again Δ depth read q t) (Gives tt) w w2
  again_given t sort w w1 w2 takes known h =
      comes_then (step >> sort_of Δ depth read q t) _ sort (Gives tt) w w2 w2 (comes_then step _ tt (Gives sort) w w1 w2 (one_step w w1 takes known) h) (gives_now tt w2)

  -- a fault of the sort is one of typing again
  pub again_stops : (items : List Item) (t : Tree) (f : InferFault) (w w1 w2 : Account) → Takes w w1 1 → w1.known ≡ w.known
      → Stops items (sort_of Δ depth read q t) f w1 w2 → Stops items (again Δ depth read q t) f w w2
  again_stops items t f w w1 w2 takes known h =
      stops_first items (step >> sort_of Δ depth read q t) _ f w w2 (stops_then items step _ tt f w w1 w2 (one_step w w1 takes known) h)

-- what typing again answers, from what the sort answers behind its step
pub typed_again : (a b : Standing) (nest : ℕ) (q : Asked) (t : TermId) (w w1 w2 : Account) → Takes w w1 1 → w1.known ≡ w.known → (r : Result (TermId × JudgeId) InferFault)
    → InfersSort a b (SortOf (env a) a.context (nest + 1) q (tree_at a.items t)) t w1 w2 r
    → TypesAgain a b (again (env a) (count a.context) (part_reading nest (env a) a.context) q (tree_at a.items t)) t w w2 r
typed_again a b nest q t w w1 w2 takes known (Ok s) h = record {
  has = h.has;
  gives = again_given (env a) (count a.context) (part_reading nest (env a) a.context) q (tree_at a.items t) (tree_at b.items s.0) w w1 w2 takes known h.gives;
}
typed_again a b nest q t w w1 w2 takes known (Err f) h =
    again_stops (env a) (count a.context) (part_reading nest (env a) a.context) q b.items (tree_at a.items t) f w w1 w2 takes known h

-- the answer is a fault that was passed on
pub at_fault : {X : Type 0} (P : Result X InferFault → Type 0) (r : Result X InferFault) (f g : InferFault) → r ≡ Err g → g ≡ f → P (Err f) → P r
at_fault P r f g e same h = let Q : InferFault → Type 0 = λ x. P (Err x) in subst P (sym e) (subst Q (sym same) h)

-- the same of what a `?` returns
pub at_err : {X : Type 0} (P : Result X InferFault → Type 0) (r : Result X InferFault) (f : InferFault) → IsErrAnd r (λ g. g ≡ f) → P (Err f) → P r
at_err P r f e h = let p = err_from_is_err_and r e in at_fault P r f p.0 p.1 p.2 h
