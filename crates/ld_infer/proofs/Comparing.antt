-- The types of arguments that are compared with those wanted: the standings are those at the start, behind the comparison,
-- behind the sort of the type wanted, and at the end.
use Rattle.std.proofs.Common.{◌≡◌, ◌+◌, ℕ, false, length, Result, Ok, Err, sym, ◌∙◌, subst}
use Rattle.std.specs.Prelude.{is_some}
use Rattle.ld_terms.specs.Tree.{Tree, Trees, count}
use Rattle.ld_terms.specs.Bank.{tree_at, IsTermAt}
use Rattle.ld_terms.specs.Derivable.{IsSort}
use Rattle.ld_terms.specs.declared.bank.TermId.{TermId}
use Rattle.ld_record.specs.declared.record.JudgeId.{JudgeId}
use Rattle.ld_record.specs.declared.record.EqId.{EqId}
use Rattle.ld_record.specs.Follows.{ByConv}
use Rattle.ld_record.specs.Growth.{Knows}
use Rattle.ld_reduce.specs.Task.{Task, Answer, Gives, Fails, High, Nested}
use Rattle.ld_reduce.specs.Cost.{Equates}
use Rattle.ld_reduce.specs.declared.stop.Stop.{Stop}
use Rattle.ld_reduce.specs.declared.stop.Stop.TheVariants as stop
use Rattle.ld_convert.specs.Apart.{apart}
use Rattle.ld_convert.specs.Compares.{Compares}
use Rattle.ld_convert.specs.Account as cost
use Rattle.ld_convert.specs.Pairs.{pairs_of}
use Rattle.ld_convert.specs.declared.job.Compared.{Compared}
use Rattle.ld_convert.specs.declared.job.Compared.TheVariants as compared
use Rattle.ld_convert.specs.declared.job.Job.{Job}
use Rattle.ld_infer.specs.declared.failure.InferFault.{InferFault}
use Rattle.ld_infer.specs.declared.failure.InferFault.TheVariants as fault
use Rattle.ld_infer.specs.declared.inference.Typed.{Typed}
use Rattle.ld_infer.specs.Account.{Account, Comes}
use Rattle.ld_infer.specs.Reading.{Asked, NotSame, Refusal, refusal, again, suits, suited_reading, part_reading, Types}
use Rattle.ld_infer.specs.Standing.{Standing, known, env, here, account, Continues}
use Rattle.ld_infer.specs.Infers.{Stops, StopsBy, ComparesTypes, IsTyped, IsTypedAgain, IsSuited, Suits, IsRefusedBy}
use Rattle.ld_infer.proofs.Sorts.{at_fault}
use Rattle.ld_infer.proofs.Going.{continues_trans, term_stays, tree_stays}
use Rattle.ld_infer.proofs.Staying.{known_here, at_same}
use Rattle.ld_infer.proofs.Parting.{suited_later, suited_stops_later, compared_given, compared_stops_again, compared_apart, compared_stops}
use Rattle.ld_infer.proofs.Exposure.{again_moved, conv_here}

-- what the call for a comparison answers, as the account of a job
comes_by : {E X : Type 0} (p : Task E X) (old new : Standing) (before after : Job) (r : Answer E X)
    → cost.Comes p (pairs_of old.items before.known) r (pairs_of new.items after.known) before.budget after.budget → Comes p r (account old before) (account new after)
comes_by p old new before after r h = record { steps = h.steps; answers = h.answers; takes = record { left = h.takes.left; spent = h.takes.spent } }

stops_by : {E X : Type 0} (p : Task E X) (old new : Standing) (before after : Job) (s : Stop)
    → cost.StopsTask p (pairs_of old.items before.known) (pairs_of new.items after.known) before.budget after.budget s → StopsBy p s (account old before) (account new after)
stops_by p old new before after stop.Spent h = record { none = h.none; left = h.left; takes = record { left = h.takes.left; spent = h.takes.spent } }
stops_by p old new before after stop.High h = comes_by p old new before after High h
stops_by p old new before after stop.Nested h = comes_by p old new before after Nested h
stops_by p old new before after stop.Memory h = tt

comparison : (old new : Standing) (nesting : ℕ) (type wanted : Tree) (before after : Job) (r : Result Compared Stop)
    → cost.ComparedAs (Compares (env old) nesting type wanted) type wanted (length (env old)) new.items (known new) (pairs_of old.items before.known) (pairs_of new.items after.known) before.budget after.budget r
    → ComparesTypes old new nesting type wanted (account old before) (account new after) r
comparison old new nesting type wanted before after (Ok (compared.Same e)) h = (comes_by (Compares (env old) nesting type wanted) old new before after (Gives tt) h.0, h.1)
comparison old new nesting type wanted before after (Ok (compared.Apart left right under)) h =
    comes_by (Compares (env old) nesting type wanted) old new before after (Fails (apart (tree_at new.items left) (tree_at new.items right) under)) h.0
comparison old new nesting type wanted before after (Err s) h = stops_by (Compares (env old) nesting type wanted) old new before after s h

-- The same for the values that a theory had.
pub comparison_of : (old inside new : Standing) (nesting : ℕ) (t wanted : TermId) (before after : Job) (r : Result Compared Stop) → inside ≡ old
    → cost.ComparedAs (Compares (env inside) nesting (tree_at inside.items t) (tree_at inside.items wanted)) (tree_at inside.items t) (tree_at inside.items wanted) (length (env inside)) new.items (known new)
    (pairs_of inside.items before.known) (pairs_of new.items after.known) before.budget after.budget r
    → ComparesTypes old new nesting (tree_at old.items t) (tree_at old.items wanted) (account old before) (account new after) r
comparison_of old inside new nesting t wanted before after r view h =
    let P : Standing → Type 0 = λ s. ComparesTypes s new nesting (tree_at s.items t) (tree_at s.items wanted) (account s before) (account new after) r in
    subst P view (comparison inside new nesting (tree_at inside.items t) (tree_at inside.items wanted) before after r h)

-- the reading of an argument whose type isn't the one wanted
module _ (a b c : Standing) (nest : ℕ) (q : Asked) (wanted u : TermId) (x : Typed) (w w1 w2 : Account) (goes : Continues a b) (at : IsTermAt a.items u) (at_wanted : IsTermAt a.items wanted)
    (typed : IsTyped a b (Types (env a) a.context (nest + 1) q (tree_at a.items u)) u w w1 x) (other : tree_at b.items x.of ≡ tree_at b.items wanted → ⊥) where
  suits_moved : (P : Task Refusal (Unit {0}) → Type 0)
      → P (suits (env b) (Compares (env b) (nest + 1)) (count b.context) (part_reading nest (env b) b.context) false q (tree_at b.items x.of) (tree_at b.items wanted))
      → P (suits (env a) (Compares (env a) (nest + 1)) (count a.context) (part_reading nest (env a) a.context) false q (tree_at b.items x.of) (tree_at a.items wanted))
  suits_moved P h =
      at_same (λ Δ ctx y. P (suits Δ (Compares Δ (nest + 1)) (count ctx) (part_reading nest Δ ctx) false q (tree_at b.items x.of) y)) goes.adds.env goes.context (tree_stays a b wanted goes at_wanted) h

  still_other : tree_at b.items x.of ≡ tree_at a.items wanted → ⊥
  still_other e = other (e ∙ sym (tree_stays a b wanted goes at_wanted))

  pub suited_compared : (r : Result JudgeId InferFault)
      → Suits b c (suits (env b) (Compares (env b) (nest + 1)) (count b.context) (part_reading nest (env b) b.context) false q (tree_at b.items x.of) (tree_at b.items wanted)) (tree_at b.items u) (tree_at b.items wanted) w1 w2 r
      → Suits a c (suited_reading (env a) (Compares (env a) (nest + 1)) (count a.context) (part_reading nest (env a) a.context) q (tree_at a.items wanted) (tree_at a.items u)) (tree_at a.items u) (tree_at a.items wanted) w w2 r
  suited_compared (Ok j) h = record {
    gives = suited_later (env a) (Compares (env a) (nest + 1)) (count a.context) (part_reading nest (env a) a.context) q (tree_at a.items wanted) (tree_at a.items u) (tree_at b.items x.of) (is_some x.of_judge) w w1 w2
        typed.gives still_other (suits_moved (λ p. Comes p (Gives tt) w1 w2) h.gives);
    judged = known_here a b c j (tree_at b.items u) (tree_at a.items u) (tree_at b.items wanted) (tree_at a.items wanted) goes (tree_stays a b u goes at) (tree_stays a b wanted goes at_wanted) h.judged;
  }
  suited_compared (Err f) h =
      suited_stops_later (env a) (Compares (env a) (nest + 1)) (count a.context) (part_reading nest (env a) a.context) c.items q (tree_at a.items wanted) (tree_at a.items u) (tree_at b.items x.of) (is_some x.of_judge) f w w1 w2
      typed.gives still_other (suits_moved (λ p. Stops c.items p f w1 w2) h)

-- The comparison, and what comes after it.
module _ (a b : Standing) (nest : ℕ) (q : Asked) (type : Tree) (wanted : TermId) (w w1 : Account) (goes : Continues a b) (at_wanted : IsTermAt a.items wanted) where
  again_here : (P : Task Refusal (Unit {0}) → Type 0) → P (again (env b) (count b.context) (part_reading nest (env b) b.context) q (tree_at b.items wanted))
      → P (again (env a) (count a.context) (part_reading nest (env a) a.context) q (tree_at a.items wanted))
  again_here P h =
      let Q : Tree → Type 0 = λ y. P (again (env a) (count a.context) (part_reading nest (env a) a.context) q y) in
      subst Q (tree_stays a b wanted goes at_wanted) (again_moved a b nest q (tree_at b.items wanted) P goes h)

  pub compared_typed : (c d : Standing) (u : TermId) (s : TermId × JudgeId) (judge : JudgeId) (w2 : Account) → Continues b c → Continues c d → IsTermAt a.items u
      → Comes (Compares (env a) (nest + 1) type (tree_at a.items wanted)) (Gives tt) w w1
      → IsTypedAgain b c (again (env b) (count b.context) (part_reading nest (env b) b.context) q (tree_at b.items wanted)) wanted w1 w2 s
      → Knows (known d) judge (here c (tree_at c.items u) (tree_at c.items wanted))
      → IsSuited a d (suits (env a) (Compares (env a) (nest + 1)) (count a.context) (part_reading nest (env a) a.context) false q type (tree_at a.items wanted)) (tree_at a.items u) (tree_at a.items wanted) w w2 judge
  compared_typed c d u s judge w2 more last at same typed knows =
      let all = continues_trans a b c goes more in
      record {
        gives = compared_given (env a) (Compares (env a) (nest + 1)) (count a.context) (part_reading nest (env a) a.context) q type (tree_at a.items wanted) w w1 w2 same
            (again_here (λ p. Comes p (Gives tt) w1 w2) typed.gives);
        judged = known_here a c d judge (tree_at c.items u) (tree_at a.items u) (tree_at c.items wanted) (tree_at a.items wanted) all (tree_stays a c u all at) (tree_stays a c wanted all at_wanted) knows;
      }

  -- the rule by which the term has the type that is wanted
  pub conv_wanted : (c : Standing) (j k : JudgeId) (e : EqId) (u : TermId) (sort : Tree) → Continues b c → IsTermAt a.items u → Knows (known a) j (here a (tree_at a.items u) type)
      → Equates (known b) e type (tree_at a.items wanted) (length (env a)) → Knows (known c) k (here b (tree_at b.items wanted) sort) → IsSort sort
      → ByConv (known c) (here c (tree_at c.items u) (tree_at c.items wanted)) j k e
  conv_wanted c j k e u sort more at p equal knows is =
      let E : Tree → Type 0 = λ y. Equates (known b) e type y (length (env a)) in
      conv_here a b c j k e u wanted type sort goes more at (term_stays a b wanted goes at_wanted) p (subst E (sym (tree_stays a b wanted goes at_wanted)) equal) knows is

  pub compared_stopped_again : (c : Standing) (f : InferFault) (w2 : Account) → Comes (Compares (env a) (nest + 1) type (tree_at a.items wanted)) (Gives tt) w w1
      → Stops c.items (again (env b) (count b.context) (part_reading nest (env b) b.context) q (tree_at b.items wanted)) f w1 w2
      → Stops c.items (suits (env a) (Compares (env a) (nest + 1)) (count a.context) (part_reading nest (env a) a.context) false q type (tree_at a.items wanted)) f w w2
  compared_stopped_again c f w2 same h =
      compared_stops_again (env a) (Compares (env a) (nest + 1)) (count a.context) (part_reading nest (env a) a.context) c.items q type (tree_at a.items wanted) f w w1 w2 same
      (again_here (λ p. Stops c.items p f w1 w2) h)

-- the two are apart
pub compared_refused : (a b : Standing) (nest : ℕ) (q : Asked) (of wanted left right : TermId) (under : ℕ) (f : InferFault) (w w' : Account) → Continues a b → IsTermAt a.items of → IsTermAt a.items wanted
    → Comes (Compares (env a) (nest + 1) (tree_at a.items of) (tree_at a.items wanted)) (Fails (apart (tree_at b.items left) (tree_at b.items right) under)) w w'
    → IsRefusedBy b.items (refusal q (count b.context) (NotSame (tree_at b.items of) (tree_at b.items wanted) (apart (tree_at b.items left) (tree_at b.items right) under))) f
    → Stops b.items (suits (env a) (Compares (env a) (nest + 1)) (count a.context) (part_reading nest (env a) a.context) false q (tree_at a.items of) (tree_at a.items wanted)) f w w'
compared_refused a b nest q of wanted left right under f w w' goes at at_wanted h is =
    let d = apart (tree_at b.items left) (tree_at b.items right) under in
    let P : Trees → Tree → Tree → Type 0 = λ ctx x y. IsRefusedBy b.items (refusal q (count ctx) (NotSame x y d)) f in
    compared_apart (env a) (Compares (env a) (nest + 1)) (count a.context) (part_reading nest (env a) a.context) b.items q (tree_at a.items of) (tree_at a.items wanted) d f w w' h
    (at_same P goes.context (tree_stays a b of goes at) (tree_stays a b wanted goes at_wanted) is)

-- the comparison stops
pub compared_stopped : (a b : Standing) (nest : ℕ) (q : Asked) (u type wanted : Tree) (s : Stop) (f : InferFault) (r : Result JudgeId InferFault) (w w' : Account) → r ≡ Err f → f ≡ fault.Stop s
    → StopsBy (Compares (env a) (nest + 1) type wanted) s w w'
    → Suits a b (suits (env a) (Compares (env a) (nest + 1)) (count a.context) (part_reading nest (env a) a.context) false q type wanted) u wanted w w' r
compared_stopped a b nest q u type wanted s f r w w' is same h =
    at_fault (λ x. Suits a b (suits (env a) (Compares (env a) (nest + 1)) (count a.context) (part_reading nest (env a) a.context) false q type wanted) u wanted w w' x) r (fault.Stop s) f is same
    (compared_stops (env a) (Compares (env a) (nest + 1)) (count a.context) (part_reading nest (env a) a.context) q type wanted s w w' h)
