-- The function of an application, and arguments, from what is answered for them.
use Rattle.std.proofs.Common.{◌≡◌, ℕ, Bool, true, false, List, Option, Some, ap, sym, subst}
use Rattle.ld_terms.specs.Tree.{Tree, Trees, Pi, count}
use Rattle.ld_terms.specs.Item.{Item}
use Rattle.ld_terms.specs.Entry.{Env}
use Rattle.ld_terms.specs.Tests.{equals}
use Rattle.ld_infer.specs.declared.failure.RuleName.TheVariants.{Appl}
use Rattle.ld_infer.specs.declared.failure.InferFault.{InferFault}
use Rattle.ld_reduce.specs.Task.{Task, Gives, Fails, Ends}
use Rattle.ld_reduce.specs.declared.stop.Stop.{Stop}
use Rattle.ld_convert.specs.Apart.{Apart}
use Rattle.ld_infer.specs.Account.{Account, Comes}
use Rattle.ld_infer.specs.Reading.{Asked, NotSame, Refusal, refusal, Found, found, again, product_of, product_in, same_type, suits, product_read, suited_reading}
use Rattle.ld_infer.specs.Infers.{Stops, StopsBy, IsRefusedBy}
use Rattle.ld_infer.proofs.Accounts.{comes_then, comes_ended, comes_faulted}
use Rattle.ld_infer.proofs.Stopping.{stop_first, stop_told, stops_first, stops_then, refused_by}
use Rattle.ld_infer.proofs.Sorts.{gives_now}
use Rattle.ld_terms.proofs.TreeTests.{equal_trees, other_trees}

module _ (Δ : Env) (read : Trees → Asked → Tree → Task Refusal Found) (ctx : Trees) where
  product_there : (o : Option (Tree × Tree)) (p : Tree × Tree) (q : Asked) (type : Tree) (w : Account) → o ≡ Some p → Comes (product_in Δ (count ctx) (read ctx) o q type) (Gives p) w w
  product_there o p q type w e =
      let P : Option (Tree × Tree) → Type 0 = λ x. Comes (product_in Δ (count ctx) (read ctx) x q type) (Gives p) w w in subst P (sym e) (gives_now p w)

  pub product_read_stops : (items : List Item) (f : Tree) (x : InferFault) (w w' : Account) → Stops items (read ctx (Appl, 1) f) x w w' → Stops items (product_read Δ read ctx f) x w w'
  product_read_stops items f x w w' h = stops_first items (read ctx (Appl, 1) f) _ x w w' h

  pub product_read_given : (f type dom ran : Tree) (comes : Bool) (w w' : Account) → Comes (read ctx (Appl, 1) f) (Gives (found type comes)) w w' → type ≡ Pi dom ran
      → Comes (product_read Δ read ctx f) (Gives (dom, ran)) w w'
  product_read_given f type dom ran comes w w' h e =
      comes_then (read ctx (Appl, 1) f) _ (found type comes) (Gives (dom, ran)) w w' w' h (product_there (product_of type) (dom, ran) (Appl, 1) type w' (ap product_of e))

-- an argument, where read is the reading of parts in a context of so many variables, and compare that of types
module _ (Δ : Env) (compare : Tree → Tree → Task Apart (Unit {0})) (depth : ℕ) (read : Asked → Tree → Task Refusal Found) where
  suited : (same : Bool) (q : Asked) (type wanted : Tree) (w : Account) → same ≡ true → Comes (suits Δ compare depth read same q type wanted) (Gives tt) w w
  suited same q type wanted w e =
      let P : Bool → Type 0 = λ x. Comes (suits Δ compare depth read x q type wanted) (Gives tt) w w in subst P (sym e) (gives_now tt w)

  pub suited_stops : (items : List Item) (q : Asked) (wanted u : Tree) (x : InferFault) (w w' : Account) → Stops items (read q u) x w w' → Stops items (suited_reading Δ compare depth read q wanted u) x w w'
  suited_stops items q wanted u x w w' h = stops_first items (read q u) _ x w w' h

  pub suited_given : (q : Asked) (wanted u type : Tree) (comes : Bool) (w w' : Account) → Comes (read q u) (Gives (found type comes)) w w' → type ≡ wanted
      → Comes (suited_reading Δ compare depth read q wanted u) (Gives tt) w w'
  suited_given q wanted u type comes w w' h e =
      comes_then (read q u) _ (found type comes) (Gives tt) w w' w' h (suited (equals type wanted) q type wanted w' (equal_trees type wanted e))

  -- the type that was found isn't the one wanted, and is compared with it
  pub suited_later : (q : Asked) (wanted u type : Tree) (comes : Bool) (w w1 w2 : Account) → Comes (read q u) (Gives (found type comes)) w w1 → (type ≡ wanted → ⊥)
      → Comes (suits Δ compare depth read false q type wanted) (Gives tt) w1 w2 → Comes (suited_reading Δ compare depth read q wanted u) (Gives tt) w w2
  suited_later q wanted u type comes w w1 w2 h other k =
      let P : Bool → Type 0 = λ x. Comes (suits Δ compare depth read x q type wanted) (Gives tt) w1 w2 in
      comes_then (read q u) _ (found type comes) (Gives tt) w w1 w2 h (subst P (sym (other_trees type wanted other)) k)

  pub suited_stops_later : (items : List Item) (q : Asked) (wanted u type : Tree) (comes : Bool) (f : InferFault) (w w1 w2 : Account) → Comes (read q u) (Gives (found type comes)) w w1
      → (type ≡ wanted → ⊥) → Stops items (suits Δ compare depth read false q type wanted) f w1 w2 → Stops items (suited_reading Δ compare depth read q wanted u) f w w2
  suited_stops_later items q wanted u type comes f w w1 w2 h other k =
      let P : Bool → Type 0 = λ x. Stops items (suits Δ compare depth read x q type wanted) f w1 w2 in
      stops_then items (read q u) _ (found type comes) f w w1 w2 h (subst P (sym (other_trees type wanted other)) k)

  same_found : (q : Asked) (type wanted : Tree) (w w' : Account) → Comes (compare type wanted) (Gives tt) w w' → Comes (same_type Δ compare depth read q type wanted) (Gives tt) w w'
  same_found q type wanted w w' h = comes_faulted (λ d. refusal q depth (NotSame type wanted d)) (compare type wanted) (Gives tt) w w' h

  -- the two are the same, and the one wanted is typed again
  pub compared_given : (q : Asked) (type wanted : Tree) (w w1 w2 : Account) → Comes (compare type wanted) (Gives tt) w w1 → Comes (again Δ depth read q wanted) (Gives tt) w1 w2
      → Comes (suits Δ compare depth read false q type wanted) (Gives tt) w w2
  compared_given q type wanted w w1 w2 h k = comes_then (same_type Δ compare depth read q type wanted) _ tt (Gives tt) w w1 w2 (same_found q type wanted w w1 h) k

  pub compared_stops_again : (items : List Item) (q : Asked) (type wanted : Tree) (f : InferFault) (w w1 w2 : Account) → Comes (compare type wanted) (Gives tt) w w1
      → Stops items (again Δ depth read q wanted) f w1 w2 → Stops items (suits Δ compare depth read false q type wanted) f w w2
  compared_stops_again items q type wanted f w w1 w2 h k =
      stops_then items (same_type Δ compare depth read q type wanted) _ tt f w w1 w2 (same_found q type wanted w w1 h) k

  -- the two are apart
  pub compared_apart : (items : List Item) (q : Asked) (type wanted : Tree) (d : Apart) (f : InferFault) (w w' : Account) → Comes (compare type wanted) (Fails d) w w'
      → IsRefusedBy items (refusal q depth (NotSame type wanted d)) f → Stops items (suits Δ compare depth read false q type wanted) f w w'
  compared_apart items q type wanted d f w w' h is =
      let r = refusal q depth (NotSame type wanted d) in
      refused_by items (suits Δ compare depth read false q type wanted) r f w w' is
      (comes_ended (same_type Δ compare depth read q type wanted) _ (Fails r) (Fails r) w w' (comes_faulted (λ x. refusal q depth (NotSame type wanted x)) (compare type wanted) (Fails d) w w' h) Ends.fault)

  -- the comparison stops
  pub compared_stops : (q : Asked) (type wanted : Tree) (s : Stop) (w w' : Account) → StopsBy (compare type wanted) s w w' → StopsBy (suits Δ compare depth read false q type wanted) s w w'
  compared_stops q type wanted s w w' h =
      stop_first (same_type Δ compare depth read q type wanted) _ s w w' (stop_told (λ d. refusal q depth (NotSame type wanted d)) (compare type wanted) s w w' h)
