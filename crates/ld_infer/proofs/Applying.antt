-- The rows for applications and instances: how the reading ends where a part ends it, and what it gives.
use Rattle.std.proofs.Common.{◌≡◌, false, List, Option, Some, sym, subst}
use Rattle.ld_terms.specs.Tree.{Tree, Trees, Nil, ◌▸◌, count}
use Rattle.ld_terms.specs.Item.{Item, One, IsSmall}
use Rattle.ld_terms.specs.Put.{put}
use Rattle.ld_terms.specs.Entry.{Env, Entry}
use Rattle.ld_terms.specs.declared.bank.TermFault.{TermFault}
use Rattle.ld_terms.specs.declared.bank.TermFault.TheVariants as term
use Rattle.ld_infer.specs.declared.failure.InferFault.{InferFault}
use Rattle.ld_infer.specs.declared.failure.InferFault.TheVariants as fault
use Rattle.ld_infer.specs.declared.failure.RuleName.TheVariants.{Appl}
use Rattle.ld_infer.specs.declared.failure.PathStep.TheVariants.{Arg}
use Rattle.ld_reduce.specs.Task.{Task, Gives}
use Rattle.ld_convert.specs.Apart.{Apart}
use Rattle.ld_infer.specs.Account.{Account, Comes}
use Rattle.ld_reduce.specs.Cost.{stop_of}
use Rattle.ld_infer.specs.Infers.{Stops}
use Rattle.ld_infer.proofs.Accounts.{comes_then}
use Rattle.ld_infer.proofs.Stopping.{stops_first, stops_then}
use Rattle.ld_infer.proofs.Formed.{type_formed, formed_stops}
use Rattle.ld_infer.specs.Reading.{Asked, Refusal, Found, found, function_reading, argument_reading, application_reading, arguments, instance_rule, instance_reading}

module _ (Δ : Env) (compare : Tree → Tree → Task Apart (Unit {0})) (read : Trees → Asked → Tree → Task Refusal Found) (ctx : Trees) where
  pub application_stops_function : (items : List Item) (f u : Tree) (g : InferFault) (w w' : Account) → Stops items (function_reading Δ read ctx f) g w w'
      → Stops items (application_reading Δ compare read ctx f u) g w w'
  application_stops_function items f u g w w' h = stops_first items (function_reading Δ read ctx f) _ g w w' h

  pub application_stops_argument : (items : List Item) (f u dom ran : Tree) (g : InferFault) (w w1 w2 : Account) → Comes (function_reading Δ read ctx f) (Gives (dom, ran)) w w1
      → Stops items (argument_reading Δ compare (count ctx) (read ctx) Arg (Appl, 2) dom u) g w1 w2 → Stops items (application_reading Δ compare read ctx f u) g w w2
  application_stops_argument items f u dom ran g w w1 w2 h s =
      stops_then items (function_reading Δ read ctx f) _ (dom, ran) g w w1 w2 h (stops_first items (argument_reading Δ compare (count ctx) (read ctx) Arg (Appl, 2) dom u) _ g w1 w2 s)

  pub application_stops_formed : (items : List Item) (f u dom ran : Tree) (x : TermFault) (g : InferFault) (w w1 w2 : Account)
      → Comes (function_reading Δ read ctx f) (Gives (dom, ran)) w w1 → Comes (argument_reading Δ compare (count ctx) (read ctx) Arg (Appl, 2) dom u) (Gives tt) w1 w2
      → (x ≡ term.High → ¬ IsSmall (One (put ran (Nil ▸ u)))) → g ≡ fault.Stop (stop_of x) → Stops items (application_reading Δ compare read ctx f u) g w w2
  application_stops_formed items f u dom ran x g w w1 w2 h s high e =
      stops_then items (function_reading Δ read ctx f) _ (dom, ran) g w w1 w2 h
      (stops_then items (argument_reading Δ compare (count ctx) (read ctx) Arg (Appl, 2) dom u) _ tt g w1 w2 w2 s (formed_stops items (put ran (Nil ▸ u)) false x g w2 high e))

  pub application_given : (f u dom ran : Tree) (w w1 w2 : Account) → Comes (function_reading Δ read ctx f) (Gives (dom, ran)) w w1
      → Comes (argument_reading Δ compare (count ctx) (read ctx) Arg (Appl, 2) dom u) (Gives tt) w1 w2 → IsSmall (One (put ran (Nil ▸ u)))
      → Comes (application_reading Δ compare read ctx f u) (Gives (found (put ran (Nil ▸ u)) false)) w w2
  application_given f u dom ran w w1 w2 h s small =
      comes_then (function_reading Δ read ctx f) _ (dom, ran) (Gives (found (put ran (Nil ▸ u)) false)) w w1 w2 h
      (comes_then (argument_reading Δ compare (count ctx) (read ctx) Arg (Appl, 2) dom u) _ tt (Gives (found (put ran (Nil ▸ u)) false)) w1 w2 w2 s (type_formed (put ran (Nil ▸ u)) false w2 small))

  pub instance_stops : (items : List Item) (o : Option Entry) (e : Entry) (us : Trees) (g : InferFault) (w w' : Account) → o ≡ Some e
      → Stops items (arguments Δ compare (count ctx) (read ctx) (instance_rule e.body) e.params us) g w w' → Stops items (instance_reading Δ compare read ctx o us) g w w'
  instance_stops items o e us g w w' is h =
      let P : Option Entry → Type 0 = λ x. Stops items (instance_reading Δ compare read ctx x us) g w w' in
      subst P (sym is) (stops_first items (arguments Δ compare (count ctx) (read ctx) (instance_rule e.body) e.params us) _ g w w' h)

  pub instance_stops_formed : (items : List Item) (o : Option Entry) (e : Entry) (us : Trees) (x : TermFault) (g : InferFault) (w w' : Account) → o ≡ Some e
      → Comes (arguments Δ compare (count ctx) (read ctx) (instance_rule e.body) e.params us) (Gives tt) w w'
      → (x ≡ term.High → ¬ IsSmall (One (put e.type us))) → g ≡ fault.Stop (stop_of x) → Stops items (instance_reading Δ compare read ctx o us) g w w'
  instance_stops_formed items o e us x g w w' is h high by =
      let P : Option Entry → Type 0 = λ x. Stops items (instance_reading Δ compare read ctx x us) g w w' in
      subst P (sym is)
      (stops_then items (arguments Δ compare (count ctx) (read ctx) (instance_rule e.body) e.params us) _ tt g w w' w' h (formed_stops items (put e.type us) false x g w' high by))

  pub instance_given : (o : Option Entry) (e : Entry) (us : Trees) (w w' : Account) → o ≡ Some e
      → Comes (arguments Δ compare (count ctx) (read ctx) (instance_rule e.body) e.params us) (Gives tt) w w' → IsSmall (One (put e.type us))
      → Comes (instance_reading Δ compare read ctx o us) (Gives (found (put e.type us) false)) w w'
  instance_given o e us w w' is h small =
      let P : Option Entry → Type 0 = λ x. Comes (instance_reading Δ compare read ctx x us) (Gives (found (put e.type us) false)) w w' in
      subst P (sym is)
      (comes_then (arguments Δ compare (count ctx) (read ctx) (instance_rule e.body) e.params us) _ tt (Gives (found (put e.type us) false)) w w' w' h (type_formed (put e.type us) false w' small))
