-- The rows for products and abstractions: how the reading ends where a part ends it, and what it gives.
use Rattle.std.proofs.Common.{◌≡◌, suc, Bool, true, false, List, ap, sym, subst}
use Rattle.ld_terms.specs.Tree.{Tree, Trees, Box, Pi, ◌▸◌, count}
use Rattle.ld_terms.specs.Item.{Item, One, IsSmall}
use Rattle.ld_terms.specs.Entry.{Env}
use Rattle.ld_terms.specs.Tests.{is_star, is_box}
use Rattle.ld_terms.specs.declared.bank.TermFault.{TermFault}
use Rattle.ld_terms.specs.declared.bank.TermFault.TheVariants as term
use Rattle.ld_infer.specs.declared.failure.RuleName.TheVariants.{Form, Abst}
use Rattle.ld_infer.specs.declared.failure.PathStep.TheVariants.{Dom, Ran, Body}
use Rattle.ld_infer.specs.declared.failure.InferFault.{InferFault}
use Rattle.ld_infer.specs.declared.failure.InferFault.TheVariants as fault
use Rattle.ld_reduce.specs.Task.{Task, Gives, Fails, Ends}
use Rattle.ld_infer.specs.Account.{Account, Comes}
use Rattle.ld_reduce.specs.Cost.{stop_of}
use Rattle.ld_infer.specs.Infers.{Stops, IsWithin, IsRefusedBy}
use Rattle.ld_infer.proofs.Accounts.{comes_then, comes_ended}
use Rattle.ld_infer.proofs.Stopping.{stops_first, stops_then, stops_within, gives_within, refused_by}
use Rattle.ld_infer.proofs.Sorts.{gives_now, fails_now}
use Rattle.ld_infer.proofs.Formed.{type_formed, formed_stops}
use Rattle.ld_infer.specs.Reading.{Asked, Refusal, refusal, BoxBody, Found, found, within, again_unless, sort_under, product_reading, body_sorted, body_reading, abstraction_reading}

module _ (Δ : Env) (read : Trees → Asked → Tree → Task Refusal Found) (ctx : Trees) where
  pub product_stops_domain : (items : List Item) (a b : Tree) (f : InferFault) (w w' : Account) → Stops items (within Dom (sort_under Δ read ctx ctx (Form, 1) a)) f w w'
      → Stops items (product_reading Δ read ctx a b) f w w'
  product_stops_domain items a b f w w' h = stops_first items (within Dom (sort_under Δ read ctx ctx (Form, 1) a)) _ f w w' h

  pub product_stops_range : (items : List Item) (a b s : Tree) (f g : InferFault) (w w1 w2 : Account) → Comes (within Dom (sort_under Δ read ctx ctx (Form, 1) a)) (Gives s) w w1
      → Stops items (sort_under Δ read ctx (ctx ▸ a) (Form, 2) b) f w1 w2 → IsWithin Ran f g → Stops items (product_reading Δ read ctx a b) g w w2
  product_stops_range items a b s f g w w1 w2 dom h is =
      stops_then items (within Dom (sort_under Δ read ctx ctx (Form, 1) a)) _ s g w w1 w2 dom
      (stops_first items (within Ran (sort_under Δ read ctx (ctx ▸ a) (Form, 2) b)) _ g w1 w2 (stops_within items Ran (sort_under Δ read ctx (ctx ▸ a) (Form, 2) b) f g w1 w2 h is))

  pub product_given : (a b s r : Tree) (comes : Bool) (w w1 w2 : Account) → Comes (within Dom (sort_under Δ read ctx ctx (Form, 1) a)) (Gives s) w w1
      → Comes (sort_under Δ read ctx (ctx ▸ a) (Form, 2) b) (Gives r) w1 w2 → comes ≡ is_star r → Comes (product_reading Δ read ctx a b) (Gives (found r comes)) w w2
  product_given a b s r comes w w1 w2 dom ran e =
      let P : Bool → Type 0 = λ c. Comes (product_reading Δ read ctx a b) (Gives (found r c)) w w2 in
      subst P (sym e) (comes_then (within Dom (sort_under Δ read ctx ctx (Form, 1) a)) _ s (Gives (found r (is_star r))) w w1 w2 dom
      (comes_then (within Ran (sort_under Δ read ctx (ctx ▸ a) (Form, 2) b)) _ r (Gives (found r (is_star r))) w1 w2 w2
      (gives_within Ran (sort_under Δ read ctx (ctx ▸ a) (Form, 2) b) r w1 w2 ran) (gives_now (found r (is_star r)) w2)))

  box_refused : (is : Bool) (a : Tree) (r : Found) (w : Account) → is ≡ true → Comes (body_sorted Δ read ctx is a r) (Fails (refusal (Abst, 2) (count ctx) BoxBody)) w w
  box_refused is a r w e =
      let P : Bool → Type 0 = λ b. Comes (body_sorted Δ read ctx b a r) (Fails (refusal (Abst, 2) (count ctx) BoxBody)) w w in subst P (sym e) (fails_now _ w)

  pub body_stops : (items : List Item) (a m : Tree) (f g : InferFault) (w w' : Account) → Stops items (read (ctx ▸ a) (Abst, 1) m) f w w' → IsWithin Body f g
      → Stops items (body_reading Δ read ctx a m) g w w'
  body_stops items a m f g w w' h is = stops_first items (within Body (read (ctx ▸ a) (Abst, 1) m)) _ g w w' (stops_within items Body (read (ctx ▸ a) (Abst, 1) m) f g w w' h is)

  pub body_box : (items : List Item) (a m type : Tree) (comes : Bool) (g : InferFault) (w w' : Account) → Comes (read (ctx ▸ a) (Abst, 1) m) (Gives (found type comes)) w w'
      → type ≡ Box → IsRefusedBy items (refusal (Abst, 2) (count ctx) BoxBody) g → Stops items (body_reading Δ read ctx a m) g w w'
  body_box items a m type comes g w w' h e is =
      let r = refusal (Abst, 2) (count ctx) BoxBody in
      refused_by items (body_reading Δ read ctx a m) r g w w' is
      (comes_then (within Body (read (ctx ▸ a) (Abst, 1) m)) _ (found type comes) (Fails r) w w' w' (gives_within Body (read (ctx ▸ a) (Abst, 1) m) (found type comes) w w' h)
      (comes_ended (body_sorted Δ read ctx (is_box type) a (found type comes)) _ (Fails r) (Fails r) w' w' (box_refused (is_box type) a (found type comes) w' (ap is_box e)) Ends.fault))

  pub body_sort_stops : (items : List Item) (a m type : Tree) (comes : Bool) (g : InferFault) (w w1 w2 : Account) → Comes (read (ctx ▸ a) (Abst, 1) m) (Gives (found type comes)) w w1
      → is_box type ≡ false → Stops items (again_unless Δ (suc (count ctx)) (read (ctx ▸ a)) comes (Abst, 2) type) g w1 w2 → Stops items (body_reading Δ read ctx a m) g w w2
  body_sort_stops items a m type comes g w w1 w2 h e s =
      let P : Bool → Type 0 = λ b. Stops items (body_sorted Δ read ctx b a (found type comes)) g w1 w2 in
      stops_then items (within Body (read (ctx ▸ a) (Abst, 1) m)) _ (found type comes) g w w1 w2 (gives_within Body (read (ctx ▸ a) (Abst, 1) m) (found type comes) w w1 h)
      (stops_first items (body_sorted Δ read ctx (is_box type) a (found type comes)) _ g w1 w2 (subst P (sym e) s))

  pub body_given : (a m type : Tree) (comes : Bool) (w w1 w2 : Account) → Comes (read (ctx ▸ a) (Abst, 1) m) (Gives (found type comes)) w w1 → is_box type ≡ false
      → Comes (again_unless Δ (suc (count ctx)) (read (ctx ▸ a)) comes (Abst, 2) type) (Gives tt) w1 w2 → Comes (body_reading Δ read ctx a m) (Gives (found type comes)) w w2
  body_given a m type comes w w1 w2 h e s =
      let P : Bool → Type 0 = λ b. Comes (body_sorted Δ read ctx b a (found type comes)) (Gives tt) w1 w2 in
      comes_then (within Body (read (ctx ▸ a) (Abst, 1) m)) _ (found type comes) (Gives (found type comes)) w w1 w2 (gives_within Body (read (ctx ▸ a) (Abst, 1) m) (found type comes) w w1 h)
      (comes_then (body_sorted Δ read ctx (is_box type) a (found type comes)) _ tt (Gives (found type comes)) w1 w2 w2 (subst P (sym e) s) (gives_now (found type comes) w2))

  pub abstraction_stops_domain : (items : List Item) (a m : Tree) (f : InferFault) (w w' : Account) → Stops items (within Dom (sort_under Δ read ctx ctx (Abst, 1) a)) f w w'
      → Stops items (abstraction_reading Δ read ctx a m) f w w'
  abstraction_stops_domain items a m f w w' h = stops_first items (within Dom (sort_under Δ read ctx ctx (Abst, 1) a)) _ f w w' h

  pub abstraction_stops_body : (items : List Item) (a m s : Tree) (f : InferFault) (w w1 w2 : Account) → Comes (within Dom (sort_under Δ read ctx ctx (Abst, 1) a)) (Gives s) w w1
      → Stops items (body_reading Δ read ctx a m) f w1 w2 → Stops items (abstraction_reading Δ read ctx a m) f w w2
  abstraction_stops_body items a m s f w w1 w2 dom h =
      stops_then items (within Dom (sort_under Δ read ctx ctx (Abst, 1) a)) _ s f w w1 w2 dom (stops_first items (body_reading Δ read ctx a m) _ f w1 w2 h)

  pub abstraction_stops_formed : (items : List Item) (a m s type : Tree) (comes : Bool) (f : TermFault) (g : InferFault) (w w1 w2 : Account)
      → Comes (within Dom (sort_under Δ read ctx ctx (Abst, 1) a)) (Gives s) w w1 → Comes (body_reading Δ read ctx a m) (Gives (found type comes)) w1 w2
      → (f ≡ term.High → ¬ IsSmall (One (Pi a type))) → g ≡ fault.Stop (stop_of f) → Stops items (abstraction_reading Δ read ctx a m) g w w2
  abstraction_stops_formed items a m s type comes f g w w1 w2 dom h high e =
      stops_then items (within Dom (sort_under Δ read ctx ctx (Abst, 1) a)) _ s g w w1 w2 dom
      (stops_then items (body_reading Δ read ctx a m) _ (found type comes) g w1 w2 w2 h (formed_stops items (Pi a type) true f g w2 high e))

  pub abstraction_given : (a m s type : Tree) (comes : Bool) (w w1 w2 : Account) → Comes (within Dom (sort_under Δ read ctx ctx (Abst, 1) a)) (Gives s) w w1
      → Comes (body_reading Δ read ctx a m) (Gives (found type comes)) w1 w2 → IsSmall (One (Pi a type)) → Comes (abstraction_reading Δ read ctx a m) (Gives (found (Pi a type) true)) w w2
  abstraction_given a m s type comes w w1 w2 dom h small =
      comes_then (within Dom (sort_under Δ read ctx ctx (Abst, 1) a)) _ s (Gives (found (Pi a type) true)) w w1 w2 dom
      (comes_then (body_reading Δ read ctx a m) _ (found type comes) (Gives (found (Pi a type) true)) w1 w2 w2 h (type_formed (Pi a type) true w2 small))
