-- What is answered for a line, from what is read of its stated type and its body.
use Rattle.std.proofs.Common.{◌≡◌, Bool, true, false, List, ap, sym, ◌∙◌, refl, subst}
use Rattle.std.proofs.lemmas.Bool.{false≢true}
use Rattle.ld_terms.specs.Tree.{Tree, Star, Box, Var, App, Lam, Pi, Const, Trees}
use Rattle.ld_terms.specs.Tests.{equals, is_box}
use Rattle.ld_terms.proofs.TreeTests.{equal_trees, other_trees, no_box}
use Rattle.ld_terms.specs.Entry.{Env}
use Rattle.ld_terms.specs.Item.{Item, One, Many, IsOne, tree}
use Rattle.ld_terms.specs.Bank.{tree_at, item_at, IsTermAt}
use Rattle.ld_terms.specs.declared.bank.TermId.{TermId}
use Rattle.ld_infer.specs.declared.failure.RuleName.TheVariants.{Def}
use Rattle.ld_infer.specs.declared.failure.Why.TheVariants as why
use Rattle.ld_infer.specs.Infers.{StopsBy, refusal_of}
use Rattle.ld_reduce.specs.declared.stop.Stop.{Stop}
use Rattle.ld_reduce.specs.Task.{Task, Answer, Gives, Fails, gives, fails, ◌>>◌}
use Rattle.ld_convert.specs.Apart.{apart}
use Rattle.ld_infer.specs.Account.{Account, Comes}
use Rattle.ld_infer.specs.Reading.{Refusal, found}
use Rattle.ld_reduce.proofs.Tasks.{gives_answers, fails_answers}
use Rattle.ld_infer.proofs.Accounts.{comes_at_once, comes_then}
use Rattle.ld_defrules.specs.declared.ItemFault.{ItemFault}
use Rattle.ld_defrules.specs.declared.ItemFault.TheVariants as fault
use Rattle.ld_defrules.specs.Judged.{other_type, type_judged, body_judged, same_as_stated, has_type, box_or_not, has_box, line_judging, line_judged, ItemStops, IsOtherType}
use Rattle.ld_defrules.proofs.Faults.{item_stops_first, item_stops_then}

-- nothing is left to be asked
given : (old : Account) → Comes {E = Refusal} (gives (tt {0})) (Gives (tt {0})) old old
given old = comes_at_once (gives (tt {0})) (Gives (tt {0})) old (gives_answers (tt {0}) old.known)

-- a type that is judged, and nothing more
pub asked : {X : Type 0} (p : Task Refusal X) (x : X) (before after : Account) → Comes p (Gives x) before after → Comes (p >> gives (tt {0})) (Gives (tt {0})) before after
asked p x before after h = comes_then p (λ _. gives tt) x (Gives tt) before after after h (given after)

module _ (env : Env) (ctx : Trees) (body stated : Tree) where
  -- a line whose stated type is not box is judged by both
  line_comes : (r : Answer Refusal (Unit {0})) (before after : Account) → is_box stated ≡ false → Comes (line_judging env ctx false body stated) r before after → Comes (line_judged env ctx body stated) r before after
  line_comes r before after not_box h = let P : Bool → Type 0 = λ b. Comes (line_judging env ctx b body stated) r before after in subst P (sym not_box) h

  line_stops : (items : List Item) (f : ItemFault) (before after : Account) → is_box stated ≡ false → ItemStops items (line_judging env ctx false body stated) f before after
      → ItemStops items (line_judged env ctx body stated) f before after
  line_stops items f before after not_box h = let P : Bool → Type 0 = λ b. ItemStops items (line_judging env ctx b body stated) f before after in subst P (sym not_box) h

  -- the stated type is faulty
  pub type_stops : (items : List Item) (f : ItemFault) (before after : Account) → is_box stated ≡ false → ItemStops items (type_judged env ctx Def stated) f before after
      → ItemStops items (line_judged env ctx body stated) f before after
  type_stops items f before after not_box h = line_stops items f before after not_box (item_stops_first items (type_judged env ctx Def stated) (λ _. has_type env ctx body stated) f before after h)

  -- the body is faulty
  pub body_stops : (items : List Item) (sort : Tree) (f : ItemFault) (before between after : Account) → is_box stated ≡ false
      → Comes (type_judged env ctx Def stated) (Gives sort) before between → ItemStops items (body_judged env ctx body) f between after → ItemStops items (line_judged env ctx body stated) f before after
  body_stops items sort f before between after not_box sorted h =
      line_stops items f before after not_box
      (item_stops_then items (type_judged env ctx Def stated) (λ _. has_type env ctx body stated) sort f before between after sorted
      (item_stops_first items (body_judged env ctx body) (λ r. same_as_stated env ctx (equals r.type stated) r.type stated) f between after h))

  -- both are read, and the types are compared
  module _ (type sort : Tree) (comes : Bool) (before between after : Account) (not_box : is_box stated ≡ false)
      (sorted : Comes (type_judged env ctx Def stated) (Gives sort) before between) (typed : Comes (body_judged env ctx body) (Gives (found type comes)) between after) where
    both_read : (r : Answer Refusal (Unit {0})) (last : Account) → Comes (same_as_stated env ctx (equals type stated) type stated) r after last → Comes (line_judged env ctx body stated) r before last
    both_read r last h =
        line_comes r before last not_box
        (comes_then (type_judged env ctx Def stated) (λ _. has_type env ctx body stated) sort r before between last sorted
        (comes_then (body_judged env ctx body) (λ r. same_as_stated env ctx (equals r.type stated) r.type stated) (found type comes) r between after last typed h))

    pub line_accepted : type ≡ stated → Comes (line_judged env ctx body stated) (Gives tt) before after
    line_accepted same =
        let P : Bool → Type 0 = λ b. Comes (same_as_stated env ctx b type stated) (Gives tt) after after in
        both_read (Gives tt) after (subst P (sym (equal_trees type stated same)) (given after))

    -- the type found isn't the one stated, and is compared with it
    pub line_same : (last : Account) → (type ≡ stated → ⊥) → Comes (same_as_stated env ctx false type stated) (Gives tt) after last → Comes (line_judged env ctx body stated) (Gives tt) before last
    line_same last other h =
        let P : Bool → Type 0 = λ b. Comes (same_as_stated env ctx b type stated) (Gives tt) after last in
        both_read (Gives tt) last (subst P (sym (other_trees type stated other)) h)

    pub line_faulted : (items : List Item) (f : ItemFault) (last : Account) → (type ≡ stated → ⊥) → ItemStops items (same_as_stated env ctx false type stated) f after last
        → ItemStops items (line_judged env ctx body stated) f before last
    line_faulted items f last other h =
        let P : Bool → Type 0 = λ b. ItemStops items (same_as_stated env ctx b type stated) f after last in
        line_stops items f before last not_box
        (item_stops_then items (type_judged env ctx Def stated) (λ _. has_type env ctx body stated) sort f before between last sorted
        (item_stops_then items (body_judged env ctx body) (λ r. same_as_stated env ctx (equals r.type stated) r.type stated) (found type comes) f between after last typed
        (subst P (sym (other_trees type stated other)) h)))

-- lines whose stated type is the word box
module _ (env : Env) (ctx : Trees) (body : Tree) where
  pub box_stops : (items : List Item) (f : ItemFault) (before after : Account) → ItemStops items (body_judged env ctx body) f before after → ItemStops items (has_box env ctx body) f before after
  box_stops items f before after h = item_stops_first items (body_judged env ctx body) (λ r. box_or_not env ctx (is_box r.type) r.type) f before after h

  pub box_accepted : (type : Tree) (comes : Bool) (before after : Account) → is_box type ≡ true → Comes (body_judged env ctx body) (Gives (found type comes)) before after → Comes (has_box env ctx body) (Gives tt) before after
  box_accepted type comes before after box typed =
      let P : Bool → Type 0 = λ b. Comes (box_or_not env ctx b type) (Gives tt) after after in
      comes_then (body_judged env ctx body) (λ r. box_or_not env ctx (is_box r.type) r.type) (found type comes) (Gives tt) before after after typed (subst P (sym box) (given after))

  box_fails : (type : Tree) (comes : Bool) (before after : Account) → (type ≡ Box → ⊥) → Comes (body_judged env ctx body) (Gives (found type comes)) before after
      → Comes (has_box env ctx body) (Fails (other_type ctx type Box (apart type Box 0))) before after
  box_fails type comes before after other typed =
      let fault = other_type ctx type Box (apart type Box 0) in
      let P : Bool → Type 0 = λ b. Comes (box_or_not env ctx b type) (Fails fault) after after in
      comes_then (body_judged env ctx body) (λ r. box_or_not env ctx (is_box r.type) r.type) (found type comes) (Fails fault) before after after typed
      (subst P (sym (no_box type other)) (comes_at_once (fails fault) (Fails fault) after (fails_answers fault after.known)))

  -- a type other than box is refused
  pub box_refused : (items : List Item) (type stated : TermId) (comes : Bool) (f : ItemFault) (before after : Account) → tree_at items stated ≡ Box → (tree_at items type ≡ Box → ⊥)
      → Comes (body_judged env ctx body) (Gives (found (tree_at items type) comes)) before after → IsOtherType items ctx (why.NotSame type stated type stated 0) f → ItemStops items (has_box env ctx body) f before after
  box_refused items type stated comes (fault.Refused r) before after box other typed is =
      let t = tree_at items type in
      let P : Tree → Type 0 = λ w. refusal_of items r ≡ other_type ctx t w (apart t w 0) in
      let Q : Refusal → Type 0 = λ x. Comes (has_box env ctx body) (Fails x) before after in
      subst Q (sym (subst P box is)) (box_fails t comes before after other typed)
  box_refused items type stated comes (fault.Stop s) before after box other typed is =
      let P : Stop → Type 0 = λ x. StopsBy (has_box env ctx body) x before after in
      subst P (sym is) tt
  box_refused items type stated comes fault.NameTaken before after box other typed is = absurd is

-- only box is box
pub box_only : (t : Tree) → is_box t ≡ true → t ≡ Box
box_only Star e = absurd (false≢true e)
box_only Box e = refl
box_only (Var i) e = absurd (false≢true e)
box_only (App f u) e = absurd (false≢true e)
box_only (Lam a m) e = absurd (false≢true e)
box_only (Pi a b) e = absurd (false≢true e)
box_only (Const k us) e = absurd (false≢true e)

-- equal trees are equal items of the bank
one_of : (x : Item) → IsOne x → x ≡ One (tree x)
one_of (One t) h = refl
one_of (Many us) h = absurd h

pub same_items : (items : List Item) (a b : TermId) → IsTermAt items a → IsTermAt items b → tree_at items a ≡ tree_at items b → item_at items a ≡ item_at items b
same_items items a b at_a at_b e = one_of (item_at items a) at_a.form ∙ ap One e ∙ sym (one_of (item_at items b) at_b.form)
