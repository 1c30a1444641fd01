-- The terms of the items of a small term are small as they are read.
use Rattle.std.proofs.Common.{◌≤◌, ℕ, List, [], ◌∷◌, length, subst, sym}
use Rattle.std.proofs.lemmas.List.Elements.{All-cons, All-head, All-nil, All-tail}
use Rattle.std.specs.Prelude.{All}
use Rattle.ld_terms.specs.Entry.{Env}
use Rattle.ld_laws.proofs.LegalContexts.{legal_of}
use Rattle.ld_reduce.specs.Task.{Pairs}
use Rattle.fb_steps.specs.Items.{Item, Flag, Line}
use Rattle.fb_steps.specs.Work.{Ending}
use Rattle.fb_steps.specs.Places.{OpenFlag, Place, context_of}
use Rattle.fb_steps.specs.Unfolded.{AreUnfolded, IsUnfolded}
use Rattle.fb_steps.specs.Small.{AreSmall, IsSmallItem, ItemsSmall}
use Rattle.fb_steps.proofs.Spelling.{derived_spelled}
use Rattle.fb_steps.proofs.Working.{Worked}
use Rattle.fb_steps.proofs.Walk.{steps_work}
use Rattle.fb_steps.proofs.Entries.{entry_work}
use Rattle.fb_steps.proofs.SmallParts.{HasSmallParts, entry_small, steps_small}
use Rattle.fb_steps.proofs.Printed.{begins}

one_small : (first : ℕ) (env : Env) (i : Item) → IsUnfolded first env i → HasSmallParts i → IsSmallItem first env i
one_small first env (Flag depth type) h s = s
one_small first env (Line depth number body type part) h s = record {
  before = h.is.before;
  number_is = h.is.number_is;
  entry = h.is.entry;
  at = h.is.at;
  body = h.is.body;
  has_body = h.is.has_body;
  body_small = h.is.small s.1 (subst (λ d. d ≤ 64) (sym h.depth_is) s.2);
  type_small = s.0;
}

each_small : (first : ℕ) (env : Env) (items : List Item) → AreUnfolded first env items → All HasSmallParts items → All (IsSmallItem first env) items
each_small first env [] h s = All-nil (IsSmallItem first env)
each_small first env (i ∷ is) h s =
    All-cons (IsSmallItem first env) i is (one_small first env i (All-head (IsUnfolded first env) i is h) (All-head HasSmallParts i is s))
    (each_small first env is (All-tail (IsUnfolded first env) i is h) (All-tail HasSmallParts i is s))

are_small : {Δ : Env} {name : ℕ → List ℕ} {fs : List OpenFlag} {p : Place} {items : List Item} {L : Pairs} {i : ℕ} {r : Ending ℕ} {G : ℕ → Place → ℕ → Type 0} →
    Worked Δ name fs G p r items L i → All HasSmallParts items → AreSmall (length Δ) name p items
are_small {Δ} {items = items} u s = record {
  after = u.after;
  spells = derived_spelled u.derives;
  each = each_small (length Δ) u.after.env items (u.unfolded u.after.env (λ k e at. at)) s;
}

pub items_small : ItemsSmall
items_small = record {
  of_term = λ Δ name fs t type p K L left n lines r items ready d le small type_small h.
      are_small (steps_work Δ name ready.names.differ t type fs p 0 (begins ready (legal_of d)) d K left r items L n lines h ready.known)
      (steps_small Δ (context_of fs) t type le small type_small K L left 0 n lines r items h).items_are;
  of_entry = λ Δ name k e p K L left n lines r items ready legal at le params small type_small h.
      are_small (entry_work Δ name ready.names.differ k e p 0 legal at (begins ready legal) K left r items L n lines h ready.known)
      (entry_small Δ k e le params small type_small K L left 0 n lines r items h).items_are;
}
