-- The loop of a head form, call by call, over the entries at its start; and the form of a function part.
use Rattle.std.proofs.Common.{◌≡◌, ◌≤◌, ◌+◌, ◌-◌, max, ℕ, List, Option, Some, None, Result, Ok, Err, refl, ap, sym, ◌∙◌, subst, arith}
use Rattle.ld_terms.specs.Tree.{Tree, App}
use Rattle.ld_terms.specs.Entry.{Env}
use Rattle.ld_terms.specs.Item.{Item, tree, height}
use Rattle.ld_terms.specs.Bank.{tree_at, IsTermAt}
use Rattle.ld_terms.specs.Known.{Known}
use Rattle.ld_terms.specs.declared.bank.TermId.{TermId}
use Rattle.ld_env.specs.Named.{Named}
use Rattle.ld_record.specs.declared.record.EqId.{EqId}
use Rattle.ld_record.specs.declared.record.Kept.{Kept}
use Rattle.ld_record.specs.Kept.{known_of}
use Rattle.ld_reduce.specs.Heads.{Runs}
use Rattle.ld_reduce.specs.Work.{Work}
use Rattle.ld_reduce.specs.Cost.{Answers, Goes}
use Rattle.ld_reduce.specs.Steps.{Joins, Applies, bound_so_far, bound_after}
use Rattle.ld_reduce.specs.Forms.{next_of, bound_of, Fits, Walks, IsDone, IsPartDone, Leads, StopsIn, LeadsTo, LeadsTop}
use Rattle.ld_reduce.specs.declared.stop.Stop.{Stop}
use Rattle.ld_reduce.proofs.Going.{stands_later, term_of}
use Rattle.ld_reduce.proofs.Forming.{Going, turn, stops_after, stops_under, stops_whole, part_leads, leads_here, top_here, joins_later, so_far_later}

-- an answer that is told by the stop
leads_stop : (Done : (Tree → Option Tree) → Tree → Type 0) (next : Tree → Option Tree) (room bound : ℕ) (from : Tree) (items : List Item) (known : Known) (old new : Work) (s : Stop)
    (result : Result (TermId × Option EqId) Stop) → Err s ≡ result → StopsIn next room from s old new → LeadsTo Done next room bound from items known old new result
leads_stop Done next room bound from items known old new s result e h =
    let P : Result (TermId × Option EqId) Stop → Type 0 = λ x. LeadsTo Done next room bound from items known old new x in
    subst P e h

pub answers_stop : (next : Tree → Option Tree) (from : Tree) (bound : ℕ) (items : List Item) (known : Known) (old new : Work) (s : Stop) (result : Result (TermId × EqId) Stop) → Err s ≡ result
    → StopsIn next 500 from s old new → Answers (Runs next from) from bound items known old new result
answers_stop next from bound items known old new s result e h =
    let P : Result (TermId × EqId) Stop → Type 0 = λ x. Answers (Runs next from) from bound items known old new x in
    subst P e (stops_whole next from old new s h)

-- what is led to stays as more is known
leads_later : (next : Tree → Option Tree) (room bound : ℕ) (from : Tree) (a b : List Item) (j k : List Kept) (old new after : Work) (to : TermId) (e : Option EqId) → Goes a b j k → after ≡ new
    → Leads next room bound from a (known_of a j) old new to e → Leads next room bound from b (known_of b k) old after to e
leads_later next room bound from a b j k old new after to e goes same h =
    let is : tree_at a to ≡ tree_at b to = sym (ap tree (goes.extends.kept to h.term.live)) in
    let W : Tree → Type 0 = λ x. Walks next room from x h.steps in
    let J : Tree → Type 0 = λ x. Joins (known_of b k) e from x (bound_so_far (known_of b k) e) in
    record {
      steps = h.steps;
      walks = subst W is h.walks;
      takes = record {
        left = let x = h.takes.left in let y = ap (λ (w : Work). w.left) same in omega arith;
        spent = let x = h.takes.spent in let y = ap (λ (w : Work). w.spent) same in omega arith;
      };
      term = term_of b to (tree_at a to) (stands_later a b to goes.extends h.term);
      fits = subst (Fits room) is h.fits;
      joins = subst J is (joins_later (known_of a j) (known_of b k) e from (tree_at a to) goes.adds h.joins);
      most = let x = h.most in let y = so_far_later (known_of a j) (known_of b k) e from (tree_at a to) goes.adds h.joins in omega arith;
    }

module _ (o : Option (List Named)) (room : ℕ) (a b : List Item) (j k : List Kept) (t to : TermId) (equal : Option EqId) (old budget : Work)
    (going : Going (next_of o (known_of a j).env) room (bound_of o (known_of a j).env) (tree_at a t) a b j k to equal old budget) where
  -- a call that stops
  pub part_stopped : (d : List Item) (known : Known) (after : Work) (s : Stop) (result : Result (TermId × Option EqId) Stop) → Err s ≡ result
      → LeadsTo IsPartDone (next_of o (known_of b k).env) room (bound_of o (known_of b k).env) (tree_at b to) d known budget after (Err s)
      → LeadsTo IsDone (next_of o (known_of a j).env) room (bound_of o (known_of a j).env) (tree_at a t) d known old after result
  part_stopped d known after s result e h =
      leads_stop IsDone (next_of o (known_of a j).env) room (bound_of o (known_of a j).env) (tree_at a t) d known old after s result e
      (stops_after (next_of o (known_of a j).env) room (tree_at a t) (tree_at b to) going.leads.steps old budget after s going.leads.walks going.leads.takes
      (leads_here IsPartDone o (known_of a j).env (known_of b k).env room (tree_at b to) d known budget after (Err s) going.goes.adds.env h))

  pub top_stopped : (d : List Item) (known : Known) (after : Work) (s : Stop) (result : Result (TermId × Option EqId) Stop) → Err s ≡ result
      → LeadsTop (next_of o (known_of b k).env) room (bound_of o (known_of b k).env) (tree_at b to) d known budget after (Err s)
      → LeadsTo IsDone (next_of o (known_of a j).env) room (bound_of o (known_of a j).env) (tree_at a t) d known old after result
  top_stopped d known after s result e h =
      leads_stop IsDone (next_of o (known_of a j).env) room (bound_of o (known_of a j).env) (tree_at a t) d known old after s result e
      (stops_after (next_of o (known_of a j).env) room (tree_at a t) (tree_at b to) going.leads.steps old budget after s going.leads.walks going.leads.takes
      (top_here o (known_of a j).env (known_of b k).env room (tree_at b to) d known budget after (Err s) going.goes.adds.env h))

  -- no step can be made
  pub done : (d : List Item) (l : List Kept) (after : Work) (r : Option (TermId × EqId)) → Goes b d k l → ((p : TermId × EqId) → r ≡ Some p → ⊥)
      → LeadsTop (next_of o (known_of b k).env) room (bound_of o (known_of b k).env) (tree_at b to) d (known_of d l) budget after (Ok r)
      → LeadsTo IsDone (next_of o (known_of a j).env) room (bound_of o (known_of a j).env) (tree_at a t) d (known_of d l) old after (Ok (to, equal))
  done d l after None goes other h =
      let now = top_here o (known_of a j).env (known_of b k).env room (tree_at b to) d (known_of d l) budget after (Ok None) going.goes.adds.env h in
      let is : tree_at b to ≡ tree_at d to = sym (ap tree (goes.extends.kept to going.leads.term.live)) in
      let P : Tree → Type 0 = λ x. next_of o (known_of a j).env x ≡ None in
      (leads_later (next_of o (known_of a j).env) room (bound_of o (known_of a j).env) (tree_at a t) b d k l old budget after to equal goes now.1 going.leads, subst P is now.0)
  done d l after (Some p) goes other h = absurd (other p refl)

  -- the call leads on, and both equalities are joined
  module _ (term : IsTermAt a t) (d : List Item) (l m : List Kept) (after : Work) (e : Option EqId) (goes : Goes b d k l) (joined : Goes d d l m) where
    pub part_going : (q : TermId × Option EqId) → LeadsTo IsPartDone (next_of o (known_of b k).env) room (bound_of o (known_of b k).env) (tree_at b to) d (known_of d l) budget after (Ok q)
        → Joins (known_of d m) e (tree_at d t) (tree_at d q.0) (bound_after (known_of d l) equal q.1)
        → Going (next_of o (known_of a j).env) room (bound_of o (known_of a j).env) (tree_at a t) a d j m q.0 e old after
    part_going q h =
        let now = leads_here IsPartDone o (known_of a j).env (known_of b k).env room (tree_at b to) d (known_of d l) budget after (Ok q) going.goes.adds.env h in
        turn (next_of o (known_of a j).env) room (bound_of o (known_of a j).env) a b d j k l t to q.0 equal q.1 old budget after going term goes now.0 m e joined

    pub top_going : (r : Option (TermId × EqId)) (q : TermId × EqId) → r ≡ Some q
        → LeadsTop (next_of o (known_of b k).env) room (bound_of o (known_of b k).env) (tree_at b to) d (known_of d l) budget after (Ok r)
        → Joins (known_of d m) e (tree_at d t) (tree_at d q.0) (bound_after (known_of d l) equal (Some q.1))
        → Going (next_of o (known_of a j).env) room (bound_of o (known_of a j).env) (tree_at a t) a d j m q.0 e old after
    top_going r q is h =
        let P : Option (TermId × EqId) → Type 0 = λ x. LeadsTop (next_of o (known_of b k).env) room (bound_of o (known_of b k).env) (tree_at b to) d (known_of d l) budget after (Ok x) in
        let now = top_here o (known_of a j).env (known_of b k).env room (tree_at b to) d (known_of d l) budget after (Ok (Some q)) going.goes.adds.env (subst P is h) in
        turn (next_of o (known_of a j).env) room (bound_of o (known_of a j).env) a b d j k l t to q.0 equal (Some q.1) old budget after going term goes now.leads m e joined

-- the form of the function part, under its argument
room_less : (room : ℕ) (f u : Tree) → Fits room (App f u) → room - 1 + 1 ≡ room
room_less room f u h = less (height f) (height u) h.height
  where
    less : (x y : ℕ) → max x y + 1 ≤ room → room - 1 + 1 ≡ room
    less x y e = grind arith

module _ (o : Option (List Named)) (env : Env) (room bound : ℕ) (t f u : Tree) (is : t ≡ App f u) (whole : Fits room t) (old new : Work) where
  whole_is : Fits room (App f u)
  whole_is = subst (Fits room) is whole

  pub under_stopped : (d items : List Item) (known now : Known) (s : Stop) (result : Result (TermId × Option EqId) Stop) → Err s ≡ result
      → LeadsTo IsDone (next_of o env) (room - 1) bound f d known old new (Err s) → LeadsTo IsPartDone (next_of o env) room bound t items now old new result
  under_stopped d items known now s result e h =
      let P : Tree → Type 0 = λ x. StopsIn (next_of o env) room x s old new in
      leads_stop IsPartDone (next_of o env) room bound t items now old new s result e
      (subst P (sym is) (stops_under (room - 1) room (room_less room f u whole_is) o env f u old new s whole_is h))

  pub under_made : (most : room ≤ 500) (d items : List Item) (known now : Known) (q : TermId × Option EqId) (t' u' : Tree) (result : Result (TermId × Option EqId) Stop) → t' ≡ t → u' ≡ u
      → LeadsTo IsDone (next_of o env) (room - 1) bound f d known old new (Ok q) → Applies t' (App (tree_at d q.0) u') (bound_so_far known q.1) items now result
      → LeadsTo IsPartDone (next_of o env) room bound t items now old new result
  under_made most d items known now q t' u' result same_t same_u h applies =
      let P : Tree → Type 0 = λ x. Applies x (App (tree_at d q.0) u') (bound_so_far known q.1) items now result in
      let Q : Tree → Type 0 = λ x. Applies (App f u) (App (tree_at d q.0) x) (bound_so_far known q.1) items now result in
      let R : Tree → Type 0 = λ x. LeadsTo IsPartDone (next_of o env) room bound x items now old new result in
      subst R (sym is)
      (part_leads (room - 1) room (room_less room f u whole_is) most o env bound f u old new whole_is d known q.0 q.1 h.0 h.1 items now result
      (subst Q same_u (subst P (same_t ∙ is) applies)))
