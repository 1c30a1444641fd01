-- How a head form is reached: what one call leads to and then another, and what is answered of the whole.
use Rattle.std.proofs.Common.{◌≡◌, ◌≤◌, ◌+◌, ℕ, List, Option, Some, None, Result, Ok, Err, refl, ap, sym, ◌∙◌, subst, arith}
use Rattle.ld_terms.specs.Tree.{Tree, App}
use Rattle.ld_terms.specs.Entry.{Env}
use Rattle.ld_terms.specs.Item.{Item, One, IsSmall, tree}
use Rattle.ld_terms.specs.Bank.{tree_at, IsTermAt}
use Rattle.ld_terms.specs.Known.{Known, Equality}
use Rattle.ld_terms.specs.Named.{IsNamed}
use Rattle.ld_terms.specs.declared.bank.TermId.{TermId}
use Rattle.ld_terms.proofs.Banks.{extends_refl}
use Rattle.ld_env.specs.Named.{Named}
use Rattle.ld_env.proofs.CallerLemmas.{env_of-later, live-later}
use Rattle.ld_record.specs.declared.record.EqId.{EqId}
use Rattle.ld_record.specs.declared.record.Kept.{Kept}
use Rattle.ld_record.specs.Kept.{known_of, IsSound}
use Rattle.ld_record.specs.Growth.{Adds}
use Rattle.ld_reduce.specs.Heads.{At, Runs, over, too_high}
use Rattle.ld_reduce.specs.Work.{Work, Takes}
use Rattle.ld_reduce.specs.Cost.{Stops, Equates, Answers, Goes}
use Rattle.ld_reduce.specs.Steps.{Joins, IsFollowed, Applies, bound_so_far, bound_after}
use Rattle.ld_reduce.specs.Forms.{HasEntries, next_of, bound_of, Fits, Walks, none, IsDone, IsPartDone, Leads, StopsIn, LeadsTo, LeadsTop}
use Rattle.ld_reduce.specs.declared.stop.Stop.{Stop}
use Rattle.ld_reduce.specs.declared.stop.Stop.TheVariants as stop
use Rattle.ld_reduce.proofs.Walks.{fits_small, small_fits, runs_after, wants_more, walks_after, next_applied, fits_part, fits_with, walks_under}
use Rattle.ld_reduce.proofs.Going.{goes_terms, goes_trans, equates_later, right_named, term_of}

-- a tree that is left as it is
pub stays : (next : Tree → Option Tree) (room bound : ℕ) (items : List Item) (known : Known) (t : TermId) (budget : Work) → IsTermAt items t → Fits room (tree_at items t)
    → Leads next room bound (tree_at items t) items known budget budget t None
stays next room bound items known t budget term fits = record {
  steps = 0;
  walks = none;
  takes = record { left = omega arith; spent = omega arith };
  term = term;
  fits = fits;
  joins = refl;
  most = omega arith;
}

-- what is equal so far stays as more is known
pub joins_later : (old new : Known) (o : Option EqId) (from to : Tree) → Adds old new → Joins old o from to (bound_so_far old o) → Joins new o from to (bound_so_far new o)
joins_later old new None from to adds h = h
joins_later old new (Some e) from to adds h = record { sides = (equates_later old new e from to _ adds h).sides; most = omega arith }

pub so_far_later : (old new : Known) (o : Option EqId) (from to : Tree) → Adds old new → Joins old o from to (bound_so_far old o) → bound_so_far new o ≡ bound_so_far old o
so_far_later old new None from to adds h = refl
so_far_later old new (Some e) from to adds h = ap (λ (x : Equality). x.bound) (adds.equality e.0 h.sides.live)

-- an equality by its own bound, and a lower one by a higher
own_bound : (known : Known) (o : Option EqId) (from to : Tree) (n : ℕ) → Joins known o from to n → Joins known o from to (bound_so_far known o)
own_bound known None from to n h = h
own_bound known (Some e) from to n h = record { sides = h.sides; most = omega arith }

below_bound : (known : Known) (o : Option EqId) (from to : Tree) (n : ℕ) → Joins known o from to n → bound_so_far known o ≤ n
below_bound known None from to n h = omega arith
below_bound known (Some e) from to n h = h.most

-- what is equal to a tree that is named is named
joined_named : (items : List Item) (kept : List Kept) (o : Option EqId) (from to : Tree) (n : ℕ) → IsSound items kept → IsNamed (known_of items kept).env from
    → Joins (known_of items kept) o from to n → IsNamed (known_of items kept).env to
joined_named items kept None from to n sound named h = subst (IsNamed (known_of items kept).env) h named
joined_named items kept (Some e) from to n sound named h = right_named items kept e from to n sound h

-- What is reached so far from a call's term. The entries are those at its start.
pub record Going (next : Tree → Option Tree) (room bound : ℕ) (from : Tree) (items now : List Item) (start kept : List Kept) (to : TermId) (equal : Option EqId) (old budget : Work) : Type 0 where
  pub goes : Goes items now start kept
  pub named : IsNamed (known_of now kept).env (tree_at now to)
  pub leads : Leads next room bound from now (known_of now kept) old budget to equal

pub begin : (next : Tree → Option Tree) (room bound : ℕ) (items : List Item) (kept : List Kept) (t : TermId) (budget : Work) → IsSound items kept → IsTermAt items t
    → IsNamed (known_of items kept).env (tree_at items t) → Fits room (tree_at items t) → Going next room bound (tree_at items t) items items kept kept t None budget budget
begin next room bound items kept t budget sound term named fits = record {
  goes = goes_terms items items kept (extends_refl items) sound;
  named = named;
  leads = stays next room bound items (known_of items kept) t budget term fits;
}

module _ (next : Tree → Option Tree) (room bound : ℕ) (a b d : List Item) (j k l : List Kept) (t to u : TermId) (o p : Option EqId) (old budget after : Work)
    (going : Going next room bound (tree_at a t) a b j k to o old budget) (term : IsTermAt a t) (goes : Goes b d k l)
    (leads : Leads next room bound (tree_at b to) d (known_of d l) budget after u p) where
  from_is : tree_at d t ≡ tree_at a t
  from_is = ap tree ((goes_trans a b d j k l going.goes goes).extends.kept t term.live)

  -- what the next call leads to follows what is equal so far
  pub followed : IsFollowed (known_of d l) o p (tree_at d t) (tree_at d u)
  followed = record {
    between = tree_at b to;
    joins =
        let P : Tree → Type 0 = λ x. Joins (known_of d l) o x (tree_at b to) (bound_so_far (known_of d l) o) in
        subst P (sym from_is) (joins_later (known_of b k) (known_of d l) o (tree_at a t) (tree_at b to) goes.adds going.leads.joins);
    then = leads.joins;
  }

  -- both together
  pub turn : (m : List Kept) (e : Option EqId) → Goes d d l m → Joins (known_of d m) e (tree_at d t) (tree_at d u) (bound_after (known_of d l) o p)
      → Going next room bound (tree_at a t) a d j m u e old after
  turn m e joined equal =
      let from_named : IsNamed (known_of d l).env (tree_at b to) = subst (λ x. IsNamed x (tree_at b to)) (sym goes.adds.env) going.named in
      let to_named = joined_named d l p (tree_at b to) (tree_at d u) _ goes.sound from_named leads.joins in
      let P : Tree → Type 0 = λ x. Joins (known_of d m) e x (tree_at d u) (bound_so_far (known_of d m) e) in
      record {
        goes = goes_trans a b d j k m going.goes (goes_trans b d d k l m goes joined);
        named = subst (λ x. IsNamed x (tree_at d u)) (sym joined.adds.env) to_named;
        leads = record {
          steps = going.leads.steps + leads.steps;
          walks = walks_after going.leads.walks leads.walks;
          takes =
              let x = going.leads.takes in
              let y = leads.takes in
              record { left = let v = x.left in let w = y.left in omega arith; spent = let v = x.spent in let w = y.spent in omega arith };
          term = leads.term;
          fits = leads.fits;
          joins = subst P from_is (own_bound (known_of d m) e (tree_at d t) (tree_at d u) _ equal);
          most =
              let x = below_bound (known_of d m) e (tree_at d t) (tree_at d u) _ equal in
              let y = so_far_later (known_of b k) (known_of d l) o (tree_at a t) (tree_at b to) goes.adds going.leads.joins in
              let z = going.leads.most in
              let w = leads.most in
              grind arith;
        };
      }

-- what stops the next call stops the whole
pub stops_after : (next : Tree → Option Tree) (room : ℕ) (from to : Tree) (n : ℕ) (old budget after : Work) (s : Stop) → Walks next room from to n → Takes old budget n
    → StopsIn next room to s budget after → StopsIn next room from s old after
stops_after next room from to n old budget after stop.Spent w takes h = record {
  steps = n + h.steps;
  between = h.between;
  to = h.to;
  walks = walks_after w h.walks;
  is = h.is;
  takes = record {
    left = let x = takes.left in let y = h.takes.left in omega arith;
    spent = let x = takes.spent in let y = h.takes.spent in omega arith;
  };
  left = h.left;
}
stops_after next room from to n old budget after stop.Nested w takes h = h
stops_after next room from to n old budget after stop.High w takes h = record {
  steps = n + h.steps;
  between = h.between;
  to = h.to;
  walks = walks_after w h.walks;
  is = h.is;
  high = h.high;
  takes = record {
    left = let x = takes.left in let y = h.takes.left in omega arith;
    spent = let x = takes.spent in let y = h.takes.spent in omega arith;
  };
}
stops_after next room from to n old budget after stop.Memory w takes h = tt

-- what stops the function part stops the application
pub stops_under : (r room : ℕ) → r + 1 ≡ room → (o : Option (List Named)) (env : Env) (f u : Tree) (old new : Work) (s : Stop) → Fits room (App f u)
    → StopsIn (next_of o env) r f s old new → StopsIn (next_of o env) room (App f u) s old new
stops_under r room one o env f u old new stop.Spent whole h = record {
  steps = h.steps;
  between = App h.between u;
  to = App h.to u;
  walks = walks_under r room one o env f u h.between h.steps whole h.walks;
  is = next_applied o env h.between u h.to h.is;
  takes = h.takes;
  left = h.left;
}
stops_under r room one o env f u old new stop.Nested whole h = h
stops_under r room one o env f u old new stop.High whole h = record {
  steps = h.steps;
  between = App h.between u;
  to = App h.to u;
  walks = walks_under r room one o env f u h.between h.steps whole h.walks;
  is = next_applied o env h.between u h.to h.is;
  high = λ fits. h.high (fits_part r room one h.to u fits);
  takes = h.takes;
}
stops_under r room one o env f u old new stop.Memory whole h = tt

-- the application of the form of the function part
module _ (r room : ℕ) (one : r + 1 ≡ room) (most : room ≤ 500) (o : Option (List Named)) (env : Env) (bound : ℕ) (f u : Tree) (old new : Work) (whole : Fits room (App f u))
    (d : List Item) (known : Known) (g : TermId) (p : Option EqId) (leads : Leads (next_of o env) r bound f d known old new g p) (done : next_of o env (tree_at d g) ≡ None) where
  applied_fits : Fits room (App (tree_at d g) u)
  applied_fits = fits_with r room one f (tree_at d g) u whole leads.fits

  applied_small : IsSmall (One (App (tree_at d g) u))
  applied_small = record { height = omega (arith, applied_fits.height, most); index = applied_fits.index }

  part_done : (t : Tree) → t ≡ App (tree_at d g) u → IsPartDone (next_of o env) t
  part_done t e = record {
    none = λ h v is.
        let same : tree_at d g ≡ h = cc in
        let P : Tree → Type 0 = λ x. next_of o env x ≡ None in
        subst P same done;
  }

  pub part_leads : (items : List Item) (now : Known) (result : Result (TermId × Option EqId) Stop) → Applies (App f u) (App (tree_at d g) u) (bound_so_far known p) items now result
      → LeadsTo IsPartDone (next_of o env) room bound (App f u) items now old new result
  part_leads items now (Ok q) h =
      let is : tree_at items q.0 ≡ App (tree_at d g) u = ap tree h.stands.item in
      let W : Tree → Type 0 = λ x. Walks (next_of o env) room (App f u) x leads.steps in
      let J : Tree → Type 0 = λ x. Joins now q.1 (App f u) x (bound_so_far now q.1) in (
        record {
          steps = leads.steps;
          walks = subst W (sym is) (walks_under r room one o env f u (tree_at d g) leads.steps whole leads.walks);
          takes = leads.takes;
          term = term_of items q.0 (App (tree_at d g) u) h.stands;
          fits = subst (Fits room) (sym is) applied_fits;
          joins = subst J (sym is) h.joins;
          most = omega (arith, h.most, leads.most);
        },
        part_done (tree_at items q.0) is,
      )
  part_leads items now (Err stop.Spent) h = absurd h
  part_leads items now (Err stop.Nested) h = absurd h
  part_leads items now (Err stop.High) h = absurd (h applied_small)
  part_leads items now (Err stop.Memory) h = tt

-- over equal environments
pub leads_here : (Done : (Tree → Option Tree) → Tree → Type 0) (o : Option (List Named)) (env env' : Env) (room : ℕ) (from : Tree) (items : List Item) (known : Known) (old new : Work)
    (result : Result (TermId × Option EqId) Stop) → env' ≡ env → LeadsTo Done (next_of o env') room (bound_of o env') from items known old new result
    → LeadsTo Done (next_of o env) room (bound_of o env) from items known old new result
leads_here Done o env env' room from items known old new result is h =
    let P : Env → Type 0 = λ x. LeadsTo Done (next_of o x) room (bound_of o x) from items known old new result in
    subst P is h

pub top_here : (o : Option (List Named)) (env env' : Env) (room : ℕ) (from : Tree) (items : List Item) (known : Known) (old new : Work)
    (result : Result (Option (TermId × EqId)) Stop) → env' ≡ env → LeadsTop (next_of o env') room (bound_of o env') from items known old new result
    → LeadsTop (next_of o env) room (bound_of o env) from items known old new result
top_here o env env' room from items known old new result is h =
    let P : Env → Type 0 = λ x. LeadsTop (next_of o x) room (bound_of o x) from items known old new result in
    subst P is h

-- the entries stay
pub entries_later : (a b : List Item) (j k : List Kept) (o : Option (List Named)) → Goes a b j k → HasEntries a (known_of a j).env o → HasEntries b (known_of b k).env o
entries_later a b j k None goes h = tt
entries_later a b j k (Some n) goes h = (env_of-later a b n goes.extends h.1 ∙ h.0 ∙ sym goes.adds.env, live-later a b n goes.extends h.1)

-- steps after which none is left are all that were left
takes_rest : (old new : Work) (n : ℕ) → Takes old new n → new.left ≡ 0 → Takes old new old.left
takes_rest old new n h empty = record { left = omega (arith, empty); spent = omega (arith, empty, h.left, h.spent) }

-- What is answered of a whole term, whose room is that of small ones.
pub stops_whole : (next : Tree → Option Tree) (from : Tree) (old new : Work) (s : Stop) → StopsIn next 500 from s old new → Stops (Runs next from) s old new
stops_whole next from old new stop.Spent h = record { none = λ r m run. (let x = wants_more h.walks h.is run in let y = h.takes.left in let z = h.left in omega arith); left = h.left; takes = takes_rest old new h.steps h.takes h.left }
stops_whole next from old new stop.Nested h = h
stops_whole next from old new stop.High h = record {
  steps = h.steps + 1;
  comes = runs_after h.walks (too_high h.to h.is (λ small. h.high (small_fits h.to small)));
  takes = record { left = let x = h.takes.left in omega arith; spent = let x = h.takes.spent in omega arith };
}
stops_whole next from old new stop.Memory h = tt

pub answers_whole : (next : Tree → Option Tree) (bound : ℕ) (a b : List Item) (j k l : List Kept) (t to : TermId) (o : Option EqId) (e : EqId) (old new : Work) → Goes a b j k → IsTermAt a t
    → LeadsTo IsDone next 500 bound (tree_at a t) b (known_of b k) old new (Ok (to, o)) → Equates (known_of b l) e (tree_at b t) (tree_at b to) (bound_so_far (known_of b k) o)
    → Answers (Runs next (tree_at a t)) (tree_at a t) bound b (known_of b l) old new (Ok (to, e))
answers_whole next bound a b j k l t to o e old new goes term h equal =
    let from_is : tree_at b t ≡ tree_at a t = ap tree (goes.extends.kept t term.live) in
    let P : ℕ → Type 0 = λ n. Runs next (tree_at a t) (At (tree_at b to)) n in
    let n : h.0.steps + 0 ≡ h.0.steps = omega arith in (
      record { steps = h.0.steps; comes = subst P n (runs_after h.0.walks (over h.1)); takes = h.0.takes },
      record {
        term = h.0.term;
        small = fits_small (tree_at b to) h.0.fits;
        equal = record {
          sides = record { live = equal.sides.live; left = equal.sides.left ∙ from_is; right = equal.sides.right };
          most = let x = equal.most in let y = h.0.most in omega arith;
        };
      },
    )
