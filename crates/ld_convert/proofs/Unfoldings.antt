-- The sides of two trees, unfolded one after the other.
use Rattle.std.proofs.Common.{◌≡◌, ◌<◌, ◌||◌, ℕ, Bool, true, false, Ok, List, length, refl, sym, subst, arith}
use Rattle.ld_terms.specs.Tree.{Tree}
use Rattle.ld_terms.specs.Entry.{Env}
use Rattle.ld_terms.specs.Item.{Item}
use Rattle.ld_terms.specs.Bank.{tree_at, IsTermAt}
use Rattle.ld_terms.specs.declared.bank.TermId.{TermId}
use Rattle.ld_record.specs.declared.record.EqId.{EqId}
use Rattle.ld_record.specs.declared.record.Kept.{Kept}
use Rattle.ld_record.specs.Kept.{known_of}
use Rattle.ld_reduce.specs.Task.{Pairs, Gives, Task, gives}
use Rattle.ld_reduce.specs.Heads.{Reached, At, TooHigh, Way, Unfold, reaches}
use Rattle.ld_reduce.specs.Work.{Work, Takes}
use Rattle.ld_reduce.specs.Cost as cost
use Rattle.ld_reduce.specs.Cost.{Equates, Goes, Stops}
use Rattle.ld_reduce.specs.declared.stop.Stop.{Stop}
use Rattle.ld_reduce.specs.declared.stop.Stop.TheVariants as stop
use Rattle.ld_reduce.proofs.Tasks.{gives_answers}
use Rattle.ld_reduce.proofs.Once.{unfold_once}
use Rattle.ld_reduce.proofs.CallerLemmas.{comes_task, runs_out_task}
use Rattle.ld_convert.specs.Apart.{Apart}
use Rattle.ld_convert.specs.Compares.{unfolded}
use Rattle.ld_convert.specs.Account.{Comes, StopsTask}
use Rattle.ld_convert.specs.Sides.{sides_by, UnfoldsIf, Stays, IsReached, UnfoldsAs}
use Rattle.ld_convert.specs.declared.sides.Sides.{Sides}
use Rattle.ld_convert.proofs.Spending.{takes_all, comes_then}
use Rattle.ld_convert.proofs.Carrying.{Carries, carries_then, carries_stop, first_stops}
use Rattle.ld_convert.proofs.Ready.{tree_later, term_later, equal_later}

-- a task that gives a value at once
pub comes_now : {E X : Type 0} (x : X) (K : Pairs) (w : Work) → Comes {E = E} (gives x) K (Gives x) K w w
comes_now x K w = record { steps = 0; answers = gives_answers x K; takes = record { left = omega arith; spent = omega arith } }

-- a tree that is unfolded, as a task
side_comes : (env : Env) (t : Tree) (K : Pairs) (u : Tree) (old new : Work) → cost.Comes (Unfold env t) (At u) old new → Comes {E = Apart} (reaches (Unfold env t)) K (Gives u) K old new
side_comes env t K u old new h =
    let c = comes_task {E = Apart} (Unfold env t) K (At u) old new (unfold_once env t) h in
    record { steps = c.steps; answers = c.answers; takes = c.takes }

side_stops : (env : Env) (t : Tree) (K : Pairs) (old new : Work) (s : Stop) → Stops (Unfold env t) s old new → StopsTask {E = Apart} {X = Tree} (reaches (Unfold env t)) K K old new s
side_stops env t K old new stop.Spent h =
    let c = runs_out_task {E = Apart} (Unfold env t) K old new h in
    record { none = c.none; left = c.left; takes = c.takes }
side_stops env t K old new stop.High h =
    let c = comes_task {E = Apart} (Unfold env t) K TooHigh old new (unfold_once env t) h in
    record { steps = c.steps; answers = c.answers; takes = c.takes }
side_stops env t K old new stop.Nested h = absurd h
side_stops env t K old new stop.Memory h = tt

reached : {u v : Tree} → At u ≡ At v → u ≡ v
reached e = cc

not_reached : {v : Tree} → TooHigh ≡ At v → ⊥
not_reached e = cc

-- a tree that stays stops nothing
stays_on : (t : Tree) (old new : Work) (s : Stop) (P : Type 0) → (s ≡ stop.Memory → P) → Stops (Stays t) s old new → P
stays_on t old new stop.Spent P f h = absurd (let l = h.none (At t) 0 (refl, refl) in omega (arith, l))
stays_on t old new stop.High P f h = absurd (not_reached h.comes.0)
stays_on t old new stop.Nested P f h = absurd h
stays_on t old new stop.Memory P f h = f refl

-- no step is made
pub no_step : {E X : Type 0} (p : Task E X) (K : Pairs) (old mid : Work) (n : ℕ) → Takes old mid n → n ≡ 0 → Carries p p K K old mid
no_step p K old mid n h e = record {
  comes = λ r L new t. record {
    steps = t.steps;
    answers = t.answers;
    takes = record { left = omega (arith, h.left, e, t.takes.left); spent = omega (arith, h.spent, e, t.takes.spent) };
  };
  out = λ new t. record { none = λ r L m w. let l = t.none r L m w in omega (arith, h.left, e, l); left = t.left; takes = takes_all old mid new n h t.takes };
}

-- after the left side comes to a tree, the right side is left
left_first : (l r : Bool) (env : Env) (a b u : Tree) (K : Pairs) (old mid : Work) → cost.Comes (UnfoldsIf env l a) (At u) old mid
    → Carries (unfolded env (sides_by l r) a b) (unfolded env (sides_by false r) u b) K K old mid
left_first true true env a b u K old mid h =
    carries_then (reaches (Unfold env a)) (λ x. unfolded env (sides_by false true) x b) u K K old mid (side_comes env a K u old mid h)
left_first true false env a b u K old mid h =
    carries_then (reaches (Unfold env a)) (λ x. unfolded env (sides_by false false) x b) u K K old mid (side_comes env a K u old mid h)
left_first false r env a b u K old mid h =
    subst (λ x. Carries (unfolded env (sides_by false r) a b) (unfolded env (sides_by false r) x b) K K old mid) (sym (reached h.comes.0))
    (no_step (unfolded env (sides_by false r) a b) K old mid h.steps h.takes h.comes.1)

left_stops : (l r : Bool) (env : Env) (a b : Tree) (K : Pairs) (old new : Work) (s : Stop) → Stops (UnfoldsIf env l a) s old new → StopsTask (unfolded env (sides_by l r) a b) K K old new s
left_stops true true env a b K old new s h = first_stops (reaches (Unfold env a)) (λ x. unfolded env (sides_by false true) x b) K K old new s (side_stops env a K old new s h)
left_stops true false env a b K old new s h = first_stops (reaches (Unfold env a)) (λ x. unfolded env (sides_by false false) x b) K K old new s (side_stops env a K old new s h)
left_stops false r env a b K old new s h =
    stays_on a old new s (StopsTask (unfolded env (sides_by false r) a b) K K old new s)
    (λ e. subst (StopsTask (unfolded env (sides_by false r) a b) K K old new) (sym e) tt) h

right_last : (r : Bool) (env : Env) (u b v : Tree) (K : Pairs) (mid new : Work) → cost.Comes (UnfoldsIf env r b) (At v) mid new
    → Comes (unfolded env (sides_by false r) u b) K (Gives (u, v)) K mid new
right_last true env u b v K mid new h =
    comes_then (reaches (Unfold env b)) (λ y. gives (u, y)) v K K K (Gives (u, v)) mid new new (side_comes env b K v mid new h) (comes_now (u, v) K new)
right_last false env u b v K mid new h =
    subst (λ y. Comes (unfolded env (sides_by false false) u b) K (Gives (u, y)) K mid new) (sym (reached h.comes.0))
    ((no_step (unfolded env (sides_by false false) u b) K mid new h.steps h.takes h.comes.1).comes (Gives (u, b)) K new (comes_now (u, b) K new))

right_stops : (r : Bool) (env : Env) (u b : Tree) (K : Pairs) (mid new : Work) (s : Stop) → Stops (UnfoldsIf env r b) s mid new → StopsTask (unfolded env (sides_by false r) u b) K K mid new s
right_stops true env u b K mid new s h = first_stops (reaches (Unfold env b)) (λ y. gives (u, y)) K K mid new s (side_stops env b K mid new s h)
right_stops false env u b K mid new s h =
    stays_on b mid new s (StopsTask (unfolded env (sides_by false false) u b) K K mid new s)
    (λ e. subst (StopsTask (unfolded env (sides_by false false) u b) K K mid new) (sym e) tt) h

-- the left side stops
pub unfolding_stops : (env : Env) (s : Sides) (a b : Tree) (K : Pairs) (old new : Work) (f : Stop) → Stops (UnfoldsIf env s.left a) f old new
    → StopsTask (unfolded env (sides_by s.left s.right) a b) K K old new f
unfolding_stops env s a b K old new f h = left_stops s.left s.right env a b K old new f h

-- what holds of the right side after the left, in terms of what was there before
pub right_here : (items mid : List Item) (j k : List Kept) (t : TermId) (r : Bool) (P : Way → Tree → ℕ → Type 0) → Goes items mid j k → IsTermAt items t
    → P (UnfoldsIf (known_of mid k).env r (tree_at mid t)) (tree_at mid t) (length (known_of mid k).env)
    → P (UnfoldsIf (known_of items j).env r (tree_at items t)) (tree_at items t) (length (known_of items j).env)
right_here items mid j k t r P g h p =
    let e = tree_later items mid j k t g h in
    subst (λ env. P (UnfoldsIf env r (tree_at items t)) (tree_at items t) (length env)) g.adds.env
    (subst (λ x. P (UnfoldsIf (known_of mid k).env r x) x (length (known_of mid k).env)) e p)

-- the right side stops
pub right_side_stops : (env : Env) (s : Sides) (a b u : Tree) (K : Pairs) (old mid new : Work) (f : Stop) → cost.Comes (UnfoldsIf env s.left a) (At u) old mid
    → Stops (UnfoldsIf env s.right b) f mid new → StopsTask (unfolded env (sides_by s.left s.right) a b) K K old new f
right_side_stops env s a b u K old mid new f h g =
    carries_stop (unfolded env (sides_by s.left s.right) a b) (unfolded env (sides_by false s.right) u b) K K K old mid new f
    (left_first s.left s.right env a b u K old mid h) (right_stops s.right env u b K mid new f g)

-- both sides are done
pub both_done : (env : Env) (s : Sides) (a b : Tree) (bound : ℕ) (mid later : List Item) (k l : List Kept) (p q : TermId × EqId) (K : Pairs) (old half new : Work) → Goes mid later k l
    → IsReached (UnfoldsIf env s.left a) a bound mid (known_of mid k) old half p → IsReached (UnfoldsIf env s.right b) b bound later (known_of later l) half new q
    → UnfoldsAs env s a b bound later (known_of later l) K old new (Ok (record { left = p.0; right = q.0; first = p.1; second = q.1 }))
both_done env s a b bound mid later k l p q K old half new g f h =
    let e = tree_later mid later k l p.0 g f.term in
    let u = tree_at mid p.0 in
    let v = tree_at later q.0 in
    let c = (left_first s.left s.right env a b u K old half f.comes).comes (Gives (u, v)) K new (right_last s.right env u b v K half new h.comes) in (
      subst (λ x. Comes (unfolded env (sides_by s.left s.right) a b) K (Gives (x, v)) K old new) (sym e) c,
      record {
        left = term_later mid later k l p.0 g f.term;
        right = h.term;
        first = subst (λ x. Equates (known_of later l) p.1 a x bound) (sym e) (equal_later mid later k l p.1 a u bound g f.equal);
        second = h.equal;
      },
    )

-- an unfolding is a step
one_step : (env : Env) (t : Tree) (r : Reached) (n : ℕ) → Unfold env t r n → n ≡ 1
one_step env t r n (Unfold.unfolded e small) = refl
one_step env t r n (Unfold.too_high u e h) = refl

-- so the steps that are left get fewer
pub fewer_left : (l r : Bool) (env env' : Env) (a b u v : Tree) (old half new : Work) → (l || r) ≡ true → cost.Comes (UnfoldsIf env l a) (At u) old half → cost.Comes (UnfoldsIf env' r b) (At v) half new
    → new.left < old.left
fewer_left true r env env' a b u v old half new some f h = let e = one_step env a (At u) f.steps f.comes in omega (arith, f.takes.left, h.takes.left, e)
fewer_left false true env env' a b u v old half new some f h = let e = one_step env' b (At v) h.steps h.comes in omega (arith, f.takes.left, h.takes.left, e)
fewer_left false false env env' a b u v old half new some f h = absurd (cc)
