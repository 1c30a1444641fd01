-- What the steps at a head are in the calculus: each converts, and a tree that has none is rigid.
use Rattle.std.proofs.Common.{◌≡◌, ◌==◌, ℕ, Bool, true, false, Option, None, Some, slice_get, refl, ap, sym, ◌∙◌, subst, arith}
use Rattle.std.proofs.lemmas.Bool.Decides.{nat_tests}
use Rattle.ld_terms.specs.Tree.{Tree, Star, Box, Var, App, Lam, Pi, Const, Trees, Nil, ◌▸◌, count}
use Rattle.ld_terms.specs.Put.{put}
use Rattle.ld_terms.specs.Entry.{Entry, EntryAt, Body, Defined, Primitive, Env, UnfoldsTo}
use Rattle.ld_terms.specs.Step.{Step, Converts}
use Rattle.ld_laws.specs.Heads.{HasNoUnfolding, HasFixedHead, IsRigid}
use Rattle.ld_reduce.specs.Task.{Pairs, Answer, Gives, Fails}
use Rattle.ld_reduce.specs.Heads.{Reached, At, TooHigh, Way, Runs, over, more, too_high, BetaHead, Unfold, unfolded, answer, reaches, applied, beta_step, with_arguments, unfolding_of, delta_step, if_some, head_number}
use Rattle.ld_convert.specs.Apart.{Apart}
use Rattle.ld_convert.proofs.Agreeing.{gives_injective}

-- the step of an application, from that of its function part
applied_some : (x u : Tree) (o : Option Tree) → applied x o ≡ Some u → (g : Tree) × (o ≡ Some g) × (App g x ≡ u)
applied_some x u None e = absurd (cc)
applied_some x u (Some g) e = (g, refl, cc)

pub applied_none : (x : Tree) (o : Option Tree) → applied x o ≡ None → o ≡ None
applied_none x None e = refl
applied_none x (Some g) e = absurd (cc)

in_application : (env : Env) (f x u : Tree) (o : Option Tree) → applied x o ≡ Some u → ((g : Tree) → o ≡ Some g → Step env f g) → Step env (App f x) u
in_application env f x u o e h = let g = applied_some x u o e in subst (Step env (App f x)) g.2 (Step.in_function (h g.0 g.1))

pub beta_makes : (env : Env) (t u : Tree) → beta_step t ≡ Some u → Step env t u
beta_makes env (App (Lam a m) x) u e =
    let is : put m (Nil ▸ x) ≡ u = cc in
    subst (Step env (App (Lam a m) x)) is Step.beta
beta_makes env (App (App f y) x) u e = in_application env (App f y) x u (beta_step (App f y)) e (λ g is. beta_makes env (App f y) g is)
beta_makes env (App Star x) u e = absurd (cc)
beta_makes env (App Box x) u e = absurd (cc)
beta_makes env (App (Var i) x) u e = absurd (cc)
beta_makes env (App (Pi a b) x) u e = absurd (cc)
beta_makes env (App (Const k us) x) u e = absurd (cc)
beta_makes env Star u e = absurd (cc)
beta_makes env Box u e = absurd (cc)
beta_makes env (Var i) u e = absurd (cc)
beta_makes env (Lam a m) u e = absurd (cc)
beta_makes env (Pi a b) u e = absurd (cc)
beta_makes env (Const k us) u e = absurd (cc)

-- an instance of an entry that unfolds, with as many arguments as parameters
as_many : (n m : ℕ) → (n == m) ≡ true → n ≡ m
as_many n m e = grind (arith, nat_tests)

so_many : (n m : ℕ) → n ≡ m → (n == m) ≡ true
so_many n m e = grind (arith, nat_tests)

body_makes : (env : Env) (k : ℕ) (us : Trees) (x : Entry) → EntryAt env k x → (same : Bool) → (count us == count x.params) ≡ same → (b : Body) → x.body ≡ b → (u : Tree)
    → with_arguments same b us ≡ Some u → Step env (Const k us) u
body_makes env k us x at true m (Defined t) d u e =
    let is : put t us ≡ u = cc in
    let opens : UnfoldsTo x.body t = subst (λ b. UnfoldsTo b t) (sym d) UnfoldsTo.unfolds in
    subst (Step env (Const k us)) is (Step.delta at opens (as_many (count us) (count x.params) m))
body_makes env k us x at true m Primitive d u e = absurd (cc)
body_makes env k us x at false m (Defined t) d u e = absurd (cc)
body_makes env k us x at false m Primitive d u e = absurd (cc)

instance_makes : (env : Env) (k : ℕ) (us : Trees) (u : Tree) (o : Option Entry) → slice_get env k ≡ o → unfolding_of o us ≡ Some u → Step env (Const k us) u
instance_makes env k us u None at e = absurd (cc)
instance_makes env k us u (Some x) at e = body_makes env k us x at (count us == count x.params) refl x.body refl u e

pub delta_makes : (env : Env) (t u : Tree) → delta_step env t ≡ Some u → Step env t u
delta_makes env (Const k us) u e = instance_makes env k us u (slice_get env k) refl e
delta_makes env (App f x) u e = in_application env f x u (delta_step env f) e (λ g is. delta_makes env f g is)
delta_makes env Star u e = absurd (cc)
delta_makes env Box u e = absurd (cc)
delta_makes env (Var i) u e = absurd (cc)
delta_makes env (Lam a m) u e = absurd (cc)
delta_makes env (Pi a b) u e = absurd (cc)

-- a way of such steps that comes to a tree
runs_convert : (env : Env) (t u : Tree) (r : Reached) (n : ℕ) → Runs beta_step t r n → r ≡ At u → Converts env t u × (beta_step u ≡ None)
runs_convert env t u r n (over e) is =
    let same : t ≡ u = cc in
    (subst (Converts env t) same Converts.same, subst (λ x. beta_step x ≡ None) same e)
runs_convert env t u r n (more {n = k} v e small run) is =
    let h = runs_convert env v u r k run is in
    (Converts.chain (Converts.step (beta_makes env t v e)) h.0, h.1)
runs_convert env t u r n (too_high v e high) is = absurd (cc)

unfold_converts : (env : Env) (t u : Tree) (r : Reached) (n : ℕ) → Unfold env t r n → r ≡ At u → Converts env t u
unfold_converts env t u r n (unfolded {u = v} e small) is =
    let same : v ≡ u = cc in
    subst (Converts env t) same (Converts.step (delta_makes env t v e))
unfold_converts env t u r n (Unfold.too_high v e high) is = absurd (cc)

-- the same as tasks, which have no fault
reached_at : (r : Reached) (u : Tree) → ◌≡◌ {A = Answer Apart Tree} (Gives u) (answer r) → r ≡ At u
reached_at (At t) u e = ap At (sym (gives_injective e))
reached_at TooHigh u e = absurd (cc)

pub reach_no_fault : (way : Way) (K L : Pairs) (s : Answer Apart Tree) (n : ℕ) (h : Apart) → reaches way K s L n → s ≡ Fails h → ⊥
reach_no_fault way K L s n h (r, w, is, k) e = no_fault r (sym is ∙ e)
  where
    no_fault : (r : Reached) → answer r ≡ Fails h → ⊥
    no_fault (At t) e = cc
    no_fault TooHigh e = cc

pub beta_head_converts : (env : Env) (t u : Tree) (K L : Pairs) (n : ℕ) → reaches {E = Apart} (BetaHead t) K (Gives u) L n → Converts env t u × (beta_step u ≡ None)
beta_head_converts env t u K L n (r, w, is, k) = runs_convert env t u r n w (reached_at r u is)

pub unfolding_converts : (env : Env) (t u : Tree) (K L : Pairs) (n : ℕ) → reaches {E = Apart} (Unfold env t) K (Gives u) L n → Converts env t u
unfolding_converts env t u K L n (r, w, is, k) = unfold_converts env t u r n w (reached_at r u is)

-- a tree with no step at its head
opened : {b : Body} {t : Tree} → UnfoldsTo b t → b ≡ Defined t
opened UnfoldsTo.unfolds = refl

no_unfolding : (env : Env) (k : ℕ) (us : Trees) → if_some k (unfolding_of (slice_get env k) us) ≡ None → HasNoUnfolding env k us
no_unfolding env k us none x t at opens many =
    let is : unfolding_of (slice_get env k) us ≡ Some (put t us) =
    ap (λ o. unfolding_of o us) at ∙ ap (λ c. with_arguments c x.body us) (so_many (count us) (count x.params) many) ∙ ap (λ b. with_arguments true b us) (opened opens) in
    some_number (sym (ap (if_some k) is) ∙ none)
  where
    some_number : Some k ≡ None → ⊥
    some_number e = cc

fixed : (env : Env) (t x : Tree) → beta_step (App t x) ≡ None → head_number env t ≡ None → HasFixedHead env t
fixed env Star x b d = tt
fixed env Box x b d = tt
fixed env (Var i) x b d = tt
fixed env (App f y) x b d = fixed env f y (applied_none x (beta_step (App f y)) b) d
fixed env (Lam a m) x b d = absurd (cc)
fixed env (Pi a c) x b d = tt
fixed env (Const k us) x b d = no_unfolding env k us d

pub rigid : (env : Env) (t : Tree) → beta_step t ≡ None → head_number env t ≡ None → IsRigid env t
rigid env Star b d = tt
rigid env Box b d = tt
rigid env (Var i) b d = tt
rigid env (App f x) b d = fixed env f x b d
rigid env (Lam a m) b d = tt
rigid env (Pi a c) b d = tt
rigid env (Const k us) b d = no_unfolding env k us d
