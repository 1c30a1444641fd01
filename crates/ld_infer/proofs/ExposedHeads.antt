-- What a type is exposed to: it goes there by steps of the calculus, and what it comes to is rigid.
use Rattle.std.proofs.Common.{◌≡◌, ℕ, Option, None, Some, refl, ap, ◌∙◌, subst}
use Rattle.ld_terms.specs.Tree.{Tree, Star, Box, Var, App, Lam, Pi, Const}
use Rattle.ld_terms.specs.Entry.{Env}
use Rattle.ld_terms.specs.Step.{Step}
use Rattle.ld_laws.specs.Heads.{IsRigid}
use Rattle.ld_laws.specs.Reduction.{Steps, end, then_on}
use Rattle.ld_reduce.specs.Heads.{Reached, At, Runs, over, more, too_high, Expose, beta_step, delta_step, first_of, head_step, if_some, head_number, reaches}
use Rattle.ld_convert.proofs.HeadSteps.{rigid, applied_none, beta_makes, delta_makes}
use Rattle.ld_convert.proofs.Means.{Means, reaches_means}

head_makes : (env : Env) (t u : Tree) (o : Option Tree) → beta_step t ≡ o → first_of o (delta_step env t) ≡ Some u → Step env t u
head_makes env t u None e h = delta_makes env t u h
head_makes env t u (Some v) e h = beta_makes env t u (e ∙ h)

runs_make : (env : Env) (t u : Tree) (r : Reached) (n : ℕ) → Runs (head_step env) t r n → r ≡ At u → Steps env t u
runs_make env t u r n (over e) is = let same : t ≡ u = cc in subst (Steps env t) same end
runs_make env t u r n (more {n = k} v e small run) is = then_on (head_makes env t v (beta_step t) refl e) (runs_make env v u r k run is)
runs_make env t u r n (too_high v e high) is = absurd (cc)

runs_over : (env : Env) (t u : Tree) (r : Reached) (n : ℕ) → Runs (head_step env) t r n → r ≡ At u → head_step env u ≡ None
runs_over env t u r n (over e) is = let same : t ≡ u = cc in subst (λ x. head_step env x ≡ None) same e
runs_over env t u r n (more {n = k} v e small run) is = runs_over env v u r k run is
runs_over env t u r n (too_high v e high) is = absurd (cc)

-- a tree with no step at its head
no_number : (env : Env) (t : Tree) → delta_step env t ≡ None → head_number env t ≡ None
no_number env (Const k us) e = ap (if_some k) e
no_number env (App f x) e = no_number env f (applied_none x (delta_step env f) e)
no_number env Star e = refl
no_number env Box e = refl
no_number env (Var i) e = refl
no_number env (Lam a m) e = refl
no_number env (Pi a b) e = refl

no_step : (o p : Option Tree) → first_of o p ≡ None → (o ≡ None) × (p ≡ None)
no_step None p e = (refl, e)
no_step (Some t) p e = absurd (cc)

pub record IsExposed (env : Env) (t u : Tree) : Type 0 where
  pub steps : Steps env t u
  pub rigid : IsRigid env u

exposes : (env : Env) (t u : Tree) (r : Reached) (n : ℕ) → Expose env t r n → r ≡ At u → IsExposed env t u
exposes env t u r n w is =
    let none = no_step (beta_step u) (delta_step env u) (runs_over env t u r n w is) in
    record { steps = runs_make env t u r n w is; rigid = rigid env u none.0 (no_number env u none.1) }

pub exposed_means : {E : Type 0} (env : Env) (F : E → Type 0) (type : Tree) → Means env (reaches (Expose env type)) (IsExposed env type) F
exposed_means env F type = reaches_means (Expose env type) (λ r n w u is. exposes env type u r n w is)
