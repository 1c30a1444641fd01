-- Subject reduction, by induction on the step: generation takes the judgement apart, and conversion puts it together again.
use Rattle.std.proofs.Common.{subst, sym, ℕ, ◌≡◌}
use mathlib.Core.Path.{subst₂}
use Rattle.ld_terms.specs.Derivable.{Derivable, IsLegalContext, IsSort, abst, appl, box, conv, form, inst, inst_prim, more, star, ◌⨾◌⊢◌∶◌, ◌⨾◌⊢◌∶∶◌}
use Rattle.ld_terms.specs.Entry.{Entry, EntryAt, Env, IsScopedEnv, UnfoldsTo}
use Rattle.ld_terms.specs.Put.{in_place, put}
use Rattle.ld_terms.specs.Step.{Converts, Step, StepIn, back, before, beta, chain, delta, in_argument, in_function, in_instance, in_lam_body, in_lam_type, in_pi_body, in_pi_type, last, same, step}
use Rattle.ld_terms.specs.Tree.{App, Const, Lam, Nil, Pi, Tree, Trees, Var, ◌▸◌}
use Rattle.ld_laws.specs.Heads.{Alike, product}
use Rattle.ld_laws.specs.Reduction.{Steps, end, then_on}
use Rattle.ld_laws.specs.Typing.{FromInstance, HasSort, SubjectReduction}
use Rattle.ld_laws.proofs.Putting.{put_as_sub}
use Rattle.ld_laws.proofs.Parallel.{par_put, par_same}
use Rattle.ld_laws.proofs.Joining.{par_steps, step_in_pars}
use Rattle.ld_laws.proofs.RigidHeads.{heads_alike}
use Rattle.ld_laws.proofs.Scoping.{scopes}
use Rattle.ld_laws.proofs.Converting.{Extends, converts_sub}
use Rattle.ld_laws.proofs.Moving.{moved}
use Rattle.ld_laws.proofs.LegalContexts.{last_of, legal_of, put_all, sub_var, suits_one, suits_retyped}
use Rattle.ld_laws.proofs.BoxFree.{box_apart}
use Rattle.ld_laws.proofs.Inversion.{generation}
use Rattle.ld_laws.proofs.Entries.{MadeOver, body_typed, made_over, primitive, take_extends, with_body}
use Rattle.ld_laws.proofs.Correctness.{IsCorrect, correct, is_box, sorted}

-- to a convertible type that is `box` or has a sort
recast_by : {Δ : Env} {Γ : Trees} {m x n : Tree} → Δ ⨾ Γ ⊢ m ∶ x → IsCorrect Δ Γ x → IsCorrect Δ Γ n → Converts Δ x n → Δ ⨾ Γ ⊢ m ∶ n
recast_by d is_box is_box c = d
recast_by d (sorted h) is_box c = absurd (box_apart h.typed (back c))
recast_by d p (sorted g) c = conv g.is_sort c d g.typed

-- to a convertible type of another term
pub recast : {Δ : Env} {Γ : Trees} {m p x n : Tree} → Δ ⨾ Γ ⊢ m ∶ x → Δ ⨾ Γ ⊢ p ∶ n → Converts Δ x n → Δ ⨾ Γ ⊢ m ∶ n
recast d e c = recast_by d (correct d) (correct e) c

-- steps are conversion
pub steps_convert : {Δ : Env} {t u : Tree} → Steps Δ t u → Converts Δ t u
steps_convert end = same
steps_convert (then_on s p) = chain (step s) (steps_convert p)

-- what is put in takes a step
pub put_in_step : {Δ : Env} (scoped : IsScopedEnv Δ) (t : Tree) {us vs : Trees} → StepIn Δ us vs → Converts Δ (put t us) (put t vs)
put_in_step scoped t s = steps_convert (par_steps (par_put scoped (par_same t) (step_in_pars s)))

-- what a list is put into converts
pub put_converts : {Δ : Env} (scoped : IsScopedEnv Δ) {t u : Tree} (us : Trees) → Converts Δ t u → Converts Δ (put t us) (put u us)
put_converts {Δ} scoped {t} {u} us c = subst₂ (Converts Δ) (sym (put_as_sub t us)) (sym (put_as_sub u us)) (converts_sub scoped (in_place us) c)

-- the parts of convertible products convert
pub record Parts (Δ : Env) (a b c d : Tree) : Type 0 where
  pub domains : Converts Δ a c
  pub ranges : Converts Δ b d

alike_parts : {Δ : Env} {a b c d : Tree} → Alike Δ (Pi a b) (Pi c d) → Parts Δ a b c d
alike_parts (product p q) = record { domains = p; ranges = q }

pub product_parts : {Δ : Env} (scoped : IsScopedEnv Δ) {a b c d : Tree} → Converts Δ (Pi a b) (Pi c d) → Parts Δ a b c d
product_parts {Δ} scoped {a} {b} {c} {d} e = alike_parts (heads_alike Δ scoped (Pi a b) (Pi c d) tt tt e)

-- one tree put in for the last variable
put_one : {Δ : Env} {Γ : Trees} {a b m n : Tree} → Δ ⨾ Γ ▸ a ⊢ m ∶ b → Δ ⨾ Γ ⊢ n ∶ a → Δ ⨾ Γ ⊢ put m (Nil ▸ n) ∶ put b (Nil ▸ n)
put_one {Δ} {Γ} {a} {b} {m} {n} d e =
    subst₂ (Derivable Δ Γ) (sym (put_as_sub m (Nil ▸ n))) (sym (put_as_sub b (Nil ▸ n))) (moved d Δ Γ (in_place (Nil ▸ n)) (λ k e at. at) (suits_one e))

-- a convertible type for the last variable
retype_last : {Δ : Env} {Γ : Trees} {a b m n : Tree} → HasSort Δ Γ a → HasSort Δ Γ b → Converts Δ b a → Δ ⨾ Γ ▸ a ⊢ m ∶ n → Δ ⨾ Γ ▸ b ⊢ m ∶ n
retype_last {Δ} {Γ} {a} {b} {m} {n} h g c d =
    subst₂ (Derivable Δ (Γ ▸ b)) (sub_var m) (sub_var n) (moved d Δ (Γ ▸ b) Var (λ k e at. at) (suits_retyped h.is_sort h.typed g.is_sort g.typed c))

-- a list put in leaves a sort as it is
pub from_put_sort : {Δ : Env} {Γ : Trees} {a s : Tree} (us : Trees) → IsSort s → Δ ⨾ Γ ⊢ a ∶ put s us → Δ ⨾ Γ ⊢ a ∶ s
from_put_sort us star d = d
from_put_sort us box d = d

-- a product whose range converts
pub under_pi : {Δ : Env} (a : Tree) {b c : Tree} → Converts Δ b c → Converts Δ (Pi a b) (Pi a c)
under_pi a (step s) = step (in_pi_body s)
under_pi a same = same
under_pi a (back c) = back (under_pi a c)
under_pi a (chain c d) = chain (under_pi a c) (under_pi a d)

-- a step at the head keeps the type
by_beta : {Δ : Env} {Γ : Trees} {a m n t : Tree} → Δ ⨾ Γ ⊢ App (Lam a m) n ∶ t → Δ ⨾ Γ ⊢ put m (Nil ▸ n) ∶ t
by_beta {Δ} {Γ} {a} {m} {n} {t} d =
    let scoped = (scopes d).of_env in
    let g = generation Δ Γ (App (Lam a m) n) t d in
    let l = generation Δ Γ (Lam a m) (Pi g.domain g.range) g.function in
    let p = generation Δ Γ (Pi a l.range) l.product.of l.product.typed in
    let parts = product_parts scoped l.converts in
    recast (put_one l.body (conv p.domain.is_sort (back parts.domains) g.argument p.domain.typed)) d
    (chain (put_converts scoped (Nil ▸ n) parts.ranges) g.converts)

-- a parameter list is legal over the entries before its entry
pub params_legal : {Δ : Env} {e : Entry} → MadeOver Δ e → IsLegalContext Δ e.params
params_legal (with_body b d) = legal_of d
params_legal (primitive h p d) = legal_of d

by_delta : {Δ : Env} {Γ us : Trees} {k : ℕ} {e : Entry} {t x : Tree} → EntryAt Δ k e → UnfoldsTo e.body t → Δ ⨾ Γ ⊢ Const k us ∶ x → Δ ⨾ Γ ⊢ put t us ∶ x
by_delta {Δ} {Γ} {us} {k} {e} {t} {x} at un d =
    let g = generation Δ Γ (Const k us) x d in
    let f : e ≡ g.entry = cc (at, g.at) in
    let typed = body_typed (made_over d k _ g.at) (subst (λ y. UnfoldsTo y.body t) f un) in
    recast (put_all (take_extends Δ k) (legal_of d) g.arguments typed) d g.converts

-- either rule of instances
pub instance_by : {Δ Δ0 : Env} {Γ us : Trees} {k : ℕ} {e : Entry} → IsLegalContext Δ Γ → MadeOver Δ0 e → EntryAt Δ k e →
    Δ ⨾ Γ ⊢ us ∶∶ e.params → Δ ⨾ Γ ⊢ Const k us ∶ put e.type us
instance_by l (with_body b d) at args = inst at b l args
instance_by l (primitive h p d) at args = inst_prim at p l args

-- an instance with other arguments
instance : {Δ : Env} {Γ us vs : Trees} {k : ℕ} {t : Tree} → Δ ⨾ Γ ⊢ Const k us ∶ t → (g : FromInstance Δ Γ k us t) →
    Δ ⨾ Γ ⊢ vs ∶∶ g.entry.params → Δ ⨾ Γ ⊢ Const k vs ∶ put g.entry.type vs
instance {k = k} d g args = instance_by (legal_of d) (made_over d k _ g.at) g.at args

-- a step at any position keeps the type
mutual
  pub reduced : {Δ : Env} {m m' : Tree} → Step Δ m m' → (Γ : Trees) (t : Tree) → Δ ⨾ Γ ⊢ m ∶ t → Δ ⨾ Γ ⊢ m' ∶ t
  reduced beta Γ t d = by_beta d
  reduced (delta at un fits) Γ t d = by_delta at un d
  reduced {Δ} (in_function {f = f} {u = u} s) Γ t d =
      let g = generation Δ Γ (App f u) t d in
      recast (appl (reduced s Γ _ g.function) g.argument) d g.converts
  reduced {Δ} (in_argument {f = f} {u = u} s) Γ t d =
      let g = generation Δ Γ (App f u) t d in
      recast (appl g.function (reduced s Γ _ g.argument)) d (chain (back (put_in_step (scopes d).of_env g.range (last s))) g.converts)
  reduced {Δ} (in_lam_type {A = a} {M = m} s) Γ t d =
      let g = generation Δ Γ (Lam a m) t d in
      let p = generation Δ Γ (Pi a g.range) g.product.of g.product.typed in
      let a' = p.domain in
      let b' : HasSort Δ Γ _ = record { of = a'.of; is_sort = a'.is_sort; typed = reduced s Γ _ a'.typed } in
      recast (abst p.range.is_sort (retype_last a' b' (back (step s)) g.body) (form a'.is_sort p.range.is_sort b'.typed (retype_last a' b' (back (step s)) p.range.typed))) d
      (chain (back (step (in_pi_type s))) g.converts)
  reduced {Δ} (in_lam_body {A = a} {M = m} s) Γ t d =
      let g = generation Δ Γ (Lam a m) t d in
      recast (abst g.product.is_sort (reduced s (Γ ▸ a) _ g.body) g.product.typed) d g.converts
  reduced {Δ} (in_pi_type {A = a} {C = c} s) Γ t d =
      let p = generation Δ Γ (Pi a c) t d in
      let a' = p.domain in
      let b' : HasSort Δ Γ _ = record { of = a'.of; is_sort = a'.is_sort; typed = reduced s Γ _ a'.typed } in
      recast (form a'.is_sort p.range.is_sort b'.typed (retype_last a' b' (back (step s)) p.range.typed)) d p.converts
  reduced {Δ} (in_pi_body {A = a} {B = b} s) Γ t d =
      let p = generation Δ Γ (Pi a b) t d in
      recast (form p.domain.is_sort p.range.is_sort p.domain.typed (reduced s (Γ ▸ a) _ p.range.typed)) d p.converts
  reduced {Δ} (in_instance {k = k} {us = us} s) Γ t d =
      let g = generation Δ Γ (Const k us) t d in
      recast (instance d g (arguments_reduced s Γ _ _ (take_extends Δ k) (params_legal (made_over d k _ g.at)) g.arguments)) d
      (chain (back (put_in_step (scopes d).of_env g.entry.type s)) g.converts)

  arguments_reduced : {Δ : Env} {us vs : Trees} → StepIn Δ us vs → (Γ ps : Trees) (Δ0 : Env) → Extends Δ0 Δ → IsLegalContext Δ0 ps →
      Δ ⨾ Γ ⊢ us ∶∶ ps → Δ ⨾ Γ ⊢ vs ∶∶ ps
  arguments_reduced (last s) Γ ps Δ0 x l (more args d) = more args (reduced s Γ _ d)
  arguments_reduced (before {vs = vs} s) Γ ps Δ0 x l (more {A = a} args d) =
      let h = last_of l in
      let rest = arguments_reduced s Γ _ Δ0 x (legal_of h.typed) args in
      more rest (conv h.is_sort (put_in_step (scopes d).of_env a s) d (from_put_sort vs h.is_sort (put_all x (legal_of d) rest h.typed)))

pub subject_reduction : SubjectReduction
subject_reduction Δ Γ m m' n d s = reduced s Γ n d
