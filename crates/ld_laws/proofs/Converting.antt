-- Steps and conversion under a substitution, and over more entries.
use Rattle.std.proofs.Common.{subst, suc, sym, zero, ℕ, ◌∷◌, ◌++◌, ◌∙◌, []}
use Rattle.ld_terms.specs.Entry.{Entry, EntryAt, Env, IsScoped, IsScopedEnv}
use Rattle.ld_terms.specs.Step.{Converts, Step, StepIn, back, before, beta, chain, delta, in_argument, in_function, in_instance, in_lam_body, in_lam_type, in_pi_body, in_pi_type, last, same, step}
use Rattle.ld_terms.specs.Tree.{Tree, Trees}
use Rattle.ld_laws.proofs.Renaming.{sub, sub_all, up}
use Rattle.ld_laws.proofs.Putting.{sub_put_all, sub_put_one}
use Rattle.ld_laws.proofs.Decisions.{unfolds_body}
use Rattle.ld_laws.proofs.Parallel.{count_sub}

-- a substitution keeps steps and conversion
mutual
  pub step_sub : {Δ : Env} (scoped : IsScopedEnv Δ) {t u : Tree} (s : ℕ → Tree) → Step Δ t u → Step Δ (sub s t) (sub s u)
  step_sub {Δ} scoped s (beta {M = m} {N = n}) = subst (Step Δ _) (sym (sub_put_one m n s)) beta
  step_sub {Δ} scoped s (delta {us = us} {t = t} at un fits) =
      subst (Step Δ _) (sym (sub_put_all t us s (subst (IsScoped t) (sym fits) ((scoped _ _ at).body t (unfolds_body un))))) (delta at un (count_sub us s ∙ fits))
  step_sub scoped s (in_function p) = in_function (step_sub scoped s p)
  step_sub scoped s (in_argument p) = in_argument (step_sub scoped s p)
  step_sub scoped s (in_lam_type p) = in_lam_type (step_sub scoped s p)
  step_sub scoped s (in_lam_body p) = in_lam_body (step_sub scoped (up s) p)
  step_sub scoped s (in_pi_type p) = in_pi_type (step_sub scoped s p)
  step_sub scoped s (in_pi_body p) = in_pi_body (step_sub scoped (up s) p)
  step_sub scoped s (in_instance p) = in_instance (step_in_sub scoped s p)

  pub step_in_sub : {Δ : Env} (scoped : IsScopedEnv Δ) {us vs : Trees} (s : ℕ → Tree) → StepIn Δ us vs → StepIn Δ (sub_all s us) (sub_all s vs)
  step_in_sub scoped s (last p) = last (step_sub scoped s p)
  step_in_sub scoped s (before p) = before (step_in_sub scoped s p)

pub converts_sub : {Δ : Env} (scoped : IsScopedEnv Δ) {t u : Tree} (s : ℕ → Tree) → Converts Δ t u → Converts Δ (sub s t) (sub s u)
converts_sub scoped s (step p) = step (step_sub scoped s p)
converts_sub scoped s same = same
converts_sub scoped s (back c) = back (converts_sub scoped s c)
converts_sub scoped s (chain c d) = chain (converts_sub scoped s c) (converts_sub scoped s d)

-- each entry is in the other environment too, at its number; this keeps steps and conversion
abbrev pub Extends : Env → Env → Type 0
Extends Δ Δ' = (k : ℕ) (e : Entry) → EntryAt Δ k e → EntryAt Δ' k e

mutual
  pub step_extends : {Δ Δ' : Env} → Extends Δ Δ' → {t u : Tree} → Step Δ t u → Step Δ' t u
  step_extends x beta = beta
  step_extends x (delta at un fits) = delta (x _ _ at) un fits
  step_extends x (in_function p) = in_function (step_extends x p)
  step_extends x (in_argument p) = in_argument (step_extends x p)
  step_extends x (in_lam_type p) = in_lam_type (step_extends x p)
  step_extends x (in_lam_body p) = in_lam_body (step_extends x p)
  step_extends x (in_pi_type p) = in_pi_type (step_extends x p)
  step_extends x (in_pi_body p) = in_pi_body (step_extends x p)
  step_extends x (in_instance p) = in_instance (step_in_extends x p)

  pub step_in_extends : {Δ Δ' : Env} → Extends Δ Δ' → {us vs : Trees} → StepIn Δ us vs → StepIn Δ' us vs
  step_in_extends x (last p) = last (step_extends x p)
  step_in_extends x (before p) = before (step_in_extends x p)

pub converts_extends : {Δ Δ' : Env} → Extends Δ Δ' → {t u : Tree} → Converts Δ t u → Converts Δ' t u
converts_extends x (step p) = step (step_extends x p)
converts_extends x same = same
converts_extends x (back c) = back (converts_extends x c)
converts_extends x (chain c d) = chain (converts_extends x c) (converts_extends x d)

-- more entries at the end
pub extends_more : (Δ others : Env) (k : ℕ) (e : Entry) → EntryAt Δ k e → EntryAt (Δ ++ others) k e
extends_more [] others k e h = absurd (cc)
extends_more (x ∷ Δ) others zero e h = h
extends_more (x ∷ Δ) others (suc k) e h = extends_more Δ others k e h
