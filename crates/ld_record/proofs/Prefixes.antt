-- The first entries of an environment, and an environment with one entry more: what a step unfolds stays where it is.
use Rattle.std.proofs.Common.{◌≡◌, ◌<◌, ℕ, zero, suc, [], ◌∷◌, ◌++◌, length, take, refl, ap, inl, inr, arith}
use Rattle.std.specs.Prelude.{◌⊎◌}
use Rattle.std.proofs.lemmas.Option.{slice_get_within}
use Rattle.ld_terms.specs.Tree.{Tree, Trees}
use Rattle.ld_terms.specs.Entry.{Entry, Env, EntryAt}
use Rattle.ld_terms.specs.Step.{Step, StepIn, Converts}

no_entry : (k : ℕ) (e : Entry) → EntryAt [] k e → ⊥
no_entry k e at = cc

pub entry_within : (Δ : Env) (k : ℕ) (e : Entry) → EntryAt Δ k e → k < length Δ
entry_within Δ k e at = slice_get_within Δ k e at

-- the first entries with the next one
pub take_next : (Δ : Env) (m : ℕ) (e : Entry) → EntryAt Δ m e → take (suc m) Δ ≡ take m Δ ++ e ∷ []
take_next [] m e at = absurd (no_entry m e at)
take_next (x ∷ Δ) zero e at = let same : x ≡ e = cc in ap (λ z. z ∷ []) same
take_next (x ∷ Δ) (suc m) e at = ap (λ zs. x ∷ zs) (take_next Δ m e at)

pub entry_below : (Δ : Env) (m k : ℕ) (e : Entry) → k < m → EntryAt Δ k e → EntryAt (take m Δ) k e
entry_below Δ zero k e below at = absurd (omega arith)
entry_below [] (suc m) k e below at = absurd (no_entry k e at)
entry_below (x ∷ Δ) (suc m) zero e below at = at
entry_below (x ∷ Δ) (suc m) (suc k) e below at = entry_below Δ m k e (omega arith) at

pub entry_or_last : (Δ : Env) (x : Entry) (k : ℕ) (e : Entry) → EntryAt (Δ ++ x ∷ []) k e → EntryAt Δ k e ⊎ ((k ≡ length Δ) × (x ≡ e))
entry_or_last [] x zero e at = inr (refl, cc)
entry_or_last [] x (suc k) e at = absurd (no_entry k e at)
entry_or_last (y ∷ Δ) x zero e at = inl at
entry_or_last (y ∷ Δ) x (suc k) e at = further (entry_or_last Δ x k e at)
  where
    further : EntryAt Δ k e ⊎ ((k ≡ length Δ) × (x ≡ e)) → EntryAt (y ∷ Δ) (suc k) e ⊎ ((suc k ≡ length (y ∷ Δ)) × (x ≡ e))
    further (inl h) = inl h
    further (inr h) = inr (ap suc h.0, h.1)

entry_more : (Δ : Env) (x : Entry) (k : ℕ) (e : Entry) → EntryAt Δ k e → EntryAt (Δ ++ x ∷ []) k e
entry_more [] x k e at = absurd (no_entry k e at)
entry_more (y ∷ Δ) x zero e at = at
entry_more (y ∷ Δ) x (suc k) e at = entry_more Δ x k e at

mutual
  step_more : {Δ : Env} (x : Entry) {t u : Tree} → Step Δ t u → Step (Δ ++ x ∷ []) t u
  step_more x Step.beta = Step.beta
  step_more {Δ} x (Step.delta {k = k} {e = e} at w c) = Step.delta (entry_more Δ x k e at) w c
  step_more x (Step.in_function s) = Step.in_function (step_more x s)
  step_more x (Step.in_argument s) = Step.in_argument (step_more x s)
  step_more x (Step.in_lam_type s) = Step.in_lam_type (step_more x s)
  step_more x (Step.in_lam_body s) = Step.in_lam_body (step_more x s)
  step_more x (Step.in_pi_type s) = Step.in_pi_type (step_more x s)
  step_more x (Step.in_pi_body s) = Step.in_pi_body (step_more x s)
  step_more x (Step.in_instance s) = Step.in_instance (step_in_more x s)

  step_in_more : {Δ : Env} (x : Entry) {us vs : Trees} → StepIn Δ us vs → StepIn (Δ ++ x ∷ []) us vs
  step_in_more x (StepIn.last s) = StepIn.last (step_more x s)
  step_in_more x (StepIn.before s) = StepIn.before (step_in_more x s)

pub converts_more : {Δ : Env} (x : Entry) {t u : Tree} → Converts Δ t u → Converts (Δ ++ x ∷ []) t u
converts_more x (Converts.step s) = Converts.step (step_more x s)
converts_more x Converts.same = Converts.same
converts_more x (Converts.back h) = Converts.back (converts_more x h)
converts_more x (Converts.chain h k) = Converts.chain (converts_more x h) (converts_more x k)
