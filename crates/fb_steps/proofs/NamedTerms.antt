-- What has a type names only entries that are there, with as many arguments as parameters, and only variables of its context.
use Rattle.std.proofs.Common.{◌≡◌, ℕ, zero, suc, ap, [], ◌∙◌}
use Rattle.std.proofs.lemmas.Option.{slice_get_within}
use Rattle.std.specs.Prelude.{◌∷◌, slice_index_or}
use Rattle.ld_terms.specs.Tree.{Tree, Star, Box, Var, App, Lam, Pi, Const, Trees, Nil, ◌▸◌, count}
use Rattle.ld_terms.specs.Entry.{Entry, EntryAt, Env}
use Rattle.ld_terms.specs.Named.{IsNamed, AreNamed, IsWellFormed}
use Rattle.ld_terms.specs.Record.{params_at}
use Rattle.ld_terms.specs.Derivable.{Derivable, more, ◌⨾◌⊢◌∶◌, ◌⨾◌⊢◌∶∶◌}
use Rattle.ld_laws.proofs.Scoping.{arguments_scope, scopes}
use Rattle.ld_laws.proofs.Inversion.{generation}
use Rattle.ld_laws.proofs.Correctness.{IsCorrect, correct, is_box, sorted}

index_at : (Δ : Env) (k : ℕ) (d e : Entry) → EntryAt Δ k e → e ≡ slice_index_or Δ k d
index_at [] k d e at = absurd (cc)
index_at (x ∷ Δ) zero d e at = cc (at)
index_at (x ∷ Δ) (suc k) d e at = index_at Δ k d e at

params_there : (Δ : Env) (k : ℕ) (e : Entry) → EntryAt Δ k e → count e.params ≡ params_at Δ k
params_there Δ k e at = ap (λ d. count d.params) (index_at Δ k _ e at)

mutual
  named : (Δ : Env) (t : Tree) (Γ : Trees) (n : Tree) → Δ ⨾ Γ ⊢ t ∶ n → IsNamed Δ t
  named Δ Star Γ n d = tt
  named Δ Box Γ n d = tt
  named Δ (Var i) Γ n d = tt
  named Δ (App f u) Γ n d = let g = generation Δ Γ (App f u) n d in (named Δ f Γ _ g.function, named Δ u Γ _ g.argument)
  named Δ (Lam a m) Γ n d =
      let g = generation Δ Γ (Lam a m) n d in
      let c = generation Δ Γ (Pi a g.range) g.product.of g.product.typed in
      (named Δ a Γ _ c.domain.typed, named Δ m (Γ ▸ a) _ g.body)
  named Δ (Pi a b) Γ n d = let g = generation Δ Γ (Pi a b) n d in (named Δ a Γ _ g.domain.typed, named Δ b (Γ ▸ a) _ g.range.typed)
  named Δ (Const k us) Γ n d =
      let g = generation Δ Γ (Const k us) n d in
      (slice_get_within Δ k g.entry g.at, (arguments_scope g.arguments).1 ∙ params_there Δ k g.entry g.at, all_named Δ us Γ _ g.arguments)

  all_named : (Δ : Env) (us Γ ps : Trees) → Δ ⨾ Γ ⊢ us ∶∶ ps → AreNamed Δ us
  all_named Δ Nil Γ ps h = tt
  all_named Δ (us ▸ u) Γ Nil h = elim h [ ]
  all_named Δ (us ▸ u) Γ (ps ▸ a) (more h d) = (all_named Δ us Γ ps h, named Δ u Γ _ d)

pub well_formed : {Δ : Env} {Γ : Trees} {t n : Tree} → Derivable Δ Γ t n → IsWellFormed Δ (count Γ) t
well_formed {Δ} {Γ} {t} {n} d = record { named = named Δ t Γ n d; scoped = (scopes d).of_term }

correct_named : {Δ : Env} {Γ : Trees} {n : Tree} → IsCorrect Δ Γ n → IsNamed Δ n
correct_named is_box = tt
correct_named {Δ} {Γ} {n} (sorted h) = named Δ n Γ h.of h.typed

pub type_well_formed : {Δ : Env} {Γ : Trees} {t n : Tree} → Derivable Δ Γ t n → IsWellFormed Δ (count Γ) n
type_well_formed d = record { named = correct_named (correct d); scoped = (scopes d).of_type }
