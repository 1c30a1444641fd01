-- The variables of all flags of a context have the types of the flags; put in for themselves they change nothing.
use Rattle.std.proofs.Common.{ap, arith, refl, subst, suc, sym, zero, ℕ, ◌≡◌, ◌<◌, ◌≤◌, ◌+◌, ◌-◌, ◌∙◌}
use mathlib.Core.Path.{ap₂, subst₂}
use Rattle.ld_terms.specs.Derivable.{Derivable, IsLegalContext, more, none, var, ◌⨾◌⊢◌∶∶◌}
use Rattle.ld_terms.specs.Entry.{Env, IsScoped}
use Rattle.ld_terms.specs.Put.{in_place, lift, put}
use Rattle.ld_terms.specs.Tree.{Nil, Tree, Trees, Var, count, ◌▸◌}
use Rattle.ld_laws.specs.Unfolding as unfolding_of
use Rattle.ld_laws.specs.Unfolding.{UnfoldedEach}
use Rattle.ld_laws.proofs.Renaming.{sub_agree, sub_all}
use Rattle.ld_laws.proofs.Putting.{put_as_sub}
use Rattle.ld_laws.proofs.Scoping.{scopes}
use Rattle.ld_laws.proofs.Moving.{arguments_move, suits_back}
use Rattle.ld_laws.proofs.LegalContexts.{last_of, legal_of, lift_as_sub, sub_var, suits_same}
use Rattle.fb_scope.specs.Names.{implied}

pub implied_count : (v n : ℕ) → count (implied v n) ≡ n
implied_count v zero = refl
implied_count v (suc n) = ap suc (implied_count v n)

-- what stands there for an index
at_index : (v n i : ℕ) → n ≤ v → i < n → in_place (implied v n) i ≡ Var (v - n + i)
at_index v zero i le lt = absurd (omega (arith, lt))
at_index v (suc n) zero le lt = let e : v - suc n ≡ v - suc n + 0 = omega arith in ap Var e
at_index v (suc n) (suc i) le lt =
    let e : v - n + i ≡ v - suc n + suc i = omega (arith, le) in at_index v n i (omega (arith, le)) (omega (arith, lt)) ∙ ap Var e

pub put_own : (t : Tree) (n : ℕ) → IsScoped t n → put t (implied n n) ≡ t
put_own t n c = put_as_sub t (implied n n) ∙ sub_agree t n (in_place (implied n n)) Var c each ∙ sub_var t
  where
    each : (i : ℕ) → i < n → in_place (implied n n) i ≡ Var i
    each i lt = let e : n - n + i ≡ i = omega arith in at_index n n i (omega arith) lt ∙ ap Var e

-- below one more variable
moved_on : (v n : ℕ) → n ≤ v → sub_all (λ i. Var (suc i)) (implied v n) ≡ implied (suc v) n
moved_on v zero le = refl
moved_on v (suc n) le =
    let e : suc (v - suc n) ≡ suc v - suc n = omega (arith, le) in ap₂ ◌▸◌ (moved_on v n (omega (arith, le))) (ap Var e)

put_lifted : (t : Tree) (n : ℕ) → IsScoped t n → put t (implied (suc n) n) ≡ lift t 1 0
put_lifted t n c = put_as_sub t (implied (suc n) n) ∙ sub_agree t n (in_place (implied (suc n) n)) (λ i. Var (suc i)) c each ∙ sym (lift_as_sub t)
  where
    each : (i : ℕ) → i < n → in_place (implied (suc n) n) i ≡ Var (suc i)
    each i lt = let e : suc n - n + i ≡ suc i = omega arith in at_index (suc n) n i (omega arith) lt ∙ ap Var e

pub own_typed : {Δ : Env} (Γ : Trees) → IsLegalContext Δ Γ → Δ ⨾ Γ ⊢ implied (count Γ) (count Γ) ∶∶ Γ
own_typed Nil l = none
own_typed {Δ} (Γ ▸ a) l =
    let h = last_of l in
    let d = scopes h.typed in
    let c = count Γ in
    let z : 0 ≡ suc c - suc c = omega arith in
    let args = arguments_move (own_typed Γ (legal_of h.typed)) d.of_ctx Δ (Γ ▸ a) (λ i. Var (suc i)) (λ k e at. at) (suits_back (suits_same l)) in
    more (subst (λ us. Δ ⨾ Γ ▸ a ⊢ us ∶∶ Γ) (moved_on c c (omega arith)) args)
    (subst₂ (Derivable Δ (Γ ▸ a)) (ap Var z) (sym (put_lifted a c d.of_term)) (var h.is_sort h.typed))

-- they unfold to themselves
pub own_unfold : (Δ : Env) (first v n : ℕ) → UnfoldedEach Δ first (implied v n) (implied v n)
own_unfold Δ first v zero = unfolding_of.none
own_unfold Δ first v (suc n) = unfolding_of.more (own_unfold Δ first v n) unfolding_of.variable
