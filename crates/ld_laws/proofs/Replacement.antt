-- Substitution. The arguments suit the parameters, also below later variables.
use Rattle.std.proofs.Common.{refl, subst, sym}
use mathlib.Core.Path.{subst₂}
use Rattle.ld_terms.specs.Derivable.{Derivable, IsLegalContext, ◌⨾◌⊢◌∶∶◌}
use Rattle.ld_terms.specs.Entry.{Env}
use Rattle.ld_terms.specs.Put.{in_place_below}
use Rattle.ld_terms.specs.Tree.{Nil, Trees, count, ◌▸◌}
use Rattle.ld_laws.specs.Contexts.{SubstitutionAtEnd, SubstitutionOfAll, SubstitutionWithin, joined, replaced}
use Rattle.ld_laws.proofs.Renaming.{up}
use Rattle.ld_laws.proofs.Putting.{below_suc, below_zero, put_sub}
use Rattle.ld_laws.proofs.Moving.{Suits, into_sort, moved, suits_up}
use Rattle.ld_laws.proofs.LegalContexts.{last_of, legal_of, put_all, suits_agree, suits_joined}

-- a context is legal where a longer one is
legal_before : {Δ : Env} (Γ ps : Trees) → IsLegalContext Δ (joined Γ ps) → IsLegalContext Δ Γ
legal_before Γ Nil l = l
legal_before Γ (ps ▸ a) l = let h = last_of l in legal_before Γ ps (legal_of h.typed)

suits_replaced : {Δ : Env} (Γ ps us later : Trees) → IsLegalContext Δ (joined (joined Γ ps) later) → Δ ⨾ Γ ⊢ us ∶∶ ps →
    Suits Δ (joined Γ (replaced later us)) (in_place_below us (count later)) (joined (joined Γ ps) later)
suits_replaced Γ ps us Nil l args = suits_agree (λ i. sym (below_zero us i)) (suits_joined (legal_before Γ ps l) args)
suits_replaced {Δ} Γ ps us (later ▸ a) l args =
    let h = last_of l in
    let s = in_place_below us (count later) in
    let Γ' = joined Γ (replaced later us) in
    let f = suits_replaced Γ ps us later (legal_of h.typed) args in
    let d = into_sort s h.is_sort (moved h.typed Δ Γ' s (λ k e at. at) f) in
    let g = subst (λ x. Suits Δ (Γ' ▸ x) (up s) (joined (joined Γ ps) later ▸ a)) (sym (put_sub a us (count later) s (λ i. refl))) (suits_up h.is_sort f d) in
    suits_agree (below_suc us (count later)) g

pub substitution_within : SubstitutionWithin
substitution_within Δ Γ ps us later m n d args =
    let s = in_place_below us (count later) in
    subst₂ (Derivable Δ (joined Γ (replaced later us))) (sym (put_sub m us (count later) s (λ i. refl))) (sym (put_sub n us (count later) s (λ i. refl)))
    (moved d Δ (joined Γ (replaced later us)) s (λ k e at. at) (suits_replaced Γ ps us later (legal_of d) args))

pub substitution_at_end : SubstitutionAtEnd
substitution_at_end Δ Γ ps us m n d args = substitution_within Δ Γ ps us Nil m n d args

pub substitution_of_all : SubstitutionOfAll
substitution_of_all Δ Γ ps us m n d l args = put_all (λ k e at. at) l args d
