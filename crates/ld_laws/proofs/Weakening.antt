-- Thinning. The variables themselves, at their new places, suit the greater context.
use Rattle.std.proofs.Common.{ap, arith, refl, subst, suc, sym, ℕ, ◌≡◌, ◌++◌, ◌∙◌}
use Rattle.std.proofs.lemmas.Bool.Decides.{nat_tests}
use mathlib.Core.Path.{subst₂}
use Rattle.ld_terms.specs.Derivable.{Derivable, IsLegalContext, weak, ◌⨾◌⊢◌∶◌}
use Rattle.ld_terms.specs.Entry.{Env}
use Rattle.ld_terms.specs.Put.{lift}
use Rattle.ld_terms.specs.Tree.{Nil, Tree, Trees, Var, count, ◌▸◌}
use Rattle.ld_laws.specs.Contexts.{ThinningAtEnd, ThinningWithin, joined, lifted}
use Rattle.ld_laws.specs.Typing.{HasSort}
use Rattle.ld_laws.proofs.Renaming.{next, ren, ren_as_sub, ren_sub, sub, up, up_as_sub}
use Rattle.ld_laws.proofs.Putting.{lift_next, lift_ren, shift, up_shift}
use Rattle.ld_laws.proofs.Converting.{extends_more}
use Rattle.ld_laws.proofs.Moving.{Suits, moved, suits_up, weaker}
use Rattle.ld_laws.proofs.LegalContexts.{last_of, legal_of, suits_agree, suits_same}

-- a context's variables, where more stand after them
past : Trees → ℕ → ℕ
past Nil i = i
past (ps ▸ a) i = suc (past ps i)

shift_past : (ps : Trees) (i : ℕ) → shift (count ps) 0 i ≡ past ps i
unfolding past
shift_past Nil i = grind (arith, nat_tests)
shift_past (ps ▸ a) i = step_on (count ps) i ∙ ap suc (shift_past ps i)
  where
    step_on : (n i : ℕ) → shift (suc n) 0 i ≡ suc (shift n 0 i)
    step_on n i = grind (arith, nat_tests)

-- one more variable in the greater context
lift_of_sub : (t : Tree) (s : ℕ → Tree) → lift (sub s t) 1 0 ≡ sub (λ i. ren next (s i)) t
lift_of_sub t s = lift_next (sub s t) ∙ ren_sub t next s (λ i. ren next (s i)) (λ i. refl)

suits_weaker : {Δ : Env} {Γ' Γ : Trees} {s : ℕ → Tree} {c : Tree} → Suits Δ Γ' s Γ → HasSort Δ Γ' c → Suits Δ (Γ' ▸ c) (λ i. ren next (s i)) Γ
suits_weaker {Δ} {Γ'} {Γ} {s} {c} f h = record {
  legal = weak h.is_sort f.legal h.typed;
  each = λ i t at. subst (Derivable Δ (Γ' ▸ c) (ren next (s i))) (lift_of_sub t s) (weaker h.is_sort (f.each i t at) h.typed);
}

suits_past : {Δ : Env} (Γ ps : Trees) → IsLegalContext Δ (joined Γ ps) → Suits Δ (joined Γ ps) (λ i. Var (past ps i)) Γ
unfolding past
suits_past Γ Nil d = suits_same d
suits_past Γ (ps ▸ a) d = let l = last_of d in suits_weaker (suits_past Γ ps (legal_of l.typed)) l

-- the variables of a context with new ones in its midst
abbrev passed : Trees → Trees → ℕ → Tree
passed new later i = Var (shift (count new) (count later) i)

lift_passed : (t : Tree) (new later : Trees) → lift t (count new) (count later) ≡ sub (passed new later) t
lift_passed t new later =
    let r = shift (count new) (count later) in
    lift_ren t (count new) (count later) r (λ i. refl) ∙ ren_as_sub t r (passed new later) (λ i. refl)

passed_up : (new later : Trees) (a : Tree) (i : ℕ) → up (passed new later) i ≡ passed new (later ▸ a) i
passed_up new later a i =
    let r = shift (count new) (count later) in
    sym (up_as_sub r (passed new later) (λ j. refl) i) ∙ ap Var (up_shift (count new) (count later) i)

suits_passed : {Δ : Env} (Γ new later : Trees) → IsLegalContext Δ (joined (joined Γ new) (lifted later (count new))) →
    Suits Δ (joined (joined Γ new) (lifted later (count new))) (passed new later) (joined Γ later)
suits_passed Γ new Nil l = suits_agree (λ i. ap Var (sym (shift_past new i))) (suits_past Γ new l)
suits_passed {Δ} Γ new (later ▸ a) l =
    let h = last_of l in
    let f = suits_passed Γ new later (legal_of h.typed) in
    let Γ' = joined (joined Γ new) (lifted later (count new)) in
    let d = subst (λ x. Δ ⨾ Γ' ⊢ x ∶ h.of) (lift_passed a new later) h.typed in
    let g = subst (λ x. Suits Δ (Γ' ▸ x) (up (passed new later)) (joined Γ later ▸ a)) (sym (lift_passed a new later)) (suits_up h.is_sort f d) in
    suits_agree (passed_up new later a) g

pub thinning_within : ThinningWithin
thinning_within Δ more Γ new later m n d l =
    subst₂ (Derivable (Δ ++ more) (joined (joined Γ new) (lifted later (count new)))) (sym (lift_passed m new later)) (sym (lift_passed n new later))
    (moved d (Δ ++ more) (joined (joined Γ new) (lifted later (count new))) (passed new later) (extends_more Δ more) (suits_passed Γ new later l))

pub thinning_at_end : ThinningAtEnd
thinning_at_end Δ more Γ new m n d l = thinning_within Δ more Γ new Nil m n d l
