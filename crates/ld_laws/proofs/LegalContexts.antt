-- Legal contexts, and which substitutions suit them: the identity, arguments for parameters, another type of a variable.
use Rattle.std.proofs.Common.{ap, arith, refl, subst, suc, sym, zero, ℕ, ◌≡◌, ◌<◌, ◌∙◌}
use Rattle.std.specs.Prelude.{⊤}
use mathlib.Core.Path.{subst₂}
use Rattle.ld_terms.specs.Derivable.{Derivable, IsLegalContext, IsSort, abst, appl, box, conv, def, def_prim, form, inst, inst_prim, more, none, sort, star, var, weak, ◌⨾◌⊢◌∶◌, ◌⨾◌⊢◌∶∶◌}
use Rattle.ld_terms.specs.Entry.{Env, IsScopedEnv}
use Rattle.ld_terms.specs.Put.{in_place, lift, put}
use Rattle.ld_terms.specs.Step.{Converts}
use Rattle.ld_terms.specs.Tree.{Nil, Tree, Trees, Var, count, ◌▸◌}
use Rattle.ld_laws.specs.Contexts.{joined}
use Rattle.ld_laws.specs.Typing.{At, HasSort, here, there}
use Rattle.ld_laws.proofs.Renaming.{next, ren_as_sub, sub, sub_same, sub_sub}
use Rattle.ld_laws.proofs.Putting.{lift_next, next_lift, put_as_sub}
use Rattle.ld_laws.proofs.Scoping.{scopes}
use Rattle.ld_laws.proofs.Converting.{Extends, converts_sub}
use Rattle.ld_laws.proofs.Moving.{Suits, moved, sub_of_lift, weaker}

-- the context of a judgement is legal
pub legal_of : {Δ : Env} {Γ : Trees} {m n : Tree} → Δ ⨾ Γ ⊢ m ∶ n → IsLegalContext Δ Γ
legal_of sort = sort
legal_of (var h d) = weak h (legal_of d) d
legal_of (weak h d e) = weak h (legal_of d) e
legal_of (form h g d e) = legal_of d
legal_of (appl d e) = legal_of d
legal_of (abst h d e) = legal_of e
legal_of (conv h c d e) = legal_of d
legal_of (def h f d e) = def h f (legal_of d) e
legal_of (def_prim h p f d e) = def_prim h p f (legal_of d) e
legal_of (inst at b d args) = d
legal_of (inst_prim at b d args) = d

pub sub_var : (t : Tree) → sub Var t ≡ t
sub_var t = sub_same t Var (λ i. refl)

-- the last type of a legal context has a sort
abbrev pub LastIsTyped : Env → Trees → Type 0
LastIsTyped Δ Nil = ⊤
LastIsTyped Δ (Γ ▸ a) = HasSort Δ Γ a

last_over : (Δ Δ' : Env) (Γ : Trees) → ((Γ : Trees) (m n : Tree) → Δ ⨾ Γ ⊢ m ∶ n → Δ' ⨾ Γ ⊢ m ∶ n) → LastIsTyped Δ Γ → LastIsTyped Δ' Γ
last_over Δ Δ' Nil f h = tt
last_over Δ Δ' (Γ ▸ a) f h = record { of = h.of; is_sort = h.is_sort; typed = f Γ a h.of h.typed }

pub last_of : {Δ : Env} {Γ : Trees} {m n : Tree} → Δ ⨾ Γ ⊢ m ∶ n → LastIsTyped Δ Γ
last_of sort = tt
last_of (var h d) = record { of = _; is_sort = h; typed = d }
last_of (weak h d e) = record { of = _; is_sort = h; typed = e }
last_of (form h g d e) = last_of d
last_of (appl d e) = last_of d
last_of (abst h d e) = last_of e
last_of (conv h c d e) = last_of d
last_of (def {Δ = Δ} {Γ = Γ} h g d e) = last_over Δ _ Γ (λ c m n f. def h g f e) (last_of d)
last_of (def_prim {Δ = Δ} {Γ = Γ} h p g d e) = last_over Δ _ Γ (λ c m n f. def_prim h p g f e) (last_of d)
last_of (inst at b d args) = last_of d
last_of (inst_prim at b d args) = last_of d

-- in a legal context each variable has its type
pub variable_typed : {Δ : Env} {Γ : Trees} {i : ℕ} {t : Tree} → IsLegalContext Δ Γ → At Γ i t → Δ ⨾ Γ ⊢ Var i ∶ t
variable_typed d here = let l = last_of d in var l.is_sort l.typed
variable_typed d (there at) = let l = last_of d in weaker l.is_sort (variable_typed (legal_of l.typed) at) l.typed

-- the identity
pub suits_same : {Δ : Env} {Γ : Trees} → IsLegalContext Δ Γ → Suits Δ Γ Var Γ
suits_same {Δ} {Γ} d = record { legal = d; each = λ i t at. subst (Derivable Δ Γ (Var i)) (sym (sub_var t)) (variable_typed d at) }

sub_agrees : (t : Tree) (s p : ℕ → Tree) → ((i : ℕ) → s i ≡ p i) → sub s t ≡ sub p t
sub_agrees t s p h = ap (sub s) (sym (sub_var t)) ∙ sub_sub t s Var p h

-- the same trees by another function
pub suits_agree : {Δ : Env} {Γ' Γ : Trees} {s p : ℕ → Tree} → ((i : ℕ) → s i ≡ p i) → Suits Δ Γ' s Γ → Suits Δ Γ' p Γ
suits_agree {Δ} {Γ'} {s = s} {p = p} h f = record {
  legal = f.legal;
  each = λ i t at. subst₂ (Derivable Δ Γ') (h i) (sub_agrees t s p h) (f.each i t at);
}

-- the arguments of an instance, for its parameters alone
pub suits_arguments : {Δ : Env} {Γ ps us : Trees} → IsLegalContext Δ Γ → Δ ⨾ Γ ⊢ us ∶∶ ps → Suits Δ Γ (in_place us) ps
suits_arguments {Δ} {Γ} d args = record { legal = d; each = λ i t at. each args at }
  where
    each : {ps us : Trees} {i : ℕ} {t : Tree} → Δ ⨾ Γ ⊢ us ∶∶ ps → At ps i t → Δ ⨾ Γ ⊢ in_place us i ∶ sub (in_place us) t
    each none at = elim at [ ]
    each (more {us = us} {u = u} {A = a} args e) here =
        subst (Derivable Δ Γ u) (put_as_sub a us ∙ sub_of_lift a (in_place (us ▸ u))) e
    each (more {us = us} {u = u} args e) (there {B = t} {i = i} at) =
        subst (Derivable Δ Γ (in_place us i)) (sub_of_lift t (in_place (us ▸ u))) (each args at)

-- the same for parameters over a context
pub suits_joined : {Δ : Env} {Γ ps us : Trees} → IsLegalContext Δ Γ → Δ ⨾ Γ ⊢ us ∶∶ ps → Suits Δ Γ (in_place us) (joined Γ ps)
suits_joined {Δ} {Γ} d args = record { legal = d; each = λ i t at. each args at }
  where
    each : {ps us : Trees} {i : ℕ} {t : Tree} → Δ ⨾ Γ ⊢ us ∶∶ ps → At (joined Γ ps) i t → Δ ⨾ Γ ⊢ in_place us i ∶ sub (in_place us) t
    each none at = (suits_same d).each _ _ at
    each (more {us = us} {u = u} {A = a} args e) here =
        subst (Derivable Δ Γ u) (put_as_sub a us ∙ sub_of_lift a (in_place (us ▸ u))) e
    each (more {us = us} {u = u} args e) (there {B = t} {i = i} at) =
        subst (Derivable Δ Γ (in_place us i)) (sub_of_lift t (in_place (us ▸ u))) (each args at)

-- a judgement under an entry's parameters, with the arguments put in
pub put_all : {Δ Δ0 : Env} {Γ ps us : Trees} {m n : Tree} → Extends Δ0 Δ → IsLegalContext Δ Γ → Δ ⨾ Γ ⊢ us ∶∶ ps →
    Δ0 ⨾ ps ⊢ m ∶ n → Δ ⨾ Γ ⊢ put m us ∶ put n us
put_all {Δ} {Δ0} {Γ} {ps} {us} {m} {n} x l args d =
    subst₂ (Derivable Δ Γ) (sym (put_as_sub m us)) (sym (put_as_sub n us)) (moved d Δ Γ (in_place us) x (suits_arguments l args))

-- one tree for the last variable
pub suits_one : {Δ : Env} {Γ : Trees} {a n : Tree} → Δ ⨾ Γ ⊢ n ∶ a → Suits Δ Γ (in_place (Nil ▸ n)) (Γ ▸ a)
suits_one {Δ} {Γ} {a} {n} d = suits_joined (legal_of d) (more none (subst (Derivable Δ Γ n) (sym (put_as_sub a Nil ∙ sub_var a)) d))

pub lift_as_sub : (t : Tree) → lift t 1 0 ≡ sub (λ i. Var (suc i)) t
lift_as_sub t = lift_next t ∙ ren_as_sub t next (λ i. Var (suc i)) (λ i. refl)

pub converts_lift : {Δ : Env} (scoped : IsScopedEnv Δ) {t u : Tree} → Converts Δ t u → Converts Δ (lift t 1 0) (lift u 1 0)
converts_lift {Δ} scoped {t} {u} c = subst₂ (Converts Δ) (sym (lift_as_sub t)) (sym (lift_as_sub u)) (converts_sub scoped (λ i. Var (suc i)) c)

-- the rule weak, of a type
pub weak_sort : {Δ : Env} {Γ : Trees} {a c s t : Tree} → IsSort s → Δ ⨾ Γ ⊢ a ∶ s → IsSort t → Δ ⨾ Γ ⊢ c ∶ t → Δ ⨾ Γ ▸ c ⊢ lift a 1 0 ∶ s
weak_sort star d h e = weak h d e
weak_sort box d h e = weak h d e

-- the identity, from a context with another last type, which converts to the old one
pub suits_retyped : {Δ : Env} {Γ : Trees} {a b s t : Tree} → IsSort s → Δ ⨾ Γ ⊢ a ∶ s → IsSort t → Δ ⨾ Γ ⊢ b ∶ t → Converts Δ b a → Suits Δ (Γ ▸ b) Var (Γ ▸ a)
suits_retyped {Δ} {Γ} {a} {b} h d g e c = record { legal = weak g (legal_of e) e; each = each }
  where
    each : (i : ℕ) (t : Tree) → At (Γ ▸ a) i t → Δ ⨾ Γ ▸ b ⊢ Var i ∶ sub Var t
    each i t here =
        subst (Derivable Δ (Γ ▸ b) (Var 0)) (sym (sub_var (lift a 1 0))) (conv h (converts_lift (scopes e).of_env c) (var g e) (weak_sort h d g e))
    each i t (there at) = subst (Derivable Δ (Γ ▸ b) _) (sym (sub_var t)) (variable_typed (weak g (legal_of e) e) (there at))

-- the type of a variable by one lifting, for who looks it up in a list
pub at_lifted : {Γ : Trees} {i : ℕ} {t : Tree} → At Γ i t → t ≡ lift (in_place Γ i) (suc i) 0
at_lifted here = refl
at_lifted (there {B = t} {i = i} at) = ap (λ x. lift x 1 0) (at_lifted at) ∙ lift_next _ ∙ next_lift _ (suc i)

pub at_within : {Γ : Trees} {i : ℕ} {t : Tree} → At Γ i t → i < count Γ
at_within here = omega arith
at_within (there at) = let l = at_within at in omega arith

pub at_place : (Γ : Trees) (i : ℕ) → i < count Γ → At Γ i (lift (in_place Γ i) (suc i) 0)
at_place Nil i lt = absurd (omega arith)
at_place (Γ ▸ a) zero lt = here
at_place (Γ ▸ a) (suc i) lt = subst (At (Γ ▸ a) (suc i)) (lift_next _ ∙ next_lift _ (suc i)) (there (at_place Γ i (omega arith)))
