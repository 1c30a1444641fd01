-- Uniqueness, by induction on the term: generation gives both types from the types of the parts.
use Rattle.std.proofs.Common.{ap, refl, sym, ℕ, ◌≡◌, ◌∙◌}
use Rattle.ld_terms.specs.Derivable.{◌⨾◌⊢◌∶◌}
use Rattle.ld_terms.specs.Entry.{Env}
use Rattle.ld_terms.specs.Put.{lift, put}
use Rattle.ld_terms.specs.Step.{Converts, back, chain}
use Rattle.ld_terms.specs.Tree.{App, Box, Const, Lam, Nil, Pi, Star, Tree, Trees, Var, ◌▸◌}
use Rattle.ld_laws.specs.Typing.{At, Uniqueness, here, there}
use Rattle.ld_laws.proofs.Scoping.{scopes}
use Rattle.ld_laws.proofs.BoxFree.{box_untyped}
use Rattle.ld_laws.proofs.Inversion.{converts_by, generation}
use Rattle.ld_laws.proofs.Preservation.{product_parts, put_converts, under_pi}

-- a variable has one type in a context
at_once : {Γ : Trees} {i : ℕ} {t u : Tree} → At Γ i t → At Γ i u → t ≡ u
at_once here here = refl
at_once (there p) (there q) = ap (λ t. lift t 1 0) (at_once p q)

unique : (Δ : Env) (m : Tree) (Γ : Trees) (n n' : Tree) → Δ ⨾ Γ ⊢ m ∶ n → Δ ⨾ Γ ⊢ m ∶ n' → Converts Δ n n'
unique Δ Star Γ n n' d e = converts_by (generation Δ Γ Star n d ∙ sym (generation Δ Γ Star n' e))
unique Δ Box Γ n n' d e = absurd (box_untyped d)
unique Δ (Var i) Γ n n' d e =
    let g = generation Δ Γ (Var i) n d in
    let h = generation Δ Γ (Var i) n' e in
    chain (back g.converts) (chain (converts_by (at_once g.at h.at)) h.converts)
unique Δ (App f u) Γ n n' d e =
    let g = generation Δ Γ (App f u) n d in
    let h = generation Δ Γ (App f u) n' e in
    let scoped = (scopes d).of_env in
    let parts = product_parts scoped (unique Δ f Γ _ _ g.function h.function) in
    chain (back g.converts) (chain (put_converts scoped (Nil ▸ u) parts.ranges) h.converts)
unique Δ (Lam a m) Γ n n' d e =
    let g = generation Δ Γ (Lam a m) n d in
    let h = generation Δ Γ (Lam a m) n' e in
    chain (back g.converts) (chain (under_pi a (unique Δ m (Γ ▸ a) _ _ g.body h.body)) h.converts)
unique Δ (Pi a b) Γ n n' d e =
    let g = generation Δ Γ (Pi a b) n d in
    let h = generation Δ Γ (Pi a b) n' e in
    chain (back g.converts) (chain (unique Δ b (Γ ▸ a) _ _ g.range.typed h.range.typed) h.converts)
unique Δ (Const k us) Γ n n' d e =
    let g = generation Δ Γ (Const k us) n d in
    let h = generation Δ Γ (Const k us) n' e in
    let q : g.entry ≡ h.entry = cc (g.at, h.at) in
    chain (back g.converts) (chain (converts_by (ap (λ e. put e.type us) q)) h.converts)

pub uniqueness : Uniqueness
uniqueness Δ Γ m n n' d e = unique Δ m Γ n n' d e
