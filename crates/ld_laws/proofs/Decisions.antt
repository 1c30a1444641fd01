-- What can be decided: whether trees are equal, whether an entry unfolds, whether an instance has a step at its head.
use Rattle.std.proofs.Common.{None, Option, Some, ap, refl, subst, ℕ, ◌≡◌, ◌∙◌}
use Rattle.std.proofs.Math.Decide.{ℕ_discrete}
use Rattle.std.specs.Prelude.{slice_get, ◌⊎◌}
use mathlib.Core.Logic.{inl, inr}
use Rattle.ld_terms.specs.Entry.{Body, Defined, Entry, EntryAt, Env, HasBody, Primitive, UnfoldsTo, defined, unfolds}
use Rattle.ld_terms.specs.Tree.{Tree, Tree-discrete, Trees, Trees-discrete, count}
use Rattle.ld_laws.specs.Heads.{HasNoUnfolding}

-- whether two trees are equal, and whether two lists of trees are
pub tree_decided : (t u : Tree) → Dec (t ≡ u)
tree_decided t u = Tree-discrete ℕ_discrete t u

pub trees_decided : (us vs : Trees) → Dec (us ≡ vs)
trees_decided us vs = Trees-discrete ℕ_discrete us vs

-- an entry unfolds to at most one tree
pub unfolds_once : {b : Body} {t u : Tree} → UnfoldsTo b t → UnfoldsTo b u → t ≡ u
unfolds_once unfolds unfolds = refl

-- what an entry unfolds to is its body
pub unfolds_body : {b : Body} {t : Tree} → UnfoldsTo b t → HasBody b t
unfolds_body unfolds = defined

-- whether an entry with this body unfolds
pub unfolds_or_not : (b : Body) → ((t : Tree) × UnfoldsTo b t) ⊎ ((t : Tree) → UnfoldsTo b t → ⊥)
unfolds_or_not (Defined t) = inl (t, unfolds)
unfolds_or_not Primitive = inr (λ t u. no_unfolding u)
  where
    no_unfolding : {t : Tree} → UnfoldsTo Primitive t → ⊥
    no_unfolding u = elim u [ ]

-- an instance of the entry k with m arguments has a step at its head, to the body with the arguments put in
pub record Redex (Δ : Env) (k m : ℕ) : Type 0 where
  pub entry : Entry
  pub tree : Tree
  pub at : EntryAt Δ k entry
  pub unfolds : UnfoldsTo entry.body tree
  pub fits : m ≡ count entry.params

-- it has one such step
pub redex_once : {Δ : Env} {k m : ℕ} (r q : Redex Δ k m) → r.tree ≡ q.tree
redex_once r q =
    let e : r.entry ≡ q.entry = cc (r.at, q.at) in
    unfolds_once (subst (λ x. UnfoldsTo x.body r.tree) e r.unfolds) q.unfolds

redex_at : (Δ : Env) (k m : ℕ) (e : Entry) → EntryAt Δ k e →
    ((t : Tree) × UnfoldsTo e.body t) ⊎ ((t : Tree) → UnfoldsTo e.body t → ⊥) → Dec (m ≡ count e.params) → Redex Δ k m ⊎ (Redex Δ k m → ⊥)
redex_at Δ k m e at (inl u) (yes q) = inl (record { entry = e; tree = u.0; at = at; unfolds = u.1; fits = q })
redex_at Δ k m e at (inl u) (no ne) = inr other
  where
    other : Redex Δ k m → ⊥
    other r = let f : r.entry ≡ e = cc (r.at, at) in ne (r.fits ∙ ap (λ x. count x.params) f)
redex_at Δ k m e at (inr none) d = inr other
  where
    other : Redex Δ k m → ⊥
    other r = let f : r.entry ≡ e = cc (r.at, at) in none r.tree (subst (λ x. UnfoldsTo x.body r.tree) f r.unfolds)

redex_found : (Δ : Env) (k m : ℕ) (o : Option Entry) → slice_get Δ k ≡ o → Redex Δ k m ⊎ (Redex Δ k m → ⊥)
redex_found Δ k m None q = inr other
  where
    other : Redex Δ k m → ⊥
    other r = let at = r.at in cc
redex_found Δ k m (Some e) q = redex_at Δ k m e q (unfolds_or_not e.body) (ℕ_discrete m (count e.params))

-- whether an instance has a step at its head
pub redex_or_not : (Δ : Env) (k m : ℕ) → Redex Δ k m ⊎ (Redex Δ k m → ⊥)
redex_or_not Δ k m = redex_found Δ k m (slice_get Δ k) refl

-- the same, with the second case as head stability and full unfolding say it
pub redex_or_none : (Δ : Env) (k : ℕ) (us : Trees) → Redex Δ k (count us) ⊎ HasNoUnfolding Δ k us
redex_or_none Δ k us = elim (redex_or_not Δ k (count us)) [
  | inl r ↦ inl r
  | inr other ↦ inr (λ e t at un fits. other (record { entry = e; tree = t; at = at; unfolds = un; fits = fits }))
]
