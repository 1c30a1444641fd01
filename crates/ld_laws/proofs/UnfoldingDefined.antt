-- Full unfolding is defined, by induction on the number of the entry whose body is unfolded, then on the tree.
-- The body is unfolded first; the unfolded arguments, put in there, leave nothing more to unfold.
use Rattle.std.proofs.Common.{arith, refl, subst, suc, sym, zero, ℕ, ◌≡◌, ◌<◌, ◌≤◌, ◌∙◌}
use Rattle.std.proofs.lemmas.Bool.{cases_lt}
use Rattle.std.specs.Prelude.{⊤}
use mathlib.Core.Logic.{inl, inr, ◌⊎◌}
use mathlib.Core.Path.{subst₂}
use Rattle.ld_terms.specs.Entry.{Env, IsScoped, IsScopedEnv}
use Rattle.ld_terms.specs.Put.{in_place, put}
use Rattle.ld_terms.specs.Tree.{App, Box, Const, Lam, Nil, Pi, Star, Tree, Trees, Var, count, ◌▸◌}
use Rattle.ld_laws.specs.Entries.{AllNameOnly, IsOrdered, NamesOnly}
use Rattle.ld_laws.specs.Heads.{HasNoUnfolding}
use Rattle.ld_laws.specs.Unfolding.{Unfolded, UnfoldedEach, UnfoldingDefined, abstraction, application, box, kept, more, none, opened, product, star, variable}
use Rattle.ld_laws.proofs.Renaming.{next, ren, ren_as_sub, sub, sub_all, up, up_as_sub, up_ren}
use Rattle.ld_laws.proofs.Putting.{put_as_sub, sub_put_all}
use Rattle.ld_laws.proofs.Decisions.{Redex, redex_or_none, unfolds_body}
use Rattle.ld_laws.proofs.Parallel.{count_sub}
use Rattle.ld_laws.proofs.FullUnfolding.{each_count}

-- an instance stays by its number and the number of its arguments
kept_by : (Δ : Env) (from k : ℕ) (us vs : Trees) → count us ≡ count vs → (k < from) ⊎ HasNoUnfolding Δ k us → (k < from) ⊎ HasNoUnfolding Δ k vs
kept_by Δ from k us vs e (inl lt) = inl lt
kept_by Δ from k us vs e (inr h) = inr (λ d t at un fits. h d t at un (e ∙ fits))

-- a full unfolding is its own
mutual
  settled : {Δ : Env} {from : ℕ} {t u : Tree} → Unfolded Δ from t u → Unfolded Δ from u u
  settled star = star
  settled box = box
  settled variable = variable
  settled (application p q) = application (settled p) (settled q)
  settled (abstraction p q) = abstraction (settled p) (settled q)
  settled (product p q) = product (settled p) (settled q)
  settled {Δ} {from} (kept {k = k} {us = us} {vs = vs} h ps) = kept (kept_by Δ from k us vs (each_count ps) h) (all_settled ps)
  settled (opened ge at un fits ps p) = settled p

  all_settled : {Δ : Env} {from : ℕ} {us vs : Trees} → UnfoldedEach Δ from us vs → UnfoldedEach Δ from vs vs
  all_settled none = none
  all_settled (more ps p) = more (all_settled ps) (settled p)

-- under substitutions of trees that are their own full unfoldings, and still are so below a binder
module _ (Δ : Env) (scoped : IsScopedEnv Δ) (from : ℕ) (Settles : (ℕ → Tree) → Type 0)
    (each : (s : ℕ → Tree) → Settles s → (i : ℕ) → Unfolded Δ from (s i) (s i)) (under : (s : ℕ → Tree) → Settles s → Settles (up s)) where
  mutual
    unfolded_goes : {t u : Tree} (s : ℕ → Tree) → Unfolded Δ from t u → Settles s → Unfolded Δ from (sub s t) (sub s u)
    unfolded_goes s star h = star
    unfolded_goes s box h = box
    unfolded_goes s (variable {i = i}) h = each s h i
    unfolded_goes s (application p q) h = application (unfolded_goes s p h) (unfolded_goes s q h)
    unfolded_goes s (abstraction p q) h = abstraction (unfolded_goes s p h) (unfolded_goes (up s) q (under s h))
    unfolded_goes s (product p q) h = product (unfolded_goes s p h) (unfolded_goes (up s) q (under s h))
    unfolded_goes s (kept {k = k} {us = us} o ps) h = kept (kept_by Δ from k us (sub_all s us) (sym (count_sub us s)) o) (all_unfolded_go s ps h)
    unfolded_goes s (opened {us = us} {vs = vs} {t = t} {u = u} ge at un fits ps p) h =
        let c = subst (IsScoped t) (sym fits ∙ each_count ps) ((scoped _ _ at).body t (unfolds_body un)) in
        opened ge at un (count_sub us s ∙ fits) (all_unfolded_go s ps h)
        (subst (λ x. Unfolded Δ from x (sub s u)) (sub_put_all t vs s c) (unfolded_goes s p h))

    all_unfolded_go : {us vs : Trees} (s : ℕ → Tree) → UnfoldedEach Δ from us vs → Settles s → UnfoldedEach Δ from (sub_all s us) (sub_all s vs)
    all_unfolded_go s none h = none
    all_unfolded_go s (more ps p) h = more (all_unfolded_go s ps h) (unfolded_goes s p h)

IsNames : (ℕ → Tree) → Type 0
IsNames s = (r : ℕ → ℕ) × ((i : ℕ) → Var (r i) ≡ s i)

names_each : (Δ : Env) (from : ℕ) (s : ℕ → Tree) → IsNames s → (i : ℕ) → Unfolded Δ from (s i) (s i)
unfolding IsNames
names_each Δ from s h i = subst (λ x. Unfolded Δ from x x) (h.1 i) variable

names_under : (s : ℕ → Tree) → IsNames s → IsNames (up s)
unfolding IsNames
names_under s h = (up_ren h.0, up_as_sub h.0 s h.1)

unfolded_ren : {Δ : Env} (scoped : IsScopedEnv Δ) {from : ℕ} {t u : Tree} (r : ℕ → ℕ) → Unfolded Δ from t u → Unfolded Δ from (ren r t) (ren r u)
unfolding IsNames
unfolded_ren {Δ} scoped {from} {t} {u} r p =
    let s : ℕ → Tree = λ i. Var (r i) in
    subst₂ (Unfolded Δ from) (sym (ren_as_sub t r s (λ i. refl))) (sym (ren_as_sub u r s (λ i. refl)))
    (unfolded_goes Δ scoped from IsNames (names_each Δ from) names_under s p (r, (λ i. refl)))

AreSettled : Env → ℕ → (ℕ → Tree) → Type 0
AreSettled Δ from s = (i : ℕ) → Unfolded Δ from (s i) (s i)

settled_under : (Δ : Env) (scoped : IsScopedEnv Δ) (from : ℕ) (s : ℕ → Tree) → AreSettled Δ from s → AreSettled Δ from (up s)
unfolding AreSettled
settled_under Δ scoped from s h zero = variable
settled_under Δ scoped from s h (suc i) = unfolded_ren scoped next (h i)

in_place_settled : {Δ : Env} {from : ℕ} {us vs : Trees} → UnfoldedEach Δ from us vs → (i : ℕ) → Unfolded Δ from (in_place vs i) (in_place vs i)
in_place_settled none i = variable
in_place_settled (more ps p) zero = settled p
in_place_settled (more ps p) (suc i) = in_place_settled ps i

-- unfolded arguments put in
unfolded_put : {Δ : Env} (scoped : IsScopedEnv Δ) {from : ℕ} {t u : Tree} {us vs : Trees} → Unfolded Δ from t u → UnfoldedEach Δ from us vs →
    Unfolded Δ from (put t vs) (put u vs)
unfolding AreSettled
unfolded_put {Δ} scoped {from} {t} {u} {vs = vs} p ps =
    subst₂ (Unfolded Δ from) (sym (put_as_sub t vs)) (sym (put_as_sub u vs))
    (unfolded_goes Δ scoped from (AreSettled Δ from) (λ s h. h) (settled_under Δ scoped from) (in_place vs) p (in_place_settled ps))

abbrev HasUnfolding : Env → ℕ → Tree → Type 0
HasUnfolding Δ from t = (u : Tree) × Unfolded Δ from t u

-- a tree whose instances are all of entries whose bodies have full unfoldings
module _ (Δ : Env) (scoped : IsScopedEnv Δ) (ordered : IsOrdered Δ) (from : ℕ) (P : ℕ → Type 0)
    (below : (k : ℕ) → P k → (r : Tree) → NamesOnly (λ j. j < k) r → HasUnfolding Δ from r) where
  instance_unfolds : (k : ℕ) (us vs : Trees) → P k → UnfoldedEach Δ from us vs → (k < from) ⊎ (from ≤ k) →
      Redex Δ k (count us) ⊎ HasNoUnfolding Δ k us → HasUnfolding Δ from (Const k us)
  instance_unfolds k us vs h ps (inl lt) d = (Const k vs, kept (inl lt) ps)
  instance_unfolds k us vs h ps (inr ge) (inr shut) = (Const k vs, kept (inr shut) ps)
  instance_unfolds k us vs h ps (inr ge) (inl r) =
      let w = below k h r.tree (ordered k r.entry r.tree r.at r.unfolds) in
      (put w.0 vs, opened ge r.at r.unfolds r.fits ps (unfolded_put scoped w.1 ps))

  mutual
    tree_unfolds : (t : Tree) → NamesOnly P t → HasUnfolding Δ from t
    tree_unfolds Star c = (Star, star)
    tree_unfolds Box c = (Box, box)
    tree_unfolds (Var i) c = (Var i, variable)
    tree_unfolds (App f u) c = let p = tree_unfolds f c.0 in let q = tree_unfolds u c.1 in (App p.0 q.0, application p.1 q.1)
    tree_unfolds (Lam a m) c = let p = tree_unfolds a c.0 in let q = tree_unfolds m c.1 in (Lam p.0 q.0, abstraction p.1 q.1)
    tree_unfolds (Pi a b) c = let p = tree_unfolds a c.0 in let q = tree_unfolds b c.1 in (Pi p.0 q.0, product p.1 q.1)
    tree_unfolds (Const k us) c = let p = trees_unfold us c.1 in instance_unfolds k us p.0 c.0 p.1 (cases_lt k from) (redex_or_none Δ k us)

    trees_unfold : (us : Trees) → AllNameOnly P us → (vs : Trees) × UnfoldedEach Δ from us vs
    trees_unfold Nil c = (Nil, none)
    trees_unfold (us ▸ u) c = let p = trees_unfold us c.0 in let q = tree_unfolds u c.1 in (p.0 ▸ q.0, more p.1 q.1)

-- a body that names only entries below k, for each k up to a bound
body_unfolds : (Δ : Env) → IsScopedEnv Δ → IsOrdered Δ → (from n k : ℕ) → k < n → (t : Tree) → NamesOnly (λ j. j < k) t → HasUnfolding Δ from t
body_unfolds Δ scoped ordered from zero k lt t c = absurd (omega arith)
body_unfolds Δ scoped ordered from (suc n) k lt t c =
    tree_unfolds Δ scoped ordered from (λ j. j < k) (λ j l r d. body_unfolds Δ scoped ordered from n j (omega arith) r d) t c

mutual
  names_any : (t : Tree) → NamesOnly (λ k. ⊤) t
  names_any Star = tt
  names_any Box = tt
  names_any (Var i) = tt
  names_any (App f u) = (names_any f, names_any u)
  names_any (Lam a m) = (names_any a, names_any m)
  names_any (Pi a b) = (names_any a, names_any b)
  names_any (Const k us) = (tt, all_name_any us)

  all_name_any : (us : Trees) → AllNameOnly (λ k. ⊤) us
  all_name_any Nil = tt
  all_name_any (us ▸ u) = (all_name_any us, names_any u)

pub unfolding_defined : UnfoldingDefined
unfolding_defined Δ scoped ordered from t =
    tree_unfolds Δ scoped ordered from (λ k. ⊤) (λ k h r c. body_unfolds Δ scoped ordered from (suc k) k (omega arith) r c) t (names_any t)
