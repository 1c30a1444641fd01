-- The entries of a legal environment: how each was made over the entries before it, and what it unfolds to.
use Rattle.std.proofs.Common.{ap, arith, length, refl, subst, suc, sym, take, zero, ℕ, ◌≡◌, ◌∷◌, ◌++◌, ◌∙◌, []}
use mathlib.Core.Logic.{inl, inr}
use mathlib.Core.Path.{subst₂}
use Rattle.ld_terms.specs.Derivable.{IsSort, abst, appl, conv, def, def_prim, form, inst, inst_prim, sort, var, weak, ◌⨾◌⊢◌∶◌}
use Rattle.ld_terms.specs.Entry.{Body, Entry, EntryAt, Env, HasBody, Primitive, UnfoldsTo, defined, unfolds}
use Rattle.ld_terms.specs.Tree.{Tree, Trees}
use Rattle.ld_laws.specs.Entries.{LegalScoped, UnfoldsKept, UnfoldsScoped, UnfoldsTyped}
use Rattle.ld_laws.proofs.Decisions.{unfolds_body}
use Rattle.ld_laws.proofs.Scoping.{entry_of_more, scopes}

-- how an entry was made, over an environment
pub data MadeOver (Δ : Env) : Entry → Type 0 where
  with_body : {e : Entry} {m : Tree} → HasBody e.body m → Δ ⨾ e.params ⊢ m ∶ e.type → MadeOver Δ e
  primitive : {e : Entry} {s : Tree} → IsSort s → e.body ≡ Primitive → Δ ⨾ e.params ⊢ e.type ∶ s → MadeOver Δ e

-- the entries before one, in an extended environment
take_before : (Δ : Env) (d : Entry) (k : ℕ) (e : Entry) → EntryAt Δ k e → take k Δ ≡ take k (Δ ++ (d ∷ []))
take_before [] d k e h = absurd (cc)
take_before (x ∷ Δ) d zero e h = refl
take_before (x ∷ Δ) d (suc k) e h = ap (λ l. x ∷ l) (take_before Δ d k e h)

take_all : (Δ : Env) (d : Entry) → Δ ≡ take (length Δ) (Δ ++ (d ∷ []))
take_all [] d = refl
take_all (x ∷ Δ) d = ap (λ l. x ∷ l) (take_all Δ d)

pub take_extends : (Δ : Env) (n k : ℕ) (e : Entry) → EntryAt (take n Δ) k e → EntryAt Δ k e
take_extends [] zero k e h = h
take_extends [] (suc n) k e h = h
take_extends (x ∷ Δ) zero k e h = absurd (cc)
take_extends (x ∷ Δ) (suc n) zero e h = h
take_extends (x ∷ Δ) (suc n) (suc k) e h = take_extends Δ n k e h

-- what holds of each entry over the entries before it
module _ (Holds : Env → Entry → Type 0) where
  abbrev pub HoldsOfEach : Env → Type 0
  HoldsOfEach Δ = (k : ℕ) (e : Entry) → EntryAt Δ k e → Holds (take k Δ) e

  pub holds_none : HoldsOfEach []
  holds_none k e h = absurd (cc)

  pub holds_more : (Δ : Env) (d : Entry) → HoldsOfEach Δ → Holds Δ d → HoldsOfEach (Δ ++ (d ∷ []))
  holds_more Δ d h g k e at =
      elim (entry_of_more Δ d k e at) [
        | inl l ↦ subst (λ x. Holds x e) (take_before Δ d k e l) (h k e l)
        | inr r ↦ subst₂ Holds (take_all Δ d ∙ ap (λ j. take j (Δ ++ (d ∷ []))) (sym r.0)) r.1 g
      ]

-- each entry of a judgement's environment was made over the entries before it
pub made_over : {Δ : Env} {Γ : Trees} {m n : Tree} → Δ ⨾ Γ ⊢ m ∶ n → HoldsOfEach MadeOver Δ
made_over sort = holds_none MadeOver
made_over (var h d) = made_over d
made_over (weak h d e) = made_over d
made_over (form h g d e) = made_over d
made_over (appl d e) = made_over d
made_over (abst h d e) = made_over e
made_over (conv h c d e) = made_over d
made_over (def h f d e) = holds_more MadeOver _ _ (made_over d) (with_body h e)
made_over (def_prim h p f d e) = holds_more MadeOver _ _ (made_over d) (primitive h p e)
made_over (inst at b d args) = made_over d
made_over (inst_prim at b d args) = made_over d

-- an entry has one body
body_once : {b : Body} {t u : Tree} → HasBody b t → UnfoldsTo b u → t ≡ u
body_once defined unfolds = refl

primitive_shut : {b : Body} {t : Tree} → b ≡ Primitive → UnfoldsTo b t → ⊥
primitive_shut e unfolds = cc

pub body_typed : {Δ : Env} {e : Entry} {t : Tree} → MadeOver Δ e → UnfoldsTo e.body t → Δ ⨾ e.params ⊢ t ∶ e.type
body_typed {Δ} {e} (with_body b d) u = subst (λ x. Δ ⨾ e.params ⊢ x ∶ e.type) (body_once b u) d
body_typed (primitive h p d) u = absurd (primitive_shut p u)

-- what an entry unfolds to has its type
pub unfolds_typed : UnfoldsTyped
unfolds_typed Δ legal k e t at un = body_typed (made_over legal k _ at) un

pub unfolds_scoped : UnfoldsScoped
unfolds_scoped Δ scoped k e t at un = (scoped k e at).body t (unfolds_body un)

pub unfolds_kept : UnfoldsKept
unfolds_kept [] more k lt = absurd (omega arith)
unfolds_kept (x ∷ Δ) more zero lt = refl
unfolds_kept (x ∷ Δ) more (suc k) lt = unfolds_kept Δ more k (omega arith)

pub legal_scoped : LegalScoped
legal_scoped Δ d = (scopes d).of_env
