-- Rigid trees, and what a step and conversion leave of their heads.
--
-- The head of a tree is what stands there under all applications, and its spine is what it is applied to. A tree is in
-- β-head form where its head is no abstraction, or its spine is empty. It is rigid where it is in β-head form and its
-- head is no defined constant: no instance that unfolds.
use Rattle.std.specs.Prelude.{ℕ, ◌≡◌, ⊤}
use Rattle.ld_terms.specs.Tree.{Tree, Star, Box, Var, App, Lam, Pi, Const, Trees, Nil, ◌▸◌, count}
use Rattle.ld_terms.specs.Entry.{Env, EntryAt, Entry, UnfoldsTo, IsScopedEnv}
use Rattle.ld_terms.specs.Step.{Step, Converts}

-- an instance of an entry that unfolds to nothing, of one with another number of parameters, or of none
abbrev pub HasNoUnfolding : Env → ℕ → (us : Trees) → Type 0
HasNoUnfolding Δ k us = (e : Entry) (t : Tree) → EntryAt Δ k e → UnfoldsTo e.body t → count us ≡ count e.params → ⊥

-- the head is no abstraction and no defined constant
abbrev pub HasFixedHead : Env → Tree → Type 0
HasFixedHead Δ Star = ⊤
HasFixedHead Δ Box = ⊤
HasFixedHead Δ (Var i) = ⊤
HasFixedHead Δ (App f u) = HasFixedHead Δ f
HasFixedHead Δ (Lam A M) = ⊥
HasFixedHead Δ (Pi A B) = ⊤
HasFixedHead Δ (Const k us) = HasNoUnfolding Δ k us

-- in β-head form, with a head that is no defined constant; an abstraction is so where it is applied to nothing
abbrev pub IsRigid : Env → Tree → Type 0
IsRigid Δ Star = ⊤
IsRigid Δ Box = ⊤
IsRigid Δ (Var i) = ⊤
IsRigid Δ (App f u) = HasFixedHead Δ f
IsRigid Δ (Lam A M) = ⊤
IsRigid Δ (Pi A B) = ⊤
IsRigid Δ (Const k us) = HasNoUnfolding Δ k us

-- lists of one length, each tree convertible with the one at its place
pub data ConvertsEach (Δ : Env) : Trees → Trees → Type 0 where
  none : ConvertsEach Δ Nil Nil
  more : {us vs : Trees} {u v : Tree} → ConvertsEach Δ us vs → Converts Δ u v → ConvertsEach Δ (us ▸ u) (vs ▸ v)

-- alike heads with convertible parts, and spines of one length with convertible parts
pub data Alike (Δ : Env) : Tree → Tree → Type 0 where
  star : Alike Δ Star Star
  box : Alike Δ Box Box
  variable : {i : ℕ} → Alike Δ (Var i) (Var i)
  abstraction : {A B M N : Tree} → Converts Δ A B → Converts Δ M N → Alike Δ (Lam A M) (Lam B N)
  product : {A B C D : Tree} → Converts Δ A C → Converts Δ B D → Alike Δ (Pi A B) (Pi C D)
  instance_of : {k : ℕ} {us vs : Trees} → ConvertsEach Δ us vs → Alike Δ (Const k us) (Const k vs)
  applied : {f g u v : Tree} → Alike Δ f g → Converts Δ u v → Alike Δ (App f u) (App g v)

-- a step from a rigid tree leads to a rigid tree with a head of the same form and a spine of the same length
abbrev pub HeadsKept : Type 0
HeadsKept = (Δ : Env) (t u : Tree) → IsRigid Δ t → Step Δ t u → IsRigid Δ u × Alike Δ t u

-- convertible rigid trees have alike heads, spines of one length, and convertible parts
abbrev pub HeadsAlike : Type 0
HeadsAlike = (Δ : Env) → IsScopedEnv Δ → (t u : Tree) → IsRigid Δ t → IsRigid Δ u → Converts Δ t u → Alike Δ t u
