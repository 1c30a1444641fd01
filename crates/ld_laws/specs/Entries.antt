-- What an entry unfolds to, and what a legal environment is.
use Rattle.std.specs.Prelude.{ℕ, ◌≡◌, ◌<◌, length, take, ◌++◌, slice_get, ⊤}
use Rattle.ld_terms.specs.Tree.{Tree, Star, Box, Var, App, Lam, Pi, Const, Trees, Nil, ◌▸◌, count}
use Rattle.ld_terms.specs.Entry.{Env, EntryAt, Entry, UnfoldsTo, IsScoped, IsScopedEnv}
use Rattle.ld_terms.specs.Derivable.{◌⨾◌⊢◌∶◌, IsLegal}

-- an entry unfolds to at most one tree
abbrev pub UnfoldsOnce : Type 0
UnfoldsOnce = (e : Entry) (t u : Tree) → UnfoldsTo e.body t → UnfoldsTo e.body u → t ≡ u

-- in a scoped environment that tree has only the entry's parameters free
abbrev pub UnfoldsScoped : Type 0
UnfoldsScoped = (Δ : Env) → IsScopedEnv Δ → (k : ℕ) (e : Entry) (t : Tree) → EntryAt Δ k e → UnfoldsTo e.body t → IsScoped t (count e.params)

-- in a legal environment that tree has the entry's type, under the entry's parameters, over the entries before it
abbrev pub UnfoldsTyped : Type 0
UnfoldsTyped = (Δ : Env) → IsLegal Δ → (k : ℕ) (e : Entry) (t : Tree) → EntryAt Δ k e → UnfoldsTo e.body t → take k Δ ⨾ e.params ⊢ t ∶ e.type

-- more entries at the end change nothing in the earlier entries, nor then in what these unfold to
abbrev pub UnfoldsKept : Type 0
UnfoldsKept = (Δ more : Env) (k : ℕ) → k < length Δ → slice_get (Δ ++ more) k ≡ slice_get Δ k

-- a legal environment is scoped
abbrev pub LegalScoped : Type 0
LegalScoped = (Δ : Env) → IsLegal Δ → IsScopedEnv Δ

-- each instance in the tree is of an entry with such a number
abbrev mutual
  pub NamesOnly : (ℕ → Type 0) → Tree → Type 0
  NamesOnly P Star = ⊤
  NamesOnly P Box = ⊤
  NamesOnly P (Var i) = ⊤
  NamesOnly P (App f u) = NamesOnly P f × NamesOnly P u
  NamesOnly P (Lam A M) = NamesOnly P A × NamesOnly P M
  NamesOnly P (Pi A B) = NamesOnly P A × NamesOnly P B
  NamesOnly P (Const k us) = P k × AllNameOnly P us

  pub AllNameOnly : (ℕ → Type 0) → Trees → Type 0
  AllNameOnly P Nil = ⊤
  AllNameOnly P (us ▸ u) = AllNameOnly P us × NamesOnly P u

-- what an entry unfolds to names only entries before it
abbrev pub IsOrdered : Env → Type 0
IsOrdered Δ = (k : ℕ) (e : Entry) (t : Tree) → EntryAt Δ k e → UnfoldsTo e.body t → NamesOnly (λ j. j < k) t

-- a legal environment is ordered
abbrev pub LegalOrdered : Type 0
LegalOrdered = (Δ : Env) → IsLegal Δ → IsOrdered Δ
