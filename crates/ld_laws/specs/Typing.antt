-- What a judgement says of its term and its type: generation, type correctness, subject reduction, uniqueness.
use Rattle.std.specs.Prelude.{ℕ, suc, ◌≡◌, ◌⊎◌}
use Rattle.ld_terms.specs.Tree.{Tree, Star, Box, Var, App, Lam, Pi, Const, Trees, Nil, ◌▸◌}
use Rattle.ld_terms.specs.Put.{lift, put}
use Rattle.ld_terms.specs.Entry.{Env, EntryAt, Entry}
use Rattle.ld_terms.specs.Step.{Step, Converts}
use Rattle.ld_terms.specs.Derivable.{IsSort, ◌⨾◌⊢◌∶◌, ◌⨾◌⊢◌∶∶◌}

-- the type of a variable in a context, lifted into the whole context
pub data At : Trees → ℕ → Tree → Type 0 where
  here : {Γ : Trees} {A : Tree} → At (Γ ▸ A) 0 (lift A 1 0)
  there : {Γ : Trees} {A B : Tree} {i : ℕ} → At Γ i B → At (Γ ▸ A) (suc i) (lift B 1 0)

-- a sort is a type of the tree
pub record HasSort (Δ : Env) (Γ : Trees) (A : Tree) : Type 0 where
  pub of : Tree
  pub is_sort : IsSort of
  pub typed : Δ ⨾ Γ ⊢ A ∶ of

-- N is convertible with the variable's type in the context
pub record FromVariable (Δ : Env) (Γ : Trees) (i : ℕ) (N : Tree) : Type 0 where
  pub type : Tree
  pub at : At Γ i type
  pub converts : Converts Δ type N

-- A has a sort, B has a sort under x:A, and N is convertible with the latter
pub record FromProduct (Δ : Env) (Γ : Trees) (A B N : Tree) : Type 0 where
  pub domain : HasSort Δ Γ A
  pub range : HasSort Δ (Γ ▸ A) B
  pub converts : Converts Δ range.of N

-- the body has a type under x:A, the product of A and that type has a sort, and N is convertible with this product
pub record FromAbstraction (Δ : Env) (Γ : Trees) (A M N : Tree) : Type 0 where
  pub range : Tree
  pub body : Δ ⨾ Γ ▸ A ⊢ M ∶ range
  pub product : HasSort Δ Γ (Pi A range)
  pub converts : Converts Δ (Pi A range) N

-- f has a product as its type, u has the domain, and N is convertible with the range, with u put in
pub record FromApplication (Δ : Env) (Γ : Trees) (f u N : Tree) : Type 0 where
  pub domain : Tree
  pub range : Tree
  pub function : Δ ⨾ Γ ⊢ f ∶ Pi domain range
  pub argument : Δ ⨾ Γ ⊢ u ∶ domain
  pub converts : Converts Δ (put range (Nil ▸ u)) N

-- each argument has its parameter's type with the earlier ones put in, and N is convertible with the entry's type with all put in
pub record FromInstance (Δ : Env) (Γ : Trees) (k : ℕ) (us : Trees) (N : Tree) : Type 0 where
  pub entry : Entry
  pub at : EntryAt Δ k entry
  pub arguments : Δ ⨾ Γ ⊢ us ∶∶ entry.params
  pub converts : Converts Δ (put entry.type us) N

-- what a judgement comes from, by the form of its term
abbrev pub Generated : Env → Trees → Tree → Tree → Type 0
Generated Δ Γ Star N = N ≡ Box
Generated Δ Γ Box N = ⊥
Generated Δ Γ (Var i) N = FromVariable Δ Γ i N
Generated Δ Γ (App f u) N = FromApplication Δ Γ f u N
Generated Δ Γ (Lam A M) N = FromAbstraction Δ Γ A M N
Generated Δ Γ (Pi A B) N = FromProduct Δ Γ A B N
Generated Δ Γ (Const k us) N = FromInstance Δ Γ k us N

-- generation: a judgement comes from judgements on the parts of its term
abbrev pub Generation : Type 0
Generation = (Δ : Env) (Γ : Trees) (M N : Tree) → Δ ⨾ Γ ⊢ M ∶ N → Generated Δ Γ M N

-- type correctness: a type is `box` or has a sort
abbrev pub TypeCorrectness : Type 0
TypeCorrectness = (Δ : Env) (Γ : Trees) (M N : Tree) → Δ ⨾ Γ ⊢ M ∶ N → (N ≡ Box) ⊎ HasSort Δ Γ N

-- `box` has no type
abbrev pub BoxUntyped : Type 0
BoxUntyped = (Δ : Env) (Γ : Trees) (N : Tree) → Δ ⨾ Γ ⊢ Box ∶ N → ⊥

-- subject reduction: a step keeps the type
abbrev pub SubjectReduction : Type 0
SubjectReduction = (Δ : Env) (Γ : Trees) (M M' N : Tree) → Δ ⨾ Γ ⊢ M ∶ N → Step Δ M M' → Δ ⨾ Γ ⊢ M' ∶ N

-- uniqueness: two types of one term are convertible
abbrev pub Uniqueness : Type 0
Uniqueness = (Δ : Env) (Γ : Trees) (M N N' : Tree) → Δ ⨾ Γ ⊢ M ∶ N → Δ ⨾ Γ ⊢ M ∶ N' → Converts Δ N N'
