-- Each judgement of a derivation is derivable and names only entries that are there, each equality holds by β and δ, and the
-- environment of a derivation that is ended is legal.
use Rattle.std.specs.Prelude.{ℕ, ◌<◌, ◌≤◌, List, length, take}
use Rattle.ld_terms.specs.Entry.{Env}
use Rattle.ld_terms.specs.Step.{Converts}
use Rattle.ld_terms.specs.Derivable.{◌⨾◌⊢◌∶◌, IsLegal}
use Rattle.ld_terms.specs.Item.{Item}
use Rattle.ld_terms.specs.Known.{Known, Equality, Judgement, equality_at, judgement_at, MayEnd}
use Rattle.ld_terms.specs.Named.{IsNamed}
use Rattle.ld_terms.specs.Record.{Record, start, final, Stand}
use Rattle.ld_record.specs.declared.record.Kept.{Kept}
use Rattle.ld_record.specs.Kept.{known_of, IsSound}

-- the environment has as many entries as the judgement says, and over the first of them, so many, it is derivable
pub record IsDerivableIn (env : Env) (j : Judgement) : Type 0 where
  pub within : j.entries ≤ length env
  pub derivable : take j.entries env ⨾ j.context ⊢ j.term ∶ j.type

-- each judgement that is known is derivable
abbrev pub AreDerivable : Known → Type 0
AreDerivable known = (n : ℕ) → n < length known.nodes → IsDerivableIn known.env (judgement_at known n)

-- The environment has as many entries as the equality's bound says. The two sides are convertible over the first of them, so
-- many, and over all.
pub record IsConvertibleIn (env : Env) (e : Equality) : Type 0 where
  pub within : e.bound ≤ length env
  pub below_bound : Converts (take e.bound env) e.left e.right
  pub over_all : Converts env e.left e.right

-- each equality that is known holds by β and δ
abbrev pub EqualitiesHold : Known → Type 0
EqualitiesHold known = (e : ℕ) → e < length known.equalities → IsConvertibleIn known.env (equality_at known e)

-- the nodes of records that stand one after another are derivable
abbrev pub NodesAreDerivable : Type 0
NodesAreDerivable = (rs : List Record) → Stand start rs → AreDerivable (final start rs).known

-- the sides of the equalities of such records are convertible
abbrev pub EqualitiesAreConvertible : Type 0
EqualitiesAreConvertible = (rs : List Record) → Stand start rs → EqualitiesHold (final start rs).known

-- where such records may be ended, their environment is legal
abbrev pub EnvironmentIsLegal : Type 0
EnvironmentIsLegal = (rs : List Record) → Stand start rs → (n : ℕ) → MayEnd (final start rs).known n → IsLegal (final start rs).known.env

-- the judgements of kept records are derivable
abbrev pub KeptNodesAreDerivable : Type 0
KeptNodesAreDerivable = (items : List Item) (kept : List Kept) → IsSound items kept → AreDerivable (known_of items kept)

-- the sides of the equalities of kept records are convertible
abbrev pub KeptEqualitiesAreConvertible : Type 0
KeptEqualitiesAreConvertible = (items : List Item) (kept : List Kept) → IsSound items kept → EqualitiesHold (known_of items kept)

-- a term and its type name only entries of the environment, with as many arguments as parameters
abbrev pub IsNamedIn : Env → Judgement → Type 0
IsNamedIn env j = IsNamed env j.term × IsNamed env j.type

-- the judgements of kept records are so, over all their entries
abbrev pub KeptTermsAreNamed : Type 0
KeptTermsAreNamed = (items : List Item) (kept : List Kept) → IsSound items kept → (n : ℕ) → n < length (known_of items kept).nodes →
    IsNamedIn (known_of items kept).env (judgement_at (known_of items kept) n)
