-- Entries under their names.
use Rattle.std.specs.Prelude.{ℕ, ◌≡◌, List, map, Some, slice_get}
use Rattle.std.specs.Global.{Vec}
use Rattle.ld_env.specs.declared.env.Entry.{Entry}

pub record Named : Type 0 where
  pub name : List ℕ
  pub entry : Entry

abbrev pub named : List ℕ → Entry → Named
named name entry = record { name = name; entry = entry }

-- the named entries of the pairs that a map keeps
abbrev pub named_of : List (Vec ℕ × Entry) → List Named
named_of = map (λ p. named p.0.items p.1)

abbrev pub names_of : List Named → List (List ℕ)
names_of = map (λ n. n.name)

abbrev pub entries_of : List Named → List Entry
entries_of = map (λ n. n.entry)

-- no two entries have one name
abbrev pub AreNamesDistinct : List Named → Type 0
AreNamesDistinct env = (i j : ℕ) (name : List ℕ) → slice_get (names_of env) i ≡ Some name → slice_get (names_of env) j ≡ Some name → i ≡ j
