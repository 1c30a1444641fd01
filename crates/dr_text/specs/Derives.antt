-- Which bytes are a derivation file, and of what.
use Rattle.std.specs.Prelude.{◌≡◌, ℕ, List, [], ◌∷◌, ◌++◌}
use Rattle.ld_terms.specs.Entry.{Env}
use Rattle.ld_terms.specs.Known.{Note}
use Rattle.ld_terms.specs.Record.{Record, start, final, Stand, Stands}
use Rattle.dr_text.specs.Spelling.{spelling}

-- The bytes are a derivation of the environment, with these notes.
pub record Derives (bytes : List ℕ) (entries : Env) (kept : List Note) : Type 0 where
  pub listed : List Record
  pub last : ℕ
  pub spelled : bytes ≡ spelling (listed ++ Record.End last ∷ [])
  pub stand : Stand start listed
  pub end : Stands (final start listed) (Record.End last)
  pub env : (final start listed).known.env ≡ entries
  pub notes : (final start listed).known.notes ≡ kept
