-- The first fault of bytes that are no derivation file.
use Rattle.std.specs.Prelude.{◌≡◌, ◌≢◌, ℕ, List, [], ◌∷◌, ◌++◌, length}
use Rattle.ld_terms.specs.Record.{Record, HasSpelling, IsThere, Meets, Stand, Stands, start, final}
use Rattle.dr_text.specs.Spelling.{spelling}
use Rattle.dr_text.specs.Read.{HasHeader, BeginsNoRecord}
use Rattle.dr_text.specs.declared.reader.RecordFault.{RecordFault}
use Rattle.dr_text.specs.declared.reader.RecordFault.TheVariants.{Malformed, Unfinished, BadRef, BadStep}

-- The header isn't there; or behind records that each stand over those before them there are bytes that spell none; or bytes
-- behind the end record; or no end record; or a record that names what isn't there, or that doesn't meet its condition.
pub data IsFirstFault (bytes : List ℕ) : RecordFault → Type 0 where
  headless : (HasHeader bytes → ⊥) → IsFirstFault bytes (Malformed 0)
  misspelled : (rs : List Record) (rest : List ℕ) → bytes ≡ spelling rs ++ rest → Stand start rs → rest ≢ [] → BeginsNoRecord rest →
      IsFirstFault bytes (Malformed (length (spelling rs)))
  overlong : (rs : List Record) (n : ℕ) (rest : List ℕ) → bytes ≡ spelling (rs ++ Record.End n ∷ []) ++ rest → Stand start rs →
      Stands (final start rs) (Record.End n) → rest ≢ [] → IsFirstFault bytes (Malformed (length (spelling (rs ++ Record.End n ∷ []))))
  unfinished : (rs : List Record) → bytes ≡ spelling rs → Stand start rs → IsFirstFault bytes Unfinished
  reference : (rs : List Record) (r : Record) (rest : List ℕ) → bytes ≡ spelling (rs ++ r ∷ []) ++ rest → Stand start rs → HasSpelling r →
      (IsThere (final start rs) r → ⊥) → IsFirstFault bytes (BadRef (length rs))
  step : (rs : List Record) (r : Record) (rest : List ℕ) → bytes ≡ spelling (rs ++ r ∷ []) ++ rest → Stand start rs → HasSpelling r →
      IsThere (final start rs) r → (Meets (final start rs) r → ⊥) → IsFirstFault bytes (BadStep (length rs))
