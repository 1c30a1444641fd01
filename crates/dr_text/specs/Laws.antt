-- The bytes of a derivation file are read one way.
use Rattle.std.specs.Prelude.{◌≡◌, ℕ, List, ◌++◌}
use Rattle.ld_terms.specs.Entry.{Env}
use Rattle.ld_terms.specs.Derivable.{IsLegal}
use Rattle.ld_terms.specs.Known.{Note}
use Rattle.ld_terms.specs.Record.{Record}
use Rattle.dr_text.specs.Number.{number}
use Rattle.dr_text.specs.Spelling.{record_bytes, spelling}
use Rattle.dr_text.specs.Read.{IsRecordAt, parts_of}
use Rattle.dr_text.specs.Derives.{Derives}

-- two numbers whose spellings begin the same bytes are one, and so are the bytes behind them
abbrev pub OneNumber : Type 0
OneNumber = (n m : ℕ) (rest rest' : List ℕ) → number n ++ rest ≡ number m ++ rest' → (n ≡ m) × (rest ≡ rest')

-- no record's spelling begins that of another
abbrev pub OneSpelling : Type 0
OneSpelling = (r q : Record) (rest rest' : List ℕ) → record_bytes r ++ rest ≡ record_bytes q ++ rest' → (r ≡ q) × (rest ≡ rest')

-- one record stands at a place
abbrev pub OneRecord : Type 0
OneRecord = (bytes : List ℕ) (at : ℕ) (r q : Record) → IsRecordAt bytes at r → IsRecordAt bytes at q → r ≡ q

-- a record is told by its tag, its numbers and its name
abbrev pub OneOfParts : Type 0
OneOfParts = (r q : Record) → parts_of r ≡ parts_of q → r ≡ q

-- the bytes of a file spell one list of records
abbrev pub OneList : Type 0
OneList = (rs qs : List Record) → spelling rs ≡ spelling qs → rs ≡ qs

-- and are a derivation of one environment, with one list of notes
abbrev pub OneEnvironment : Type 0
OneEnvironment = (bytes : List ℕ) (entries entries' : Env) (kept kept' : List Note) → Derives bytes entries kept → Derives bytes entries' kept'
    → (entries ≡ entries') × (kept ≡ kept')

-- the environment that a file derives is legal
abbrev pub DerivedIsLegal : Type 0
DerivedIsLegal = (bytes : List ℕ) (entries : Env) (kept : List Note) → Derives bytes entries kept → IsLegal entries
