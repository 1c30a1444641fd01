-- What is read of a derivation file: numbers, and a record at a place.
use Rattle.std.specs.Prelude.{◌≡◌, ◌<◌, ◌+◌, ◌-◌, ◌*◌, ◌^◌, ◌⊎◌, Bool, true, false, ℕ, List, [], ◌∷◌, ◌++◌, length, drop, nat_lt, if◌then◌else◌, Option, Some, None, Result, Ok, Err}
use Rattle.std.specs.List.{AllByRecursion}
use Rattle.ld_terms.specs.Record.{Record, numbers, name_of, HasSpelling}
use Rattle.dr_text.specs.Number.{number}
use Rattle.dr_text.specs.Spelling.{tag, numbers_bytes, record_bytes, header}
use Rattle.dr_text.specs.declared.reader.RecordFault.{RecordFault}
use Rattle.dr_text.specs.declared.reader.RecordFault.TheVariants.{Malformed, Unfinished}

-- Numbers.

-- no number below 2 ^ 64 is spelled at the front
abbrev pub BeginsNoNumber : List ℕ → Type 0
BeginsNoNumber bytes = (n : ℕ) (rest : List ℕ) → n < 2 ^ 64 → bytes ≡ number n ++ rest → ⊥

-- The bytes at the front spell the high bits of a number, which aren't all 0; the low ones are given.
pub record GoesOn (low scale : ℕ) (bytes : List ℕ) (n : ℕ) (rest : List ℕ) : Type 0 where
  pub high : ℕ
  pub positive : 0 < high
  pub value : n ≡ low + scale * high
  pub is : bytes ≡ number high ++ rest

-- no number below 2 ^ 64 goes on so
abbrev pub GoesOnNowhere : (low scale : ℕ) → List ℕ → Type 0
GoesOnNowhere low scale bytes = (n : ℕ) (rest : List ℕ) → n < 2 ^ 64 → GoesOn low scale bytes n rest → ⊥

-- these numbers are spelled at the front
pub record BeginsWith (bytes ns rest : List ℕ) : Type 0 where
  pub small : AllByRecursion (λ n. n < 2 ^ 64) ns
  pub is : bytes ≡ numbers_bytes ns ++ rest

-- the front spells so many numbers, and the rest follows
pub record Spells (count : ℕ) (bytes front rest : List ℕ) : Type 0 where
  pub ns : List ℕ
  pub so_many : length ns ≡ count
  pub begins : BeginsWith bytes ns rest
  pub spelled : front ≡ numbers_bytes ns

-- so many numbers aren't there
abbrev pub BeginsTooFew : ℕ → List ℕ → Type 0
BeginsTooFew count bytes = (ns rest : List ℕ) → length ns ≡ count → BeginsWith bytes ns rest → ⊥

-- the bytes spell some numbers, and no more
pub record AreSpelled (bytes : List ℕ) : Type 0 where
  pub ns : List ℕ
  pub small : AllByRecursion (λ n. n < 2 ^ 64) ns
  pub is : bytes ≡ numbers_bytes ns

-- the numbers that bytes spell, the first behind bytes that gave its low bits
abbrev pub numbers_from : (low scale : ℕ) → List ℕ → List ℕ
numbers_from low scale [] = []
numbers_from low scale (b ∷ bytes) =
    if nat_lt b 128 then (low + scale * b) ∷ numbers_from 0 1 bytes
    else numbers_from (low + scale * (b - 128)) (scale * 128) bytes

unfoldable pub numbers_in : List ℕ → List ℕ
numbers_in bytes = numbers_from 0 1 bytes

-- Records.

-- a record as it is read: its tag, its numbers with counts and lengths, and its name
pub record Parts : Type 0 where
  pub tag : ℕ
  pub numbers : List ℕ
  pub name : List ℕ

abbrev pub parts_of : Record → Parts
parts_of r = record { tag = tag r; numbers = numbers r; name = name_of r }

-- a record as it is read stands at the front
pub record FrontRecord (bytes : List ℕ) (read : Parts) (rest : List ℕ) : Type 0 where
  pub it : Record
  pub is : bytes ≡ record_bytes it ++ rest
  pub spelling : HasSpelling it
  pub gives : read ≡ parts_of it

-- no record stands at the front
abbrev pub BeginsNoRecord : List ℕ → Type 0
BeginsNoRecord bytes = (r : Record) (rest : List ℕ) → HasSpelling r → bytes ≡ record_bytes r ++ rest → ⊥

-- at the place stands the spelling of this record
pub record IsRecordAt (bytes : List ℕ) (at : ℕ) (r : Record) : Type 0 where
  pub rest : List ℕ
  pub is : drop at bytes ≡ record_bytes r ++ rest
  pub spelling : HasSpelling r

abbrev pub IsNoRecordAt : List ℕ → ℕ → Type 0
IsNoRecordAt bytes at = (r : Record) → IsRecordAt bytes at r → ⊥

-- a file that is read up to a place, and whether an end record was read
pub record Reading : Type 0 where
  pub bytes : List ℕ
  pub at : ℕ
  pub ended : Bool

abbrev pub is_end : Record → Bool
is_end (Record.End n) = true
is_end _ = false

-- the record at the place is read
pub record Reads (old new : Reading) (read : Parts) : Type 0 where
  pub it : Record
  pub there : IsRecordAt old.bytes old.at it
  pub gives : read ≡ parts_of it
  pub more : old.ended ≡ false
  pub next : new ≡ record { bytes = old.bytes; at = old.at + length (record_bytes it); ended = is_end it }

-- no bytes are left
abbrev pub IsAtEnd : Reading → Type 0
IsAtEnd reading = drop reading.at reading.bytes ≡ []

-- what is answered for the next record
abbrev pub Answers : (old new : Reading) → Result (Option Parts) RecordFault → Type 0
Answers old new (Ok (Some read)) = Reads old new read
Answers old new (Ok None) = IsAtEnd old × (old.ended ≡ true) × (new ≡ old)
Answers old new (Err (Malformed at)) =
    (at ≡ old.at) × (old.at < length old.bytes) × ((old.ended ≡ true) ⊎ IsNoRecordAt old.bytes old.at) × (new ≡ old)
Answers old new (Err Unfinished) = IsAtEnd old × (old.ended ≡ false) × (new ≡ old)
Answers old new (Err _) = ⊥

-- the bytes begin with the header
abbrev pub HasHeader : List ℕ → Type 0
HasHeader bytes = (rest : List ℕ) × (bytes ≡ header ++ rest)
