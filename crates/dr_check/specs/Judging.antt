-- What is answered of a record.
use Rattle.std.specs.Prelude.{◌≡◌, ◌<◌, ◌+◌, ◌⊎◌, ℕ, Bool, true, false, length, ⊤, Some, Result, Ok, Err}
use Rattle.ld_terms.specs.Tree.{Tree}
use Rattle.ld_terms.specs.Item.{One, IsSmall}
use Rattle.ld_terms.specs.Record.{Record, State, HasSpelling, IsThere, Meets, Stands, with_term, after}
use Rattle.dr_text.specs.Spelling.{record_bytes}
use Rattle.dr_text.specs.Read.{Parts, parts_of, Reading, is_end, IsRecordAt, IsNoRecordAt, IsAtEnd}
use Rattle.dr_text.specs.declared.reader.RecordFault.{RecordFault}
use Rattle.dr_text.specs.declared.reader.RecordFault.TheVariants.{Malformed, Unfinished, BadRef, BadStep, Memory}
use Rattle.dr_check.specs.declared.make.Unmet.{Unmet}
use Rattle.dr_check.specs.declared.make.Unmet.TheVariants as unmet

-- a term is made where it is small
abbrev pub MakesTerm : {T : Type 0} → (old new : State) → Tree → Result T Unmet → Type 0
MakesTerm old new t (Ok v) = IsSmall (One t) × (new ≡ with_term old (Some t))
MakesTerm old new t (Err unmet.Condition) = ¬ IsSmall (One t)
MakesTerm old new t (Err unmet.Memory) = ⊤

-- a record whose references are there meets its condition, and what it makes is added
abbrev pub Makes : {T : Type 0} → (old new : State) → Record → Result T Unmet → Type 0
Makes old new r (Ok v) = Meets old r × (new ≡ after old r)
Makes old new r (Err unmet.Condition) = Meets old r → ⊥
Makes old new r (Err unmet.Memory) = ⊤

-- The record of this number stands, and what it makes is added, or it is refused for what it lacks first.
abbrev pub IsJudgedAs : {T : Type 0} → (old new : State) → Record → ℕ → Result T RecordFault → Type 0
IsJudgedAs old new r number (Ok v) = Stands old r × (new ≡ after old r)
IsJudgedAs old new r number (Err (BadRef j)) = (j ≡ number) × (IsThere old r → ⊥)
IsJudgedAs old new r number (Err (BadStep j)) = (j ≡ number) × IsThere old r × (Meets old r → ⊥)
IsJudgedAs old new r number (Err Memory) = ⊤
IsJudgedAs old new r number (Err (Malformed at)) = ⊥
IsJudgedAs old new r number (Err Unfinished) = ⊥

-- the next record of a file stands, and what it makes is added
pub record TakesNext (old new : Reading) (s t : State) : Type 0 where
  pub it : Record
  pub there : IsRecordAt old.bytes old.at it
  pub more : old.ended ≡ false
  pub next : new ≡ record { bytes = old.bytes; at = old.at + length (record_bytes it); ended = is_end it }
  pub stands : Stands s it
  pub made : t ≡ after s it

-- the next record is this one, of which the number is told
pub record RefusesNext (old : Reading) (number told : ℕ) (lacks : Record → Type 0) : Type 0 where
  pub it : Record
  pub there : IsRecordAt old.bytes old.at it
  pub more : old.ended ≡ false
  pub number_is : told ≡ number
  pub refused : lacks it

-- What is answered of the next record: that it stands, or that there is none, or its fault.
abbrev pub AnswersNext : (old new : Reading) (s t : State) (number : ℕ) → Result Bool RecordFault → Type 0
AnswersNext old new s t number (Ok true) = TakesNext old new s t
AnswersNext old new s t number (Ok false) = IsAtEnd old × (old.ended ≡ true) × (t ≡ s)
AnswersNext old new s t number (Err (BadRef j)) = RefusesNext old number j (λ r. IsThere s r → ⊥)
AnswersNext old new s t number (Err (BadStep j)) = RefusesNext old number j (λ r. IsThere s r × (Meets s r → ⊥))
AnswersNext old new s t number (Err Memory) = ⊤
AnswersNext old new s t number (Err (Malformed at)) = (at ≡ old.at) × (old.at < length old.bytes) × ((old.ended ≡ true) ⊎ IsNoRecordAt old.bytes old.at)
AnswersNext old new s t number (Err Unfinished) = IsAtEnd old × (old.ended ≡ false)

-- a record as it is read is one of those that have a spelling
pub record IsReadRecord (read : Parts) : Type 0 where
  pub it : Record
  pub gives : read ≡ parts_of it
  pub spelling : HasSpelling it
