-- What a desk tells of the outside, and what each of its calls changes.
use Rattle.std.specs.Prelude.{◌≡◌, ◌≢◌, ◌⊎◌, ℕ, ◌+◌, ◌<◌, ◌≤◌, min, Bool, true, false, IsTrue, List, [], ◌++◌, length, take, Option, Some, None, unwrap_or, Result, IfOk, OnOk, IsErrOf}
use Rattle.fb_base.specs.declared.desk.DeskFault.{DeskFault}
use Rattle.fb_base.specs.declared.desk.DeskFault.TheVariants.{Failed, Memory}

-- What can be seen of a desk. Files, or what was said, may be not told, and are any value then.
pub record Seen : Type 0 where
  pub tells_files : Bool
  pub tells_said : Bool
  -- from a name to a content
  pub files : List ℕ → Option (List ℕ)
  pub said : List ℕ
  -- whether a file is being written, and the name of that file where files are told
  pub started : Bool
  pub target : List ℕ
  -- a counter, which stays at its last value
  pub faults : ℕ
  -- no call fails without need
  pub sound : Bool

-- The count of faults is greater, or stands at its last value.
abbrev pub Rose : (before now : ℕ) → Type 0
Rose before now = (before < now) ⊎ (now ≡ 18446744073709551615)

-- a counter one later, which stays at its last value
abbrev pub counted : ℕ → ℕ
counted n = min (n + 1) 18446744073709551615

-- no file but this one is changed
abbrev pub OthersStay : (old new : Seen) → (name : List ℕ) → Type 0
OthersStay old new name = (other : List ℕ) → other ≢ name → new.files other ≡ old.files other

-- the content of a file that is there
abbrev pub content_of : Seen → (name : List ℕ) → List ℕ
content_of seen name = unwrap_or (seen.files name) []

-- what holds of each call, whatever it answers
pub record IsCall {T : Type 0} (old new : Seen) (result : Result T DeskFault) : Type 0 where
  pub tells_files : new.tells_files ≡ old.tells_files
  pub tells_said : new.tells_said ≡ old.tells_said
  pub sound : new.sound ≡ old.sound
  pub never_falls : old.faults ≤ new.faults
  pub failed : IsErrOf result Failed → Rose old.faults new.faults
  pub memory : IsErrOf result Memory → new ≡ old

-- The first `most` bytes of a file are fetched, and nothing but the count of faults is changed.
pub record Fetches {T : Type 0} (old new : Seen) (name : List ℕ) (most : ℕ) (items : T → List ℕ) (result : Result T DeskFault) : Type 0 where
  pub call : IsCall old new result
  pub same : new ≡ record old { faults = new.faults }
  pub bound : IfOk result (λ v. length (items v) ≤ most)
  pub bytes : IfOk result (λ v. IsTrue old.tells_files → (content : List ℕ) × (old.files name ≡ Some content) × (items v ≡ take most content))
  pub absent : IsTrue old.tells_files → IsTrue old.sound → IsErrOf result Failed → old.files name ≡ None

-- A file is made empty and is the started one. Where that fails the file may be as before, and none is started.
pub record Starts {T : Type 0} (old new : Seen) (name : List ℕ) (result : Result T DeskFault) : Type 0 where
  pub call : IsCall old new result
  pub said : new.said ≡ old.said
  pub others : IsTrue old.tells_files → OthersStay old new name
  pub started : OnOk result (new.started ≡ true)
  pub empty : OnOk result (IsTrue old.tells_files → (new.target ≡ name) × (new.files name ≡ Some []))
  pub stopped : IsErrOf result Failed → new.started ≡ false
  pub partly : IsErrOf result Failed → IsTrue old.tells_files → (new.files name ≡ old.files name) ⊎ (new.files name ≡ Some [])
  pub not_failed : IsTrue old.tells_files → IsTrue old.sound → IsErrOf result Failed → ⊥

-- Bytes stand at the end of the started file. Where that fails a prefix of them does.
pub record Appends {T : Type 0} (old new : Seen) (bytes : List ℕ) (result : Result T DeskFault) : Type 0 where
  pub call : IsCall old new result
  pub said : new.said ≡ old.said
  pub started : new.started ≡ old.started
  pub target : new.target ≡ old.target
  pub others : IsTrue old.tells_files → OthersStay old new old.target
  pub all : OnOk result (IsTrue old.tells_files → new.files old.target ≡ Some (content_of old old.target ++ bytes))
  pub front : IsErrOf result Failed → IsTrue old.tells_files → (n : ℕ) × (new.files old.target ≡ Some (content_of old old.target ++ take n bytes))
  pub not_failed : IsTrue old.tells_files → IsTrue old.sound → IsErrOf result Failed → ⊥

-- Bytes stand at the end of what is said. Where that fails a prefix of them does.
pub record Says {T : Type 0} (old new : Seen) (bytes : List ℕ) (result : Result T DeskFault) : Type 0 where
  pub call : IsCall old new result
  pub same : new ≡ record old { said = new.said; faults = new.faults }
  pub all : OnOk result (IsTrue old.tells_said → new.said ≡ old.said ++ bytes)
  pub front : IsErrOf result Failed → IsTrue old.tells_said → (n : ℕ) × (new.said ≡ old.said ++ take n bytes)
  pub not_failed : IsTrue old.tells_files → IsTrue old.sound → IsErrOf result Failed → ⊥
