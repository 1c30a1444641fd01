-- What a desk in memory holds, and how its calls fail.
use Rattle.std.specs.Prelude.{◌≡◌, ◌⊎◌, ℕ, true, false, ◌==◌, if◌then◌else◌, List, [], ◌++◌, length, find, Option, Some, None, IsSome, option_map, Result, Ok, Err, OnOk}
use Rattle.std.specs.Option.{IsSomeAnd}
use Rattle.fb_base.specs.MemFiles.{last_of, last_name, part_of}
use Rattle.fb_base.specs.Desk.{Seen, content_of, counted}
use Rattle.fb_base.specs.declared.desk.DeskFault.{DeskFault}
use Rattle.fb_base.specs.declared.desk.DeskFault.TheVariants.{Failed, Memory}
use Rattle.fb_base.specs.declared.mem.Calls.{Calls}
use Rattle.fb_base.specs.declared.mem.MemDesk.{MemDesk}

-- All is told. The desk is sound where no call is to fail.
abbrev pub seen_of : MemDesk → Seen
seen_of desk = record {
  tells_files = true;
  tells_said = true;
  files = last_of desk.files.items;
  said = desk.said;
  started = desk.started;
  target = last_name desk.files.items;
  faults = desk.calls.faults;
  sound = length desk.calls.fails.items == 0;
}

-- how many bytes pass in the next call, if it is to fail
abbrev pub next_failing : Calls → Option ℕ
next_failing calls = option_map (λ fail. fail.1) (find (λ fail. fail.0 == calls.number) calls.fails.items)

-- the counts after a call that went well
abbrev pub went_well : Calls → Calls
went_well calls = record calls { number = counted calls.number }

-- the counts after a call that failed
abbrev pub went_wrong : Calls → Calls
went_wrong calls = record calls { number = counted calls.number; faults = counted calls.faults }

-- A call that finds no memory is not counted.
abbrev pub calls_after : {T : Type 0} → Calls → Result T DeskFault → Calls
calls_after calls (Ok v) = went_well calls
calls_after calls (Err Failed) = went_wrong calls
calls_after calls (Err Memory) = calls

-- Every call is counted, and goes well only where it isn't to fail.
pub record IsCounted {T : Type 0} (old new : MemDesk) (result : Result T DeskFault) : Type 0 where
  pub calls : new.calls ≡ calls_after old.calls result
  pub ok : OnOk result (next_failing old.calls ≡ None)

-- a desk just made
pub record IsNew (desk : MemDesk) (given : List (List ℕ × List ℕ)) (to_fail : List (ℕ × ℕ)) : Type 0 where
  pub files : (seen_of desk).files ≡ last_of given
  pub said : (seen_of desk).said ≡ []
  pub started : (seen_of desk).started ≡ false
  pub faults : (seen_of desk).faults ≡ 0
  pub first : desk.calls.number ≡ 0
  pub fails : desk.calls.fails.items ≡ to_fail
  pub sound : (seen_of desk).sound ≡ (length to_fail == 0)

-- A fetch fails where it is to fail, or where the file isn't there.
abbrev pub FetchFails : MemDesk → (name : List ℕ) → Type 0
FetchFails desk name = IsSome (next_failing desk.calls) ⊎ ((seen_of desk).files name ≡ None)

-- A start that is to fail leaves the file as before where no byte passes, and else empty.
abbrev pub StartFails : (old new : MemDesk) → (name : List ℕ) → Type 0
StartFails old new name = IsSomeAnd (next_failing old.calls) (λ count. (seen_of new).files name ≡ (if count == 0 then (seen_of old).files name else Some []))

-- a piece of which a part passes, at the end of the started file
abbrev pub AppendFails : (old new : MemDesk) → (bytes : List ℕ) → Type 0
AppendFails old new bytes = IsSomeAnd (next_failing old.calls) (λ count. content_of (seen_of new) (seen_of old).target ≡ content_of (seen_of old) (seen_of old).target ++ part_of bytes count)

-- a piece of which a part passes, at the end of what was said
abbrev pub SayFails : (old new : MemDesk) → (bytes : List ℕ) → Type 0
SayFails old new bytes = IsSomeAnd (next_failing old.calls) (λ count. (seen_of new).said ≡ (seen_of old).said ++ part_of bytes count)
