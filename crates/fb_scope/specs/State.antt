-- What is open at a place of a book: binders and flags, and the flags under which each entry was made.
use Rattle.std.specs.Prelude.{ℕ, ◌+◌, ◌-◌, nat_lt, if◌then◌else◌, List, [], ◌∷◌, ◌++◌, length, map, reverse, drop, Option, None, Some}
use Rattle.std.specs.List.{list_any}
use Rattle.std.specs.Str.{bytes_eq}
use Rattle.fb_scope.specs.declared.scope.Flag.{Flag}
use Rattle.fb_scope.specs.declared.fault.ScopeFault.{ScopeFault}
use Rattle.fb_scope.specs.declared.fault.ScopeFault.TheVariants.{FlagTaken, ManyFlags}

-- Binders and flags are innermost first. The variable of an arrow is a binder without a name.
-- A mark has the numbers of an entry's flags, outermost first.
pub record State : Type 0 where
  pub binders : List (Option (List ℕ))
  pub flags : List Flag
  pub opened : ℕ
  pub marks : List (List ℕ)

-- where a book begins
abbrev pub start : State
start = record { binders = []; flags = []; opened = 0; marks = [] }

-- the numbers of flags, outermost first
abbrev pub numbers : List Flag → List ℕ
numbers flags = reverse (map (λ f. f.number) flags)

-- the names of flags, innermost first
abbrev pub flag_names : List Flag → List (List ℕ)
flag_names flags = map (λ f. f.name) flags

-- all flags but the outermost, so many, are closed
abbrev pub closed_to : (bars : ℕ) → List Flag → List Flag
closed_to bars flags = drop (length flags - bars) flags

abbrev pub left_to : (bars : ℕ) → State → State
left_to bars s = record { binders = s.binders; flags = closed_to bars s.flags; opened = s.opened; marks = s.marks }

-- why no flag of this name is opened
abbrev pub flag_fault : List ℕ → List Flag → Option ScopeFault
flag_fault name flags =
    if list_any (bytes_eq name) (flag_names flags) then Some FlagTaken
    else if nat_lt (length flags) 64 then None
    else Some ManyFlags

-- a flag with a number that no flag had
abbrev pub entered : (name : List ℕ) → State → State
entered name s = record { binders = s.binders; flags = record { number = s.opened; name = name } ∷ s.flags; opened = s.opened + 1; marks = s.marks }

-- an entry is made under the open flags
abbrev pub noted : State → State
noted s = record { binders = s.binders; flags = s.flags; opened = s.opened; marks = s.marks ++ numbers s.flags ∷ [] }

abbrev pub bound : Option (List ℕ) → State → State
bound name s = record { binders = name ∷ s.binders; flags = s.flags; opened = s.opened; marks = s.marks }

abbrev pub unbound : State → State
unbound s = record { binders = drop 1 s.binders; flags = s.flags; opened = s.opened; marks = s.marks }
