-- What a name stands for.
use Rattle.std.specs.Prelude.{ℕ, suc, ◌-◌, Bool, true, false, ◌==◌, nat_lt, if◌then◌else◌, List, [], ◌∷◌, ◌++◌, length, map, position, slice_index_or, Option, None, Some, Result, Ok, Err}
use Rattle.std.specs.List.{list_any, prefix_len}
use Rattle.std.specs.Str.{bytes_eq}
use Rattle.fb_scope.specs.State.{State, numbers}
use Rattle.fb_scope.specs.declared.fault.ScopeFault.{ScopeFault}
use Rattle.fb_scope.specs.declared.fault.ScopeFault.TheVariants.{Unknown, NotAConstant, ParamsMissing, ParamsMany}
use Rattle.fb_scope.specs.declared.resolve.Found.{Found}
use Rattle.fb_scope.specs.declared.resolve.Found.TheVariants.{Var, Const}

-- whether a binder has this name
abbrev pub is_named : List ℕ → Option (List ℕ) → Bool
is_named name None = false
is_named name (Some other) = bytes_eq name other

-- the names of binders and flags, innermost first
abbrev pub variables : State → List (Option (List ℕ))
variables s = s.binders ++ map (λ f. Some f.name) s.flags

-- the numbers of the flags under which an entry was made, as many as it has parameters
abbrev pub made_under : State → ℕ → List ℕ
made_under s k = slice_index_or s.marks k []

abbrev pub is_open : List ℕ → ℕ → Bool
is_open open_numbers n = list_any (λ m. m == n) open_numbers

-- how many of the first of these flags are still open
abbrev pub shared : (made_under open_numbers : List ℕ) → ℕ
shared made_under open_numbers = prefix_len (is_open open_numbers) made_under

-- How many flags there are behind the open ones, where a list of flags begins with those and goes on.
abbrev pub further : (made_under open_numbers : List ℕ) → Option ℕ
further [] ms = None
further (n ∷ ns) [] = Some (suc (length ns))
further (n ∷ ns) (m ∷ ms) = if n == m then further ns ms else None

-- An entry has so many parameters, some of them for flags that are still open, and so many arguments are written.
abbrev pub instance_of : (k params still_open given : ℕ) → Result Found ScopeFault
instance_of k params still_open given =
    if nat_lt params given then Err (ParamsMany params given)
    else if nat_lt still_open (params - given) then Err (ParamsMissing (params - still_open) given)
    else Ok (Const k (params - given))

abbrev pub as_variable : (instance : Bool) → ℕ → Result Found ScopeFault
as_variable true i = Err NotAConstant
as_variable false i = Ok (Var i)

abbrev pub as_entry : State → (given : ℕ) → Option ℕ → Result Found ScopeFault
as_entry s given None = Err Unknown
as_entry s given (Some k) = instance_of k (length (made_under s k)) (shared (made_under s k) (numbers s.flags)) given

-- A name is looked for among the binders and the open flags, innermost first, and then among the entries.
abbrev pub found_in : State → List (List ℕ) → List ℕ → (given : ℕ) → (instance : Bool) → Option ℕ → Result Found ScopeFault
found_in s entries name given instance (Some i) = as_variable instance i
found_in s entries name given instance None = as_entry s given (position (bytes_eq name) entries)

abbrev pub resolve : State → (entries : List (List ℕ)) → List ℕ → (given : ℕ) → (instance : Bool) → Result Found ScopeFault
resolve s entries name given instance = found_in s entries name given instance (position (is_named name) (variables s))
