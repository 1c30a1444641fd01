-- Files in a list, of which the later counts.
use Rattle.std.specs.Prelude.{◌≡◌, ℕ, ◌-◌, min, List, [], ◌∷◌, ◌++◌, length, take, find, reverse, slice_get, Option, option_map, unwrap_or}
use Rattle.std.specs.Str.{bytes_eq}

-- the content of the last file of that name
abbrev pub last_of : (files : List (List ℕ × List ℕ)) → (name : List ℕ) → Option (List ℕ)
last_of files name = option_map (λ file. file.1) (find (λ file. bytes_eq file.0 name) (reverse files))

-- the name of the last file
abbrev pub last_name : (files : List (List ℕ × List ℕ)) → List ℕ
last_name files = unwrap_or (option_map (λ file. file.0) (slice_get (reverse files) 0)) []

-- the last file has become longer by these bytes
pub record LastGrows (old new : List (List ℕ × List ℕ)) (bytes : List ℕ) : Type 0 where
  pub earlier : List (List ℕ × List ℕ)
  pub file : List ℕ × List ℕ
  pub before : old ≡ earlier ++ file ∷ []
  pub after : new ≡ earlier ++ (file.0, file.1 ++ bytes) ∷ []

-- the part of a piece that passes in a call that is to fail: never the last byte
abbrev pub part_of : List ℕ → (count : ℕ) → List ℕ
part_of bytes count = take (min count (length bytes - 1)) bytes
