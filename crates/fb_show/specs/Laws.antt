-- What a shown term is, written and read.
use Rattle.std.specs.Prelude.{◌≡◌, ℕ, ◌+◌, ◌<◌, ◌≤◌, ◌^◌, false, List, length, slice_get, Some, Ok}
use Rattle.std.specs.Char.{is_ascii_digit}
use Rattle.ld_terms.specs.Tree.{Tree}
use Rattle.ld_terms.specs.Item.{height}
use Rattle.fb_scope.specs.State.{State}
use Rattle.fb_scope.specs.Names.{tree_of}
use Rattle.fb_lex.specs.Tokens.{IsName}
use Rattle.fb_write.specs.Writable.{IsWritable}
use Rattle.fb_show.specs.Display.{is_taken, base_length, level_name, display}
use Rattle.fb_show.specs.Formed.{IsFormed, AreDistinct, NamesLevels}

-- A scope in which each variable has the name of its level reads the shown term as the term.
abbrev pub ReadsAsShown : Type 0
ReadsAsShown = (s : State) (names : List (List ℕ)) (params : List ℕ) (d : ℕ) (t : Tree) → AreDistinct names → NamesLevels s names params d →
    d + height t < 2 ^ 64 → IsFormed params d t → tree_of s names (display names d t) ≡ Ok t

abbrev pub AreNames : List (List ℕ) → Type 0
AreNames names = (k : ℕ) (x : List ℕ) → slice_get names k ≡ Some x → IsName x

-- A shown term is writable where it is at most 500 high and the names of its levels aren't too long.
abbrev pub ShownIsWritable : Type 0
ShownIsWritable = (names : List (List ℕ)) (params : List ℕ) (d : ℕ) (t : Tree) →
    AreNames names → length names ≡ length params → height t ≤ 500 → d + height t < 2 ^ 64 →
    ((i : ℕ) → i < d + height t → length (level_name names i) ≤ 255) → IsFormed params d t → IsWritable 1 (display names d t)

-- the least number of letters, one or more, that no name has before digits
pub record IsLeastFree (letter : ℕ) (names : List (List ℕ)) (n : ℕ) : Type 0 where
  pub some : 1 ≤ n
  pub free : is_taken letter n names ≡ false
  pub least : (m : ℕ) → 1 ≤ m → is_taken letter m names ≡ false → n ≤ m

abbrev pub BasesAreLeast : Type 0
BasesAreLeast = (letter : ℕ) (names : List (List ℕ)) → is_ascii_digit letter ≡ false → IsLeastFree letter names (base_length letter names)
