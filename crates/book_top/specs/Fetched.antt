-- A file that is fetched within a limit, and what is answered for one that isn't.
use Rattle.std.specs.Prelude.{◌≡◌, ◌<◌, ◌≤◌, ℕ, ⊤, List, length, Some, IsTrue}
use Rattle.fb_base.specs.Desk.{Seen}
use Rattle.book_top.specs.declared.status.LimitFault.{LimitFault}
use Rattle.book_top.specs.declared.status.Status.{Status}
use Rattle.book_top.specs.declared.status.Status.TheVariants as status
use Rattle.book_top.specs.Left.{Files}

-- a file as it is fetched, within a limit
pub record IsFetchedWithin (limit : ℕ) (before : Files) (name bytes : List ℕ) : Type 0 where
  pub there : before name ≡ Some bytes
  pub short : length bytes ≤ limit

-- a file that is longer than a limit
pub record IsLonger (limit : ℕ) (before : Files) (name : List ℕ) : Type 0 where
  pub bytes : List ℕ
  pub there : before name ≡ Some bytes
  pub long : limit < length bytes

-- the limit is passed, a call on the desk failed, or memory ran out
abbrev pub StopsFetch : (most : ℕ) → LimitFault → Seen → (name : List ℕ) → Status → Type 0
StopsFetch most passed before name (status.Limit l) = (l ≡ passed) × (IsTrue before.tells_files → IsLonger most before.files name)
StopsFetch most passed before name status.Desk = ⊤
StopsFetch most passed before name status.Memory = ⊤
StopsFetch most passed before name _ = ⊥
