-- What a check leaves in its file when it stops midway.
use Rattle.std.specs.Prelude.{◌≡◌, ◌⊎◌, ℕ, List, [], ◌∷◌, ◌++◌, take, Option, Some, unwrap_or}
use Rattle.ld_terms.specs.Entry.{Env}
use Rattle.ld_terms.specs.Known.{Note}
use Rattle.ld_terms.specs.Record.{Record, start, Stand, final}
use Rattle.fb_base.specs.declared.desk.DeskFault.{DeskFault}
use Rattle.fb_base.specs.declared.desk.DeskFault.TheVariants as desk
use Rattle.fb_parse.specs.Items.{SurfaceItem}
use Rattle.dr_text.specs.Spelling.{header, spelling}
use Rattle.dr_text.specs.Derives.{Derives}
use Rattle.book_top.specs.Book.{Book, empty}
use Rattle.book_top.specs.Spells.{Accepts}

-- what files hold, by their names
abbrev pub Files : Type 0
Files = List ℕ → Option (List ℕ)

-- the content of a file that is there
abbrev pub content : Files → (name : List ℕ) → List ℕ
content files name = unwrap_or (files name) []

-- Records that stand one after another, with these entries and notes and no end record, behind the header. Before the first note
-- there are none.
pub record IsFront (bytes : List ℕ) (env : Env) (notes : List Note) : Type 0 where
  pub records : List Record
  pub spelled : bytes ≡ spelling records
  pub stand : Stand start records
  pub env_is : (final start records).known.env ≡ env
  pub notes_are : (final start records).known.notes ≡ notes
  pub none : notes ≡ [] → bytes ≡ header

-- All items but the rest were accepted under the budget, and these bytes are the header and their records.
pub record IsMidway (budget : ℕ) (items rest : List SurfaceItem) (bytes : List ℕ) (book : Book) (notes : List Note) : Type 0 where
  pub some : List SurfaceItem
  pub cost : ℕ
  pub split : items ≡ some ++ rest
  pub accepted : Accepts budget empty some notes book cost
  pub front : IsFront bytes book.env notes

-- What may be written behind the records of the items so far: the records of the next item, or those to the end of the file.
pub data IsNext (budget : ℕ) (bytes next : List ℕ) (rest : List SurfaceItem) (book : Book) (notes : List Note) : Type 0 where
  item : (i : SurfaceItem) (others : List SurfaceItem) (more_book : Book) (more_notes : List Note) (cost : ℕ) → rest ≡ i ∷ others →
      Accepts budget book (i ∷ []) more_notes more_book cost → IsFront (bytes ++ next) more_book.env (notes ++ more_notes) → IsNext budget bytes next rest book notes
  end : rest ≡ [] → Derives (bytes ++ next) book.env notes → IsNext budget bytes next rest book notes

-- a file that is to be begun: as it was or empty; where the desk failed there may be a front of the header
abbrev pub BeginsFile : (before after : Option (List ℕ)) → DeskFault → Type 0
BeginsFile before after desk.Failed = (after ≡ before) ⊎ ((n : ℕ) × (after ≡ Some (take n header)))
BeginsFile before after desk.Memory = (after ≡ before) ⊎ (after ≡ Some [])

-- What a file holds in which the derivation of these items was begun, where nothing that was to be appended was written in part:
-- nothing; the header with the records of some items, all accepted; or the whole derivation.
pub data IsKept (budget : ℕ) (items : List SurfaceItem) (file : Option (List ℕ)) : Type 0 where
  nothing : file ≡ Some [] → IsKept budget items file
  between : {rest : List SurfaceItem} {book : Book} {notes : List Note} → IsMidway budget items rest (unwrap_or file []) book notes → IsKept budget items file
  whole : {book : Book} {notes : List Note} {cost : ℕ} → Accepts budget empty items notes book cost → Derives (unwrap_or file []) book.env notes → IsKept budget items file

-- What it holds where a desk failed: that; a front of the header; or the header with the records of some items, all accepted, and a
-- front of what comes next.
pub data IsLeft (budget : ℕ) (items : List SurfaceItem) (file : Option (List ℕ)) : Type 0 where
  kept : IsKept budget items file → IsLeft budget items file
  begun : (n : ℕ) → file ≡ Some (take n header) → IsLeft budget items file
  within : {rest : List SurfaceItem} {book : Book} {notes : List Note} (bytes : List ℕ) (n : ℕ) (next : List ℕ) → IsMidway budget items rest bytes book notes →
      IsNext budget bytes next rest book notes → file ≡ Some (bytes ++ take n next) → IsLeft budget items file
