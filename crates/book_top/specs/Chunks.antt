-- What the writing of a chunk does to the file.
use Rattle.std.specs.Prelude.{◌≡◌, ℕ, List, ◌++◌, length, take, Some, IsTrue, Option, Result, Ok, Err}
use Rattle.ld_terms.specs.Item.{Item}
use Rattle.ld_record.specs.declared.record.JudgeId.{JudgeId}
use Rattle.ld_record.specs.declared.record.Kept.{Kept}
use Rattle.fb_base.specs.Desk.{Seen, content_of}
use Rattle.fb_base.specs.declared.desk.DeskFault.{DeskFault}
use Rattle.fb_base.specs.declared.desk.DeskFault.TheVariants as desk
use Rattle.dr_text.specs.declared.writer.Writer.{Writer}
use Rattle.dr_text.specs.Written.{IsWritten, IsContent}
use Rattle.dr_text.specs.Derives.{Derives}
use Rattle.ld_terms.specs.Known.{Note}
use Rattle.fb_parse.specs.Items.{SurfaceItem}
use Rattle.book_top.specs.declared.check.Stop.{Stop}
use Rattle.book_top.specs.declared.check.Stop.TheVariants as stop
use Rattle.book_top.specs.declared.status.Summary.{Summary}
use Rattle.book_top.specs.Book.{Book, empty}
use Rattle.book_top.specs.Spells.{Accepts}

-- The file has become longer by a front of what would make it this.
pub record LengthensPartly (old new : Seen) (Whole : List ℕ → Type 0) : Type 0 where
  pub next : List ℕ
  pub n : ℕ
  pub file : new.files old.target ≡ Some (content_of old old.target ++ take n next)
  pub whole : Whole (content_of old old.target ++ next)

-- the file has become longer and is this
pub record LengthensTo (old new : Seen) (Whole : List ℕ → Type 0) : Type 0 where
  pub next : List ℕ
  pub file : new.files old.target ≡ Some (content_of old old.target ++ next)
  pub whole : Whole (content_of old old.target ++ next)

-- Behind what was written the chunk is written, or on a failing desk a front of it.
abbrev pub WritesChunk : List Item → List Kept → (before after : Writer) → Option JudgeId → (old new : Seen) → Result (Unit {0}) DeskFault → Type 0
WritesChunk items kept before after ended old new (Ok u) =
    IsTrue old.tells_files → IsWritten items kept before (content_of old old.target) → LengthensTo old new (IsContent items kept after ended)
WritesChunk items kept before after ended old new (Err desk.Failed) =
    IsTrue old.tells_files → IsWritten items kept before (content_of old old.target) → LengthensPartly old new (IsContent items kept after ended)
WritesChunk items kept before after ended old new (Err desk.Memory) = new ≡ old

abbrev pub stop_by : DeskFault → Stop
stop_by desk.Failed = stop.Desk
stop_by desk.Memory = stop.Memory

-- The items are all accepted under the budget, and the content is a derivation of what they spell.
pub record IsCheckDone (budget : ℕ) (content : List ℕ) (items : List SurfaceItem) (summary : Summary) : Type 0 where
  pub notes : List Note
  pub book : Book
  pub cost : ℕ
  pub accepted : Accepts budget empty items notes book cost
  pub derives : Derives content book.env notes
  pub items_are : summary.items ≡ length items
  pub entries_are : summary.entries ≡ length book.env
  pub steps_are : summary.steps ≡ cost
