-- What the check of the items of a book answers, in the code's values.
use Rattle.std.specs.Prelude.{◌≡◌, ◌≢◌, ◌⊎◌, ◌+◌, ℕ, List, [], length, IsTrue, Option, unwrap_or, Result, Ok, Err}
use Rattle.ld_terms.specs.Item.{Item}
use Rattle.ld_record.specs.Kept.{IsSound}
use Rattle.ld_infer.specs.Standing.{Standing, known, env}
use Rattle.fb_base.specs.Desk.{Seen, content_of}
use Rattle.fb_base.specs.declared.places.Span.{Span}
use Rattle.fb_parse.specs.declared.fault.ParseFault.{ParseFault}
use Rattle.fb_parse.specs.declared.fault.ParseFault.TheVariants as parse
use Rattle.fb_parse.specs.Items.{SurfaceItem}
use Rattle.fb_scope.specs.State.{State}
use Rattle.dr_text.specs.declared.writer.Writer.{Writer}
use Rattle.dr_text.specs.Written.{IsWritten}
use Rattle.dr_text.specs.Derives.{Derives}
use Rattle.book_top.specs.declared.check.Stop.{Stop}
use Rattle.book_top.specs.declared.check.Stop.TheVariants as stop
use Rattle.book_top.specs.declared.item.ItemStop.{ItemStop}
use Rattle.book_top.specs.declared.item.ItemStop.TheVariants as item
use Rattle.book_top.specs.declared.status.Summary.{Summary}
use Rattle.book_top.specs.declared.status.Status.{Status}
use Rattle.book_top.specs.declared.status.Status.TheVariants as status
use Rattle.book_top.specs.Book.{Book, book_of}
use Rattle.book_top.specs.Verdict.{Outcome, HasOutcome}
use Rattle.book_top.specs.Spells.{FirstRefused}
use Rattle.book_top.specs.Left.{IsFront, IsKept, IsLeft}
use Rattle.book_top.specs.Chunks.{IsCheckDone, LengthensPartly}
use Rattle.book_top.specs.Judged.{IsAccepted, outcome_of}
use Rattle.book_top.specs.Check.{AnswersParse, AnswersOutcome}

-- the outcome for which an item is stopped, with the terms of some bank; want of memory is none
pub record IsOutcome (s : ItemStop) (outcome : Outcome) : Type 0 where
  pub items : List Item
  pub is : outcome ≡ outcome_of items s
  pub no_memory : s ≢ item.Memory

-- how a check stops at an item of this number
abbrev pub stop_at : ℕ → Span → ItemStop → Stop
stop_at number at item.Memory = stop.Memory
stop_at number at s = stop.Item number at s

-- the item has an outcome for which it is stopped
pub record IsRefusedItem (budget : ℕ) (b : Book) (i : SurfaceItem) (s : ItemStop) : Type 0 where
  pub outcome_is : Outcome
  pub has : HasOutcome budget b i outcome_is
  pub same : IsOutcome s outcome_is

-- An item was accepted, and a front of its records is written.
pub record IsPartly (budget : ℕ) (old new : Standing) (scope later : State) (w : Writer) (before after : Seen) (i : SurfaceItem) : Type 0 where
  pub cost : ℕ
  pub accepted : IsAccepted budget old new scope later i cost
  pub all : w.written ≡ length new.kept
  pub partly : LengthensPartly before after (IsWritten new.items new.kept w)

-- An item of this number is refused, or memory runs out, and the desk is as before; or a front of its records is written.
abbrev pub StopsItem : (budget : ℕ) → (old new : Standing) → (scope later : State) → (w v : Writer) → (before after : Seen) → SurfaceItem → ℕ → Stop → Type 0
StopsItem budget old new scope later w v before after i number (stop.Item n at s) =
    (n ≡ number) × (at ≡ i.span) × IsRefusedItem budget (book_of old scope) i s × (after ≡ before)
StopsItem budget old new scope later w v before after i number stop.Memory = after ≡ before
StopsItem budget old new scope later w v before after i number stop.Desk =
    IsTrue before.tells_files → IsSound old.items old.kept → IsWritten old.items old.kept w (content_of before before.target)
    → IsPartly budget old new scope later v before after i

-- The end isn't written, or a front of it and of what stands before it.
abbrev pub StopsEnd : (old : Standing) → Writer → (before after : Seen) → Stop → Type 0
StopsEnd old w before after stop.Desk =
    IsTrue before.tells_files → IsSound old.items old.kept → IsWritten old.items old.kept w (content_of before before.target)
    → LengthensPartly before after (λ bytes. Derives bytes (env old) (known old).notes)
StopsEnd old w before after stop.Memory = after ≡ before
StopsEnd old w before after (stop.Item n at s) = ⊥

-- The first item that isn't accepted, with its number, counted from 1, its span and its outcome. The content has the records of the
-- items before it.
pub record IsStopped (budget : ℕ) (content : List ℕ) (items : List SurfaceItem) (number : ℕ) (at : Span) (s : ItemStop) : Type 0 where
  pub before : ℕ
  pub item : SurfaceItem
  pub outcome_is : Outcome
  pub first : FirstRefused budget items before item outcome_is
  pub same : IsOutcome s outcome_is
  pub number_is : number ≡ before + 1
  pub at_is : at ≡ item.span
  pub left : IsFront content first.book.env first.notes

-- The check is done or stopped at an item; or it failed midway.
abbrev pub IsChecked : (budget : ℕ) → (before after : Option (List ℕ)) → List SurfaceItem → Result Summary Stop → Type 0
IsChecked budget before after items (Ok summary) = IsCheckDone budget (unwrap_or after []) items summary
IsChecked budget before after items (Err (stop.Item number at s)) = IsStopped budget (unwrap_or after []) items number at s
IsChecked budget before after items (Err stop.Desk) = (after ≡ before) ⊎ IsLeft budget items after
IsChecked budget before after items (Err stop.Memory) = (after ≡ before) ⊎ IsKept budget items after

-- the answer for a text that is no book, or for which memory ran out
abbrev pub AnswersFault : ParseFault → Status → Type 0
AnswersFault parse.Memory s = s ≡ status.Memory
AnswersFault f s = AnswersParse f s

-- the answer for a check that stopped
abbrev pub AnswersStop : Stop → Status → Type 0
AnswersStop stop.Desk s = s ≡ status.Desk
AnswersStop stop.Memory s = s ≡ status.Memory
AnswersStop (stop.Item n at item.Memory) s = s ≡ status.Memory
AnswersStop (stop.Item n at why) s = (items : List Item) → AnswersOutcome n at (outcome_of items why) s
