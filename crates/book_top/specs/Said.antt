-- What a run says.
use Rattle.std.specs.Prelude.{ℕ, List, [], IsTrue}
use Rattle.fb_base.specs.Desk.{Seen}
use Rattle.book_top.specs.declared.report.Subject.TheVariants as subject
use Rattle.book_top.specs.declared.status.Status.{Status}
use Rattle.book_top.specs.declared.status.Status.TheVariants as status
use Rattle.book_top.specs.declared.status.LimitFault.TheVariants as limit
use Rattle.book_top.specs.Command.{Command, Asks, IsNoCommand}
use Rattle.book_top.specs.Top.{Performs, MayAnswer, subject_of, HasSource, IsSaid, IsAnswerOf}

-- the answers that have no place in the book
abbrev pub HasNoPlace : Status → Type 0
HasNoPlace (status.Text f) = ⊥
HasNoPlace (status.Rule f) = ⊥
HasNoPlace (status.Budget f) = ⊥
HasNoPlace (status.Limit (limit.Nesting at)) = ⊥
HasNoPlace (status.Limit (limit.Items at)) = ⊥
HasNoPlace (status.Limit (limit.Height at)) = ⊥
HasNoPlace (status.Limit (limit.Flags at)) = ⊥
HasNoPlace _ = Unit {0}

-- The report of a command is said of the text that it reads, where the answer that was given has a place in it. Where the report
-- couldn't be said, that answer was due.
pub record Reports (c : Command) (old new : Seen) (answer : Status) : Type 0 where
  pub text : List ℕ
  pub given : Status
  pub said : IsSaid (subject_of c) text given old.said new.said answer
  pub of_source : (HasNoPlace given → ⊥) → IsTrue old.tells_files → HasSource old.files c text
  pub due : IsTrue old.tells_files → Performs old.files new.files c given
  pub may : MayAnswer c given
  pub follows : IsAnswerOf given answer

-- what is said of words
pub data SaysOf (old new : Seen) (words : List (List ℕ)) (answer : Status) : Type 0 where
  command : (c : Command) → Asks words c → Reports c old new answer → SaysOf old new words answer
  no_command : IsNoCommand words → IsSaid subject.Book [] status.Usage old.said new.said answer → IsAnswerOf status.Usage answer →
      SaysOf old new words answer
