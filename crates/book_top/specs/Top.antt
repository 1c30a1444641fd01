-- What a run answers, and what stands in the files then. Of each command a file of its own says it.
use Rattle.std.specs.Prelude.{◌≡◌, ◌≢◌, ◌⊎◌, ◌++◌, ℕ, ⊤, List, take, None, Some, MatchOption, IsTrue}
use Rattle.fb_base.specs.Desk.{Seen, OthersStay}
use Rattle.book_top.specs.declared.report.Subject.{Subject}
use Rattle.book_top.specs.declared.report.Subject.TheVariants as subject
use Rattle.book_top.specs.declared.status.Status.{Status}
use Rattle.book_top.specs.declared.status.Status.TheVariants as status
use Rattle.book_top.specs.declared.status.RuleFault.{RuleFault}
use Rattle.book_top.specs.Command.{Command, Check, Verify, source_of, target_of, Asks, IsNoCommand}
use Rattle.book_top.specs.Check.{Checks, MayCheck, IsAcceptableBook, IsRefusedBook}
use Rattle.book_top.specs.Verify.{Verifies, MayVerify, IsDerivationFile}
use Rattle.book_top.specs.Report.{report_of}
use Rattle.book_top.specs.Left.{Files}
use Rattle.book_top.specs.Desk.{OnlySays}

-- ---- a command

-- what a command answers, and what stands in the files then
abbrev pub Performs : (before after : Files) → Command → Status → Type 0
Performs before after (Check book out budget) answer = Checks budget before after book out answer
Performs before after (Verify deriv) answer = Verifies before after deriv answer

-- the statuses that it may answer, on any desk
abbrev pub MayAnswer : Command → Status → Type 0
MayAnswer (Check book out budget) answer = MayCheck answer
MayAnswer (Verify deriv) answer = MayVerify answer

-- what its report is about
abbrev pub subject_of : Command → Subject
subject_of (Check book out budget) = subject.Book
subject_of (Verify deriv) = subject.Derivation

-- it can be done
abbrev pub IsPossible : Files → Command → Type 0
IsPossible files (Check book out budget) = IsAcceptableBook budget files book
IsPossible files (Verify deriv) = IsDerivationFile files deriv

-- a rule is right to refuse what it reads
abbrev pub RefusesRightly : Files → Command → RuleFault → Type 0
RefusesRightly files (Check book out budget) fault = IsRefusedBook budget files book fault
RefusesRightly files (Verify deriv) fault = ⊥

-- nothing changed but what was said and the file that it writes; where it writes none, nothing but what was said
abbrev pub ChangesOnly : Command → (old new : Seen) → Type 0
ChangesOnly c old new = MatchOption (target_of c) (OnlySays old new) (λ out. IsTrue old.tells_files → OthersStay old new out)

-- the file that it reads holds this text
abbrev pub HasSource : Files → Command → (text : List ℕ) → Type 0
HasSource files c text = MatchOption (source_of c) ⊥ (λ name. files name ≡ Some text)

-- the file that it reads isn't there
abbrev pub LacksSource : Files → Command → Type 0
LacksSource files c = MatchOption (source_of c) ⊥ (λ name. files name ≡ None)

-- ---- a run

-- the answers where the words ask for nothing that is known
abbrev pub AnswersNoCommand : Status → Type 0
AnswersNoCommand status.Usage = ⊤
AnswersNoCommand status.Desk = ⊤
AnswersNoCommand status.Memory = ⊤
AnswersNoCommand _ = ⊥

-- What is answered, and what stands in the files then.
pub data Outcome (before after : Files) (words : List (List ℕ)) : Status → Type 0 where
  command : {answer : Status} (c : Command) → Asks words c → Performs before after c answer → Outcome before after words answer
  -- The words ask for nothing that is known. The report may have failed.
  no_command : {answer : Status} → IsNoCommand words → AnswersNoCommand answer → after ≡ before → Outcome before after words answer

-- the file that the words ask to be read isn't there
pub record IsAbsent (files : Files) (words : List (List ℕ)) : Type 0 where
  pub command : Command
  pub asked : Asks words command
  pub absent : LacksSource files command

-- What was said: the report of the answer on the book with this text, or on a derivation file. A desk that failed may have said a front
-- of the report of the answer that was given before, and without memory nothing is said.
abbrev pub IsSaid : Subject → (text : List ℕ) → (given : Status) → (before after : List ℕ) → Status → Type 0
IsSaid about text given before after status.Desk = (n : ℕ) × (after ≡ before ++ take n (report_of about text given))
IsSaid about text given before after status.Memory = (after ≡ before ++ report_of about text status.Memory) ⊎ (after ≡ before)
IsSaid about text given before after answer = after ≡ before ++ report_of about text answer

-- The answer is the given one, or the given one couldn't be said.
abbrev pub IsAnswerOf : (given answer : Status) → Type 0
IsAnswerOf given answer = (answer ≡ given) ⊎ ((given ≢ status.Desk) × ((answer ≡ status.Desk) ⊎ (answer ≡ status.Memory)))
