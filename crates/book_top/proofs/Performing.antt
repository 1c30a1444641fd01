-- From the answer of a command to its report, and to a run.
use Rattle.std.proofs.Common.{◌≡◌, ◌≤◌, ◌∙◌, ◌⊎◌, inl, inr, refl, ℕ, Bool, List, [], IsTrue, Option, None, Some, MatchOption, ap, sym}
use Rattle.std.proofs.Common.{subst, arith}
use Rattle.std.proofs.lemmas.List.{append-nil}
use Rattle.fb_base.specs.Desk.{Seen, Rose, OthersStay}
use Rattle.book_top.specs.declared.report.Subject.{Subject}
use Rattle.book_top.specs.declared.report.Subject.TheVariants as subject
use Rattle.book_top.specs.declared.status.Status.{Status}
use Rattle.book_top.specs.declared.status.Status.TheVariants as status
use Rattle.book_top.specs.declared.command.Command as code
use Rattle.book_top.specs.Command.{Command, Check, Verify, target_of, Asks, IsNoCommand, IsDecided}
use Rattle.book_top.specs.Command as command
use Rattle.book_top.specs.CommandLine.{command_of, AreAsked}
use Rattle.book_top.specs.Left.{Files}
use Rattle.book_top.specs.Desk.{OnlySays}
use Rattle.book_top.specs.Check.{untouched, Checks}
use Rattle.book_top.specs.Verify.{Verifies}
use Rattle.book_top.specs.Top.{Performs, MayAnswer, subject_of, ChangesOnly, AnswersNoCommand, Outcome, IsSaid, IsAnswerOf}
use Rattle.book_top.specs.Said.{SaysOf}
use Rattle.book_top.specs.Performed.{IsPerformed}
use Rattle.book_top.proofs.CommandLines.{command_once}
use Rattle.book_top.proofs.Runs.{said_checks}
use Rattle.book_top.proofs.Verifying.{said_verifies}
use Rattle.book_top.proofs.Faults.{rises_by}
use Rattle.book_top.proofs.Answered.{IsAnswered}

-- ---- each command may fail for want of the desk or of memory

may_desk : (c : Command) → MayAnswer c status.Desk
may_desk (Check book out budget) = tt
may_desk (Verify deriv) = tt

pub may_memory : (c : Command) → MayAnswer c status.Memory
may_memory (Check book out budget) = tt
may_memory (Verify deriv) = tt

pub never_usage : (c : Command) (answer : Status) → MayAnswer c answer → answer ≡ status.Usage → ⊥
never_usage c answer may is = by c (subst (MayAnswer c) is may)
  where
    by : (c : Command) → MayAnswer c status.Usage → ⊥
    by (Check book out budget) h = h
    by (Verify deriv) h = h

memory_performs : (files : Files) (c : Command) → Performs files files c status.Memory
memory_performs files (Check book out budget) = Checks.memory (untouched refl)
memory_performs files (Verify deriv) = Verifies.memory refl

-- ---- the answer after the report was said, or wasn't

said_performs : (before mid after : Files) (c : Command) (given answer : Status) → Performs before mid c given → after ≡ mid
    → IsAnswerOf given answer → Performs before after c answer
said_performs before mid after (Check book out budget) given answer h same is =
    said_checks budget before mid after book out given answer h same is
said_performs before mid after (Verify deriv) given answer h same is = said_verifies before mid after deriv given answer h same is

may_answer : (c : Command) (given answer : Status) → MayAnswer c given → IsAnswerOf given answer → MayAnswer c answer
may_answer c given answer may (inl e) = subst (MayAnswer c) (sym e) may
may_answer c given answer may (inr (other, inl e)) = subst (MayAnswer c) (sym e) (may_desk c)
may_answer c given answer may (inr (other, inr e)) = subst (MayAnswer c) (sym e) (may_memory c)

abbrev Changes : Option (List ℕ) → (old new : Seen) → Type 0
Changes target old new = MatchOption target (OnlySays old new) (λ out. IsTrue old.tells_files → OthersStay old new out)

changes_still : (target : Option (List ℕ)) (old mid new : Seen) → Changes target old mid → OnlySays mid new → Changes target old new
changes_still None old mid new h only = only ∙ ap (λ (s : Seen). record s { said = new.said; faults = new.faults }) h
changes_still (Some out) old mid new h only = λ told other apart. ap (λ (s : Seen). s.files other) only ∙ h told other apart

changes_nothing : (target : Option (List ℕ)) (s : Seen) → Changes target s s
changes_nothing None s = refl
changes_nothing (Some out) s = λ told other apart. refl

pub performed : (c : Command) (old mid new : Seen) (text : List ℕ) (given answer : Status) → IsAnswered c old mid text given
    → OnlySays mid new → IsAnswerOf given answer
    → (IsTrue mid.tells_said → IsSaid (subject_of c) text given mid.said new.said answer) → mid.faults ≤ new.faults
    → (answer ≡ status.Desk → (given ≡ status.Desk) ⊎ Rose mid.faults new.faults)
    → (answer ≡ status.Desk → IsTrue mid.tells_files → IsTrue mid.sound → given ≡ status.Desk)
    → IsPerformed c old new answer
performed c old mid new text given answer h only follows said falls desk sound =
    let T : Bool → Type 0 = λ b. IsTrue b in
    let S : List ℕ → Type 0 = λ before. IsSaid (subject_of c) text given before new.said answer in
    let files = ap (λ (s : Seen). s.files) only in
    record {
      performs = λ told. said_performs old.files mid.files new.files c given answer (h.performs told) files follows;
      may = may_answer c given answer h.may follows;
      changes = changes_still (target_of c) old mid new h.changes only;
      reports = λ tells. record {
        text = text;
        given = given;
        said = subst S h.said (said (subst T (sym h.tells_said) tells));
        of_source = h.of_source;
        due = λ told. said_performs old.files mid.files new.files c given given (h.performs told) files (inl refl);
        may = h.may;
        follows = follows;
      };
      desk = rises_by old.faults old.faults mid.faults new.faults given answer (omega arith) h.never_falls falls h.rises desk;
      absent = λ told sound_old is. h.absent told sound_old (sound is (subst T (sym h.tells_files) told) (subst T (sym h.sound) sound_old));
    }

-- ---- a run

module _ {words : List (List ℕ)} (found : Option code.Command) (h : AreAsked words found) where
  pub asks_command : (x : code.Command) → found ≡ Some x → Asks words (command_of x)
  asks_command x is = subst (AreAsked words) is h

  pub asks_nothing : found ≡ None → IsNoCommand words
  asks_nothing is = subst (AreAsked words) is h

pub any_may : {words : List (List ℕ)} {c : Command} (answer : Status) → Asks words c → MayAnswer c answer → (d : Command) → Asks words d
    → MayAnswer d answer
any_may answer h may d also = subst (λ x. MayAnswer x answer) (command_once h also) may

pub any_changes : {words : List (List ℕ)} {c : Command} (old new : Seen) → Asks words c → ChangesOnly c old new → (d : Command)
    → Asks words d → ChangesOnly d old new
any_changes old new h changes d also = subst (λ x. ChangesOnly x old new) (command_once h also) changes

pub no_command_answers : (answer : Status) → IsAnswerOf status.Usage answer → AnswersNoCommand answer
no_command_answers answer (inl e) = subst AnswersNoCommand (sym e) tt
no_command_answers answer (inr (other, inl e)) = subst AnswersNoCommand (sym e) tt
no_command_answers answer (inr (other, inr e)) = subst AnswersNoCommand (sym e) tt

-- the report of words that ask for nothing that is known has nothing of a text
pub usage_said : (text before after : List ℕ) (answer : Status) → IsAnswerOf status.Usage answer
    → IsSaid subject.Book text status.Usage before after answer
    → IsSaid subject.Book [] status.Usage before after answer
usage_said text before after answer follows said = by follows
  where
    to : (s : Status) → answer ≡ s
        → (IsSaid subject.Book text status.Usage before after s → IsSaid subject.Book [] status.Usage before after s)
        → IsSaid subject.Book [] status.Usage before after answer
    to s e f =
        let P : Status → Type 0 = λ x. IsSaid subject.Book text status.Usage before after x in
        let Q : Status → Type 0 = λ x. IsSaid subject.Book [] status.Usage before after x in
        subst Q (sym e) (f (subst P e said))

    by : IsAnswerOf status.Usage answer → IsSaid subject.Book [] status.Usage before after answer
    by (inl e) = to status.Usage e (λ h. h)
    by (inr (other, inl e)) = to status.Desk e (λ h. h)
    by (inr (other, inr e)) = to status.Memory e (λ h. h)

-- nothing is said of a desk that failed
pub said_nothing : (about : Subject) (text before : List ℕ) (s : Status) → s ≡ status.Desk → IsSaid about text s before before s
said_nothing about text before s e =
    let P : Status → Type 0 = λ answer. IsSaid about text s before before answer in
    subst P (sym e) (0, sym (append-nil before))

-- ---- words that memory didn't suffice to read

pub unread_outcome : (files : Files) (words : List (List ℕ)) → IsDecided words → Outcome files files words status.Memory
unread_outcome files words (command.asked c h) = Outcome.command c h (memory_performs files c)
unread_outcome files words (command.nothing unknown) = Outcome.no_command unknown tt refl

pub unread_changes : (s : Seen) (c : Command) → ChangesOnly c s s
unread_changes s c = changes_nothing (target_of c) s

pub unread_says : (s : Seen) (words : List (List ℕ)) → IsDecided words → SaysOf s s words status.Memory
unread_says s words (command.asked c h) = SaysOf.command c h (record {
  text = [];
  given = status.Memory;
  said = inr refl;
  of_source = λ placed told. absurd (placed tt);
  due = λ told. memory_performs s.files c;
  may = may_memory c;
  follows = inl refl;
})
unread_says s words (command.nothing unknown) = SaysOf.no_command unknown (inr refl) (inr ((λ e. cc), inr refl))
