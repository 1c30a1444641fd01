-- A book that is fetched and checked, or isn't fetched: the answer of the command.
use Rattle.std.proofs.Common.{◌≡◌, ◌≤◌, ◌∙◌, ℕ, Bool, List, IsTrue, None, ap, sym, subst, arith}
use Rattle.fb_base.specs.Desk.{Seen, Rose, OthersStay}
use Rattle.fb_lex.specs.declared.tokens.LexFault.TheVariants.{BadByte, LongName}
use Rattle.fb_parse.specs.declared.fault.ParseFault.{ParseFault}
use Rattle.fb_parse.specs.declared.fault.ParseFault.TheVariants as parse
use Rattle.dr_text.specs.declared.reader.RecordFault.{RecordFault}
use Rattle.book_top.specs.declared.status.LimitFault.TheVariants as limit
use Rattle.book_top.specs.declared.status.Status.{Status}
use Rattle.book_top.specs.declared.status.Status.TheVariants as status
use Rattle.book_top.specs.Command.{Check}
use Rattle.book_top.specs.Left.{Files}
use Rattle.book_top.specs.Fetched.{StopsFetch}
use Rattle.book_top.specs.Check.{book_limit, IsFetched, untouched, Checks, MayCheck}
use Rattle.book_top.specs.Checked.{AnswersFault}
use Rattle.book_top.specs.Said.{HasNoPlace}
use Rattle.book_top.proofs.Fetching.{fetch_stops, unfetched_may}
use Rattle.book_top.proofs.Faults.{rises_within}
use Rattle.book_top.proofs.Answered.{IsAnswered}

-- ---- which statuses a text that is no book has

no_usage : (f : ParseFault) → AnswersFault f status.Usage → ⊥
no_usage (parse.Lex (BadByte at)) h = h
no_usage (parse.Lex (LongName at)) h = h
no_usage (parse.Syntax at) h = h
no_usage (parse.Deep at) h = h
no_usage (parse.ManyItems at) h = h
no_usage parse.Memory h = cc

no_record : (f : ParseFault) (fault : RecordFault) → AnswersFault f (status.BadRecord fault) → ⊥
no_record (parse.Lex (BadByte at)) fault h = h
no_record (parse.Lex (LongName at)) fault h = h
no_record (parse.Syntax at) fault h = h
no_record (parse.Deep at) fault h = h
no_record (parse.ManyItems at) fault h = h
no_record parse.Memory fault h = cc

no_long_derivation : (f : ParseFault) → AnswersFault f (status.Limit limit.DerivBytes) → ⊥
no_long_derivation (parse.Lex (BadByte at)) h = h
no_long_derivation (parse.Lex (LongName at)) h = h
no_long_derivation (parse.Syntax at) h = h
no_long_derivation (parse.Deep at) h = cc
no_long_derivation (parse.ManyItems at) h = cc
no_long_derivation parse.Memory h = cc

pub parse_may : (f : ParseFault) (s : Status) → AnswersFault f s → MayCheck s
parse_may f (status.Done x) h = tt
parse_may f (status.Text x) h = tt
parse_may f status.Usage h = no_usage f h
parse_may f (status.Rule x) h = tt
parse_may f (status.Budget x) h = tt
parse_may f status.Desk h = tt
parse_may f (status.Limit limit.BookBytes) h = tt
parse_may f (status.Limit limit.DerivBytes) h = no_long_derivation f h
parse_may f (status.Limit (limit.Nesting at)) h = tt
parse_may f (status.Limit (limit.Items at)) h = tt
parse_may f (status.Limit (limit.Height at)) h = tt
parse_may f (status.Limit (limit.Flags at)) h = tt
parse_may f status.Memory h = tt
parse_may f (status.BadRecord fault) h = no_record f fault h

-- ---- the answer

unfetched_checks : (before after : Seen) (book out : List ℕ) (budget : ℕ) (s : Status)
    → StopsFetch book_limit limit.BookBytes before book s → after.files ≡ before.files
    → IsTrue before.tells_files → Checks budget before.files after.files book out s
unfetched_checks before after book out budget s h same told =
    let out_same = ap (λ (files : Files). files out) same in
    fetch_stops book_limit limit.BookBytes before book (λ answer. Checks budget before.files after.files book out answer) s h told
    (λ long. Checks.too_long long same) (Checks.desk (untouched out_same)) (Checks.memory (untouched out_same))

pub unfetched : (old mid : Seen) (book out text : List ℕ) (budget : ℕ) (given : Status) → mid ≡ record old { faults = mid.faults }
    → old.faults ≤ mid.faults
    → StopsFetch book_limit limit.BookBytes old book given → (given ≡ status.Desk → Rose old.faults mid.faults)
    → (given ≡ status.Desk → IsTrue old.tells_files → IsTrue old.sound → old.files book ≡ None)
    → IsAnswered (Check book out budget) old mid text given
unfetched old mid book out text budget given same falls stopped rises absent = record {
  performs = λ told. unfetched_checks old mid book out budget given stopped (ap (λ (s : Seen). s.files) same) told;
  may = unfetched_may book_limit limit.BookBytes old book MayCheck given stopped tt tt tt;
  changes = λ told other apart. ap (λ (s : Seen). s.files other) same;
  of_source = λ placed told. absurd (placed (unfetched_may book_limit limit.BookBytes old book HasNoPlace given stopped tt tt tt));
  said = ap (λ (s : Seen). s.said) same;
  tells_files = ap (λ (s : Seen). s.tells_files) same;
  tells_said = ap (λ (s : Seen). s.tells_said) same;
  sound = ap (λ (s : Seen). s.sound) same;
  never_falls = falls;
  rises = rises;
  absent = λ told sound is. absent is told sound;
}

-- the text was fetched, and then it was checked
module _ (old mid new : Seen) (book out text : List ℕ) (budget : ℕ) (given : Status) (same : mid ≡ record old { faults = mid.faults })
    (fetched : IsTrue old.tells_files → IsFetched old.files book text) where
  told_then : IsTrue old.tells_files → IsTrue mid.tells_files
  told_then told = let T : Bool → Type 0 = λ b. IsTrue b in subst T (sym (ap (λ (s : Seen). s.tells_files) same)) told

  sound_then : IsTrue old.sound → IsTrue mid.sound
  sound_then sound = let T : Bool → Type 0 = λ b. IsTrue b in subst T (sym (ap (λ (s : Seen). s.sound) same)) sound

  text_checks : (IsTrue mid.tells_files → (b : List ℕ) → IsFetched mid.files b text → Checks budget mid.files new.files b out given)
      → IsTrue old.tells_files
      → Checks budget old.files new.files book out given
  text_checks checks told =
      let files = ap (λ (s : Seen). s.files) same in
      let F : Files → Type 0 = λ fs. IsFetched fs book text in
      let C : Files → Type 0 = λ fs. Checks budget fs new.files book out given in
      subst C files (checks (told_then told) book (subst F (sym files) (fetched told)))

  pub checked : old.faults ≤ mid.faults
      → (IsTrue mid.tells_files → (b : List ℕ) → IsFetched mid.files b text → Checks budget mid.files new.files b out given)
      → MayCheck given
      → (IsTrue mid.tells_files → OthersStay mid new out) → new.said ≡ mid.said → new.tells_said ≡ mid.tells_said
      → new.tells_files ≡ mid.tells_files → new.sound ≡ mid.sound
      → mid.faults ≤ new.faults → (given ≡ status.Desk → Rose mid.faults new.faults)
      → (given ≡ status.Desk → IsTrue mid.tells_files → IsTrue mid.sound → ⊥)
      → IsAnswered (Check book out budget) old new text given
  checked before checks may others said tells_said tells_files sound falls rises never = record {
    performs = text_checks checks;
    may = may;
    changes = λ told other apart. others (told_then told) other apart ∙ ap (λ (s : Seen). s.files other) same;
    of_source = λ placed told. (fetched told).there;
    said = said ∙ ap (λ (s : Seen). s.said) same;
    tells_files = tells_files ∙ ap (λ (s : Seen). s.tells_files) same;
    tells_said = tells_said ∙ ap (λ (s : Seen). s.tells_said) same;
    sound = sound ∙ ap (λ (s : Seen). s.sound) same;
    never_falls = omega (arith, before, falls);
    rises = λ is. rises_within old.faults mid.faults new.faults new.faults before falls (rises is) (omega arith);
    absent = λ told sound_old is. absurd (never is (told_then told) (sound_then sound_old));
  }
