-- What can be done is done, unless memory runs out: no other answer is left.
use Rattle.std.proofs.Common.{◌≡◌, ◌≤◌, ℕ, List, ◌∷◌, ◌++◌, length, IsTrue, Option, None, Some, Ok, refl, sym, ap, subst, ◌∙◌, arith}
use Rattle.fb_base.specs.Desk.{Seen, Rose}
use Rattle.fb_parse.specs.declared.fault.ParseFault.{ParseFault}
use Rattle.fb_parse.specs.Items.{SurfaceItem}
use Rattle.fb_parse.specs.Texts.{IsBookText, BeginsBook, Refuses}
use Rattle.fb_parse.proofs.TextsOnce.{one_book, books_are_not_refused}
use Rattle.ld_terms.specs.Known.{Note}
use Rattle.dr_text.specs.Derives.{Derives}
use Rattle.book_top.specs.declared.status.Status.{Status}
use Rattle.book_top.specs.declared.status.Status.TheVariants as status
use Rattle.book_top.specs.Book.{Book, Reading, empty}
use Rattle.book_top.specs.Verdict.{read_item, Verdicts, Accepted, Answers, HasOutcome, answers, steps}
use Rattle.book_top.specs.Verdict as verdict
use Rattle.book_top.specs.Spells.{Accepts, item_book}
use Rattle.book_top.specs.Spells as spells
use Rattle.book_top.specs.Command.{Command, Check, Verify, Asks}
use Rattle.book_top.specs.Left.{Files}
use Rattle.book_top.specs.Fetched.{IsFetchedWithin, IsLonger}
use Rattle.book_top.specs.Check.{book_limit, IsFetched, IsNoBook, IsItemRefused, AnswersParse, Checks, AreAcceptable, more}
use Rattle.book_top.specs.Check.{IsAcceptableBook}
use Rattle.book_top.specs.Verify.{derivation_limit, Verifies, IsDerivationFile}
use Rattle.book_top.specs.Top.{Performs, IsPossible, LacksSource, Outcome, IsAbsent}
use Rattle.book_top.specs.Complete.{CanBeDone, IsUndisturbed, no_fault, sound, IsDoneOrMemory}
use Rattle.book_top.proofs.CommandLines.{command_once}

-- ---- each item is accepted

-- an item that is accepted within the budget has no other outcome
only_accepted : (budget : ℕ) (b : Book) (i : SurfaceItem) (n : ℕ) (o : verdict.Outcome) → Verdicts b i Accepted n → n ≤ budget → HasOutcome budget b i o → o ≡ Answers Accepted
only_accepted budget b i n o is few (answers h within) = ap Answers (sym (h.only Accepted n is).0)
only_accepted budget b i n o is few (steps beyond) = absurd (omega (arith, few, beyond Accepted n is))

first_within : {budget : ℕ} {b : Book} {i : SurfaceItem} {is : List SurfaceItem} → AreAcceptable budget b (i ∷ is) → (n : ℕ) × Verdicts b i Accepted n × (n ≤ budget)
first_within (more {n = n} r e h few rest) = (n, h, few)

one_reading : (b : Book) (i : SurfaceItem) (r q : Reading) → read_item b i ≡ Ok r → read_item b i ≡ Ok q → q ≡ r
one_reading b i r q e f = cc

others : {budget : ℕ} {b : Book} {i : SurfaceItem} {is : List SurfaceItem} (r : Reading) → read_item b i ≡ Ok r → AreAcceptable budget b (i ∷ is) → AreAcceptable budget (item_book i r b) is
others {budget} {b} {i} {is} r e (more q f h few rest) = subst (λ x. AreAcceptable budget (item_book i x b) is) (one_reading b i r q e f) rest

-- the item behind those that were accepted is within the budget, too
at_item : {budget : ℕ} {start end : Book} {before : List SurfaceItem} {notes : List Note} {cost : ℕ} (i : SurfaceItem) (after : List SurfaceItem)
    → Accepts budget start before notes end cost → AreAcceptable budget start (before ++ i ∷ after) → (n : ℕ) × Verdicts end i Accepted n × (n ≤ budget)
at_item i after spells.none h = first_within h
at_item i after (spells.more r e v few rest) h = at_item i after rest (others r e h)

-- ---- a book

one_content : (file : Option (List ℕ)) (text other : List ℕ) → file ≡ Some text → file ≡ Some other → other ≡ text
one_content file text other e f = cc

not_there : (file : Option (List ℕ)) (text : List ℕ) → file ≡ Some text → file ≡ None → ⊥
not_there file text e f = cc

not_longer : (limit : ℕ) (files : Files) (name bytes : List ℕ) → IsFetchedWithin limit files name bytes → IsLonger limit files name → ⊥
not_longer limit files name bytes h long =
    let same = one_content (files name) bytes long.bytes h.there long.there in
    omega (arith, h.short, long.long, ap length same)

module _ (budget : ℕ) (files : Files) (book : List ℕ) (right : IsAcceptableBook budget files book) where
  same_text : (text : List ℕ) → IsFetched files book text → text ≡ right.text
  same_text text h = one_content (files book) right.text text right.fetched.there h.there

  is_a_book : (answer : Status) → IsNoBook files book answer → ⊥
  is_a_book answer h =
      let R : List ℕ → Type 0 = λ text. Refuses text BeginsBook h.fault in
      let A : ParseFault → Type 0 = λ f. AnswersParse f answer in
      subst A (books_are_not_refused right.text right.items h.fault right.parsed (subst R (same_text h.text h.fetched) h.refused)) h.answers

  no_item_refused : (after : Files) (out : List ℕ) (answer : Status) → IsItemRefused budget files after book out answer → ⊥
  no_item_refused after out answer h =
      let P : List ℕ → Type 0 = λ text. IsBookText text h.items in
      let same : right.items ≡ h.items = one_book right.text right.items h.items right.parsed (subst P (same_text h.text h.fetched) h.parsed) in
      let all : AreAcceptable budget empty (h.first.before ++ h.item ∷ h.first.after) = subst (AreAcceptable budget empty) (same ∙ h.first.split) right.acceptable in
      let found = at_item h.item h.first.after h.first.accepted all in
      h.first.refused (only_accepted budget h.first.book h.item found.0 h.outcome_is found.1 found.2 h.first.answer)

  check_completes : (after : Files) (out : List ℕ) (answer : Status) → (answer ≡ status.Desk → ⊥) → Checks budget files after book out answer → IsDoneOrMemory answer
  check_completes after out answer other (Checks.done h) = tt
  check_completes after out answer other (Checks.too_long long same) = absurd (not_longer book_limit files book right.text right.fetched long)
  check_completes after out answer other (Checks.no_book h same) = absurd (is_a_book answer h)
  check_completes after out answer other (Checks.item_refused h) = absurd (no_item_refused after out answer h)
  check_completes after out answer other (Checks.desk l) = absurd (other refl)
  check_completes after out answer other (Checks.memory l) = tt

-- ---- a derivation

module _ (files : Files) (deriv : List ℕ) (right : IsDerivationFile files deriv) where
  verify_completes : (after : Files) (answer : Status) → (answer ≡ status.Desk → ⊥) → Verifies files after deriv answer → IsDoneOrMemory answer
  verify_completes after answer other (Verifies.done bytes fetched verified same) = tt
  verify_completes after answer other (Verifies.too_long long same) = absurd (not_longer derivation_limit files deriv right.bytes right.fetched long)
  verify_completes after answer other (Verifies.bad_record bytes fetched refused same) =
      let D : List ℕ → Type 0 = λ b. Derives b right.entries right.notes in
      absurd (refused.derives_nothing right.entries right.notes (subst D (one_content (files deriv) bytes right.bytes fetched.there right.fetched.there) right.derives))
  verify_completes after answer other (Verifies.desk same) = absurd (other refl)
  verify_completes after answer other (Verifies.memory same) = tt

-- ---- a command

performs_completes : (before after : Files) (c : Command) (answer : Status) → IsPossible before c → (answer ≡ status.Desk → ⊥)
    → Performs before after c answer → IsDoneOrMemory answer
performs_completes before after (Check book out budget) answer right other checks =
    check_completes budget before book right after out answer other checks
performs_completes before after (Verify deriv) answer right other verifies = verify_completes before deriv right after answer other verifies

-- what is to be read is there
is_there : (files : Files) (c : Command) → IsPossible files c → LacksSource files c → ⊥
is_there files (Check book out budget) right absent = not_there (files book) right.text right.fetched.there absent
is_there files (Verify deriv) right absent = not_there (files deriv) right.bytes right.fetched.there absent

-- ---- what the words ask for

possible : {files : Files} {words : List (List ℕ)} (c : Command) → CanBeDone files words → Asks words c → IsPossible files c
possible {files} c h asked = subst (IsPossible files) (command_once h.asked asked) h.possible

by_outcome : {before after : Files} {words : List (List ℕ)} (answer : Status) → CanBeDone before words → (answer ≡ status.Desk → ⊥) → Outcome before after words answer → IsDoneOrMemory answer
by_outcome {before} {after} answer h other (Outcome.command c asked performs) =
    performs_completes before after c answer (possible c h asked) other performs
by_outcome answer h other (Outcome.no_command unknown is same) = absurd (unknown h.command h.asked)

-- ---- the desk

module _ (old new : Seen) (words : List (List ℕ)) (answer : Status) where
  no_desk : CanBeDone old.files words → (answer ≡ status.Desk → Rose old.faults new.faults) → (IsTrue old.sound → answer ≡ status.Desk → IsAbsent old.files words)
      → IsUndisturbed old new → answer ≡ status.Desk → ⊥
  no_desk h rises absent (no_fault n) e = n (rises e)
  no_desk h rises absent (sound s) e = let a = absent s e in is_there old.files a.command (possible a.command h a.asked) a.absent

  pub completes : (IsTrue old.tells_files → Outcome old.files new.files words answer) → (answer ≡ status.Desk → Rose old.faults new.faults)
      → (IsTrue old.tells_files → IsTrue old.sound → answer ≡ status.Desk → IsAbsent old.files words)
      → IsTrue old.tells_files → IsUndisturbed old new → CanBeDone old.files words → IsDoneOrMemory answer
  completes outcome rises absent told undisturbed h = by_outcome answer h (no_desk h rises (absent told) undisturbed) (outcome told)
