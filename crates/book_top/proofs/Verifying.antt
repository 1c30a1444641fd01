-- From the parts of a verification to what it answers.
use Rattle.std.proofs.Common.{◌≡◌, ◌≤◌, ◌∙◌, inl, inr, ℕ, List, IsTrue, Err, None, ap, sym, subst}
use Rattle.fb_base.specs.Desk.{Seen, Rose}
use Rattle.dr_text.specs.declared.reader.RecordFault.{RecordFault}
use Rattle.dr_text.specs.declared.reader.RecordFault.TheVariants as record_fault
use Rattle.dr_check.specs.Checks.{ChecksFile}
use Rattle.book_top.specs.declared.status.LimitFault.TheVariants as limit
use Rattle.book_top.specs.declared.status.Status.{Status}
use Rattle.book_top.specs.declared.status.Status.TheVariants as status
use Rattle.book_top.specs.Left.{Files}
use Rattle.book_top.specs.Fetched.{IsFetchedWithin, StopsFetch}
use Rattle.book_top.specs.Verify.{derivation_limit, Verifies, MayVerify, AnswersBytes, refusal_of}
use Rattle.book_top.specs.Top.{IsAnswerOf}
use Rattle.book_top.specs.Said.{HasNoPlace}
use Rattle.book_top.specs.Command.{Verify}
use Rattle.book_top.proofs.Fetching.{fetch_stops, unfetched_may}
use Rattle.book_top.proofs.Answered.{IsAnswered}

-- a verification leaves the files as they are
verify_same : {before after : Files} {deriv : List ℕ} {s : Status} → Verifies before after deriv s → after ≡ before
verify_same (Verifies.done bytes fetched verified same) = same
verify_same (Verifies.too_long long same) = same
verify_same (Verifies.bad_record bytes fetched refused same) = same
verify_same (Verifies.desk same) = same
verify_same (Verifies.memory same) = same

pub said_verifies : (before mid after : Files) (deriv : List ℕ) (given answer : Status) → Verifies before mid deriv given → after ≡ mid
    → IsAnswerOf given answer
    → Verifies before after deriv answer
said_verifies before mid after deriv given answer h same is =
    let F : Files → Type 0 = λ files. Verifies before files deriv answer in
    subst F (sym same) (by_answer is)
  where
    by_answer : IsAnswerOf given answer → Verifies before mid deriv answer
    by_answer (inl e) = let R : Status → Type 0 = λ s. Verifies before mid deriv s in subst R (sym e) h
    by_answer (inr (other, inl e)) =
        let R : Status → Type 0 = λ s. Verifies before mid deriv s in
        subst R (sym e) (Verifies.desk (verify_same h))
    by_answer (inr (other, inr e)) =
        let R : Status → Type 0 = λ s. Verifies before mid deriv s in
        subst R (sym e) (Verifies.memory (verify_same h))

pub unfetched_verifies : (before after : Seen) (deriv : List ℕ) (s : Status) → StopsFetch derivation_limit limit.DerivBytes before deriv s
    → after.files ≡ before.files
    → IsTrue before.tells_files → Verifies before.files after.files deriv s
unfetched_verifies before after deriv s h same told =
    fetch_stops derivation_limit limit.DerivBytes before deriv (λ answer. Verifies before.files after.files deriv answer) s h told
    (λ long. Verifies.too_long long same) (Verifies.desk same) (Verifies.memory same)

-- the answer for the bytes of a derivation file that was fetched
pub bytes_verify : (before after : Files) (deriv bytes other : List ℕ) (s : Status) → AnswersBytes other s → other ≡ bytes
    → IsFetchedWithin derivation_limit before deriv bytes
    → after ≡ before → Verifies before after deriv s
bytes_verify before after deriv bytes other s h is fetched same =
    let P : List ℕ → Type 0 = λ b. AnswersBytes b s in
    by_answer s (subst P is h)
  where
    by_answer : (s : Status) → AnswersBytes bytes s → Verifies before after deriv s
    by_answer (status.Done summary) h = Verifies.done bytes fetched h same
    by_answer (status.BadRecord fault) h = Verifies.bad_record bytes fetched h same
    by_answer status.Memory h = Verifies.memory same
    by_answer status.Desk h = absurd h
    by_answer (status.Limit x) h = absurd h
    by_answer (status.Text x) h = absurd h
    by_answer status.Usage h = absurd h
    by_answer (status.Rule x) h = absurd h
    by_answer (status.Budget x) h = absurd h

-- the answer for bytes that are refused
pub refused_bytes : (bytes : List ℕ) (f : RecordFault) (s : Status) → ChecksFile bytes (Err f) → s ≡ refusal_of f → AnswersBytes bytes s
refused_bytes bytes f s h is = subst (AnswersBytes bytes) (sym is) (by_fault f h)
  where
    by_fault : (f : RecordFault) → ChecksFile bytes (Err f) → AnswersBytes bytes (refusal_of f)
    by_fault (record_fault.Malformed at) h = h
    by_fault record_fault.Unfinished h = h
    by_fault (record_fault.BadRef n) h = h
    by_fault (record_fault.BadStep n) h = h
    by_fault record_fault.Memory h = tt

-- ---- which statuses it answers

-- the answers of a verification have no place in a book
pub verify_placeless : (s : Status) → MayVerify s → HasNoPlace s
verify_placeless (status.Limit limit.DerivBytes) h = tt
verify_placeless (status.Limit limit.BookBytes) h = tt
verify_placeless (status.Limit (limit.Nesting at)) h = absurd h
verify_placeless (status.Limit (limit.Items at)) h = absurd h
verify_placeless (status.Limit (limit.Height at)) h = absurd h
verify_placeless (status.Limit (limit.Flags at)) h = absurd h
verify_placeless (status.Done x) h = tt
verify_placeless (status.BadRecord x) h = tt
verify_placeless status.Desk h = tt
verify_placeless status.Memory h = tt
verify_placeless status.Usage h = absurd h
verify_placeless (status.Text x) h = absurd h
verify_placeless (status.Rule x) h = absurd h
verify_placeless (status.Budget x) h = absurd h

pub bytes_may : (bytes : List ℕ) (s : Status) → AnswersBytes bytes s → MayVerify s
bytes_may bytes (status.Done summary) h = tt
bytes_may bytes (status.BadRecord fault) h = tt
bytes_may bytes status.Memory h = tt
bytes_may bytes status.Desk h = absurd h
bytes_may bytes (status.Limit x) h = absurd h
bytes_may bytes (status.Text x) h = absurd h
bytes_may bytes status.Usage h = absurd h
bytes_may bytes (status.Rule x) h = absurd h
bytes_may bytes (status.Budget x) h = absurd h

pub unfetched_may_verify : (before : Seen) (deriv : List ℕ) (s : Status) → StopsFetch derivation_limit limit.DerivBytes before deriv s
    → MayVerify s
unfetched_may_verify before deriv s h = unfetched_may derivation_limit limit.DerivBytes before deriv MayVerify s h tt tt tt

-- ---- the answer

pub verified : (old new : Seen) (deriv text : List ℕ) (given : Status) → new ≡ record old { faults = new.faults } → old.faults ≤ new.faults
    → (IsTrue old.tells_files → Verifies old.files new.files deriv given) → MayVerify given
    → (given ≡ status.Desk → Rose old.faults new.faults)
    → (given ≡ status.Desk → IsTrue old.tells_files → IsTrue old.sound → old.files deriv ≡ None)
    → IsAnswered (Verify deriv) old new text given
verified old new deriv text given same falls verifies may rises absent = record {
  performs = verifies;
  may = may;
  changes = same ∙ ap (λ said. record old { said = said; faults = new.faults }) (sym (ap (λ (s : Seen). s.said) same));
  of_source = λ placed told. absurd (placed (verify_placeless given may));
  said = ap (λ (s : Seen). s.said) same;
  tells_files = ap (λ (s : Seen). s.tells_files) same;
  tells_said = ap (λ (s : Seen). s.tells_said) same;
  sound = ap (λ (s : Seen). s.sound) same;
  never_falls = falls;
  rises = rises;
  absent = λ told sound is. absent is told sound;
}
