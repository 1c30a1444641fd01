-- An item that is answered with a rule has no derivation after the items before it.
use Rattle.std.proofs.Common.{◌≡◌, ℕ, ◌+◌, List, IsTrue, refl, subst}
use Rattle.fb_base.specs.Desk.{Seen}
use Rattle.fb_base.specs.declared.places.Span.{Span}
use Rattle.fb_lex.specs.declared.tokens.LexFault.TheVariants.{BadByte, LongName}
use Rattle.fb_parse.specs.declared.fault.ParseFault.{ParseFault}
use Rattle.fb_parse.specs.declared.fault.ParseFault.TheVariants as parse
use Rattle.fb_parse.specs.Items.{SurfaceItem}
use Rattle.fb_parse.specs.Texts.{IsBookText}
use Rattle.ld_infer.specs.Reading.{Refusal}
use Rattle.book_top.specs.declared.status.RuleFault.{RuleFault}
use Rattle.book_top.specs.declared.status.Status.{Status}
use Rattle.book_top.specs.declared.status.Status.TheVariants as status
use Rattle.book_top.specs.Book.{Book}
use Rattle.book_top.specs.Verdict.{Answers, Steps, HasOutcome, answers, Accepted, TextRefused, ManyFlags, TooHigh, RuleRefused, StopsHigh, StopsNested}
use Rattle.book_top.specs.Verdict as verdict
use Rattle.book_top.specs.Spells.{FirstRefused}
use Rattle.book_top.specs.Command.{Command, Check, Verify}
use Rattle.book_top.specs.Left.{Files}
use Rattle.book_top.specs.Check.{IsFetched, IsRule, AnswersParse, AnswersOutcome, IsItemRefused, Checks, IsRefusedBook}
use Rattle.book_top.specs.Verify.{Verifies}
use Rattle.book_top.specs.Top.{Performs, RefusesRightly, AnswersNoCommand, Outcome}
use Rattle.book_top.specs.Rightness.{IsLegalBook, IsUnderivable}
use Rattle.book_top.specs.Refused.{IsRightlyRefused}
use Rattle.book_top.proofs.Rightness.{refused_underivable}
use Rattle.book_top.proofs.Growing.{books_grow}

-- ---- which answers name a rule

-- a text that is no book is answered with no rule
no_book_rule : (f : ParseFault) (fault : RuleFault) → AnswersParse f (status.Rule fault) → ⊥
no_book_rule (parse.Lex (BadByte at)) fault h = h
no_book_rule (parse.Lex (LongName at)) fault h = h
no_book_rule (parse.Syntax at) fault h = h
no_book_rule (parse.Deep at) fault h = h
no_book_rule (parse.ManyItems at) fault h = h
no_book_rule parse.Memory fault h = h

no_verified_rule : {before after : Files} {deriv : List ℕ} {answer : Status} (fault : RuleFault) → answer ≡ status.Rule fault → Verifies before after deriv answer → ⊥
no_verified_rule fault is (Verifies.done bytes fetched verified same) = cc
no_verified_rule fault is (Verifies.too_long long same) = cc
no_verified_rule fault is (Verifies.bad_record bytes fetched refused same) = cc
no_verified_rule fault is (Verifies.desk same) = cc
no_verified_rule fault is (Verifies.memory same) = cc

-- of an item only that a rule refuses it
rule_refuses : (number : ℕ) (at : Span) (o : verdict.Outcome) (fault : RuleFault) → AnswersOutcome number at o (status.Rule fault) → (r : Refusal) × (o ≡ Answers (RuleRefused r)) × IsRule number at r fault
rule_refuses number at (Answers Accepted) fault h = absurd h
rule_refuses number at (Answers (TextRefused t)) fault h = absurd (cc)
rule_refuses number at (Answers ManyFlags) fault h = absurd (cc)
rule_refuses number at (Answers TooHigh) fault h = absurd (cc)
rule_refuses number at (Answers (RuleRefused r)) fault h = (r, refl, h)
rule_refuses number at (Answers StopsHigh) fault h = absurd (cc)
rule_refuses number at (Answers StopsNested) fault h = absurd (cc)
rule_refuses number at Steps fault h = absurd (cc)

-- ---- the first item that isn't accepted

has_none : (budget : ℕ) (b : Book) (i : SurfaceItem) (r : Refusal) → IsLegalBook b → HasOutcome budget b i (Answers (RuleRefused r)) → IsUnderivable b i r
has_none budget b i r legal (answers {n = n} h within) = refused_underivable.underivable b i r n legal h.is

module _ (budget : ℕ) (files : Files) (book : List ℕ) where
  first_refused : (text : List ℕ) (items : List SurfaceItem) (number : ℕ) (i : SurfaceItem) (r : Refusal) (fault : RuleFault) → IsFetched files book text → IsBookText text items
      → FirstRefused budget items number i (Answers (RuleRefused r)) → IsRule (number + 1) i.span r fault
      → IsRefusedBook budget files book fault
  first_refused text items number i r fault fetched parsed first names =
      let legal = books_grow.with_all budget first.before first.notes first.book first.cost first.accepted in
      record {
        text = text;
        items = items;
        number = number;
        item = i;
        refusal = r;
        fetched = fetched;
        parsed = parsed;
        first = first;
        names = names;
        legal = legal;
        none = has_none budget first.book i r legal first.answer;
      }

  item_refused : (after : Files) (out : List ℕ) (answer : Status) (fault : RuleFault) → answer ≡ status.Rule fault
      → IsItemRefused budget files after book out answer
      → IsRefusedBook budget files book fault
  item_refused after out answer fault is h =
      let A : Status → Type 0 = λ s. AnswersOutcome (h.number + 1) h.item.span h.outcome_is s in
      let F : verdict.Outcome → Type 0 = λ o. FirstRefused budget h.items h.number h.item o in
      let found = rule_refuses (h.number + 1) h.item.span h.outcome_is fault (subst A is h.answers) in
      first_refused h.text h.items h.number h.item found.0 fault h.fetched h.parsed (subst F found.1 h.first) found.2

  check_refused : (after : Files) (out : List ℕ) (answer : Status) (fault : RuleFault) → answer ≡ status.Rule fault
      → Checks budget files after book out answer
      → IsRefusedBook budget files book fault
  check_refused after out answer fault is (Checks.done h) = absurd (cc)
  check_refused after out answer fault is (Checks.too_long long same) = absurd (cc)
  check_refused after out answer fault is (Checks.no_book h same) =
      absurd (no_book_rule h.fault fault (subst (AnswersParse h.fault) is h.answers))
  check_refused after out answer fault is (Checks.item_refused h) = item_refused after out answer fault is h
  check_refused after out answer fault is (Checks.desk l) = absurd (cc)
  check_refused after out answer fault is (Checks.memory l) = absurd (cc)

-- ---- what the words ask for

performs_refused : (before after : Files) (c : Command) (answer : Status) (fault : RuleFault) → answer ≡ status.Rule fault
    → Performs before after c answer → RefusesRightly before c fault
performs_refused before after (Check book out budget) answer fault is checks =
    check_refused budget before book after out answer fault is checks
performs_refused before after (Verify deriv) answer fault is verifies = no_verified_rule fault is verifies

by_outcome : {before after : Files} {words : List (List ℕ)} (answer : Status) (fault : RuleFault) → answer ≡ status.Rule fault → Outcome before after words answer → IsRightlyRefused before words fault
by_outcome {before} {after} answer fault is (Outcome.command c asked performs) =
    record { command = c; asked = asked; refused = performs_refused before after c answer fault is performs }
by_outcome answer fault is (Outcome.no_command unknown answered same) = absurd (subst AnswersNoCommand is answered)

pub rightly_refused : (old new : Seen) (words : List (List ℕ)) (answer : Status) → (IsTrue old.tells_files → Outcome old.files new.files words answer)
    → IsTrue old.tells_files → (fault : RuleFault) → answer ≡ status.Rule fault → IsRightlyRefused old.files words fault
rightly_refused old new words answer outcome told fault is = by_outcome answer fault is (outcome told)
