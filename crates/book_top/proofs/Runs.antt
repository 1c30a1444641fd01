-- From the parts of a check to what it answers.
use Rattle.std.proofs.Common.{Option, ◌≢◌, ◌≡◌, ◌⊎◌, inl, inr, refl, Ok, Err, ◌<◌, ◌≤◌, ◌+◌, ℕ, zero}
use Rattle.std.proofs.Common.{suc, List, [], ◌∷◌, length, take, get_or, ap, sym, subst, ◌∙◌, arith}
use Rattle.std.proofs.lemmas.List.{take_all, length-take}
use Rattle.ld_terms.specs.Known.{Note}
use Rattle.fb_parse.specs.declared.tree.Item.{Item}
use Rattle.fb_parse.specs.Items.{SurfaceItem}
use Rattle.fb_parse.specs.ItemView.{items_view}
use Rattle.fb_parse.specs.Standing.{ItemsStand}
use Rattle.fb_parse.specs.Texts.{IsBookText}
use Rattle.fb_base.specs.declared.places.Span.{Span}
use Rattle.book_top.specs.Book.{Book}
use Rattle.book_top.specs.Spells.{Spells, Accepts, none, more}
use Rattle.book_top.specs.Judged.{IsNameSpan, outcome_of}
use Rattle.fb_parse.specs.Texts.{BeginsBook, Refuses}
use Rattle.fb_parse.specs.declared.fault.ParseFault.{ParseFault}
use Rattle.fb_parse.specs.declared.fault.ParseFault.TheVariants as parse
use Rattle.ld_terms.specs.Item as bank
use Rattle.book_top.specs.declared.status.Status.{Status}
use Rattle.book_top.specs.declared.status.Status.TheVariants as status
use Rattle.book_top.specs.declared.status.Summary.{Summary}
use Rattle.book_top.specs.declared.check.Stop.{Stop}
use Rattle.book_top.specs.declared.check.Stop.TheVariants as stop
use Rattle.book_top.specs.declared.item.ItemStop.{ItemStop}
use Rattle.book_top.specs.declared.item.ItemStop.TheVariants as item
use Rattle.book_top.specs.Verdict as verdict
use Rattle.book_top.specs.Left.{Files, IsKept, IsLeft, kept, between, whole as whole_left}
use Rattle.book_top.specs.Checked.{IsOutcome, IsChecked, AnswersFault, AnswersStop}
use Rattle.book_top.specs.Check.{IsFetched, AnswersOutcome, AnswersItem, Leaves, untouched, left, Checks, done, too_long, no_book}
use Rattle.book_top.specs.Check.{item_refused}
use Rattle.book_top.specs.Top.{IsAnswerOf}

-- fewer bytes than were asked for are all of them
pub whole : (content items : List ℕ) (most : ℕ) → items ≡ take (most + 1) content → length items ≤ most → items ≡ content
whole content items most is short =
    is ∙ take_all (most + 1) content (omega (arith, ap length is, length-take (most + 1) content))

spans : (text : List ℕ) (items : List Item) → ItemsStand text (items_view text items) → (k : ℕ) (d : Item) → k < length items → IsNameSpan text (get_or items k d).name
spans text [] h k d l = absurd (omega arith)
spans text (x ∷ xs) h zero d l = record { ordered = h.0.name.lies.ordered; within = h.0.name.lies.within; some = h.0.name.name.some; short = h.0.name.name.short }
spans text (x ∷ xs) h (suc k) d l = spans text xs h.1 k d (omega arith)

-- each item's name lies in the text
pub names_lie : (bytes text other : List ℕ) (items : List Item) → text ≡ bytes → other ≡ bytes → ItemsStand text (items_view text items)
    → (k : ℕ) (d : Item) → k < length items → IsNameSpan other (get_or items k d).name
names_lie bytes text other items one two h =
    let P : List ℕ → Type 0 = λ t. (k : ℕ) (d : Item) → k < length items → IsNameSpan t (get_or items k d).name in
    subst P (one ∙ sym two) (spans text items h)

pub spells_of : {budget : ℕ} {start end : Book} {is : List SurfaceItem} {notes : List Note} {cost : ℕ} → Accepts budget start is notes end cost → Spells start is notes end
spells_of none = Spells.none
spells_of (more r e v few rest) = Spells.more r e (spells_of rest)

-- A text that is no book, or for which memory ran out.
pub parse_checks : (budget : ℕ) (before after : Files) (book out bytes text : List ℕ) (fault : ParseFault) (answer : Status) → after ≡ before → text ≡ bytes → IsFetched before book bytes
    → Refuses text BeginsBook fault → AnswersFault fault answer → Checks budget before after book out answer
parse_checks budget before after book out bytes text fault answer same is fetched refused answers =
    let P : List ℕ → Type 0 = λ t. Refuses t BeginsBook fault in
    by_fault fault (subst P is refused) answers
  where
    by_fault : (f : ParseFault) → Refuses bytes BeginsBook f → AnswersFault f answer → Checks budget before after book out answer
    by_fault (parse.Lex f) r a = no_book (record { text = bytes; fault = parse.Lex f; fetched = fetched; refused = r; answers = a }) same
    by_fault (parse.Syntax at) r a = no_book (record { text = bytes; fault = parse.Syntax at; fetched = fetched; refused = r; answers = a }) same
    by_fault (parse.Deep at) r a = no_book (record { text = bytes; fault = parse.Deep at; fetched = fetched; refused = r; answers = a }) same
    by_fault (parse.ManyItems at) r a = no_book (record { text = bytes; fault = parse.ManyItems at; fetched = fetched; refused = r; answers = a }) same
    by_fault parse.Memory r a =
        let Q : Status → Type 0 = λ s. Checks budget before after book out s in
        subst Q (sym a) (Checks.memory (untouched (ap (λ (files : Files). files out) same)))

-- the answer for a stop, over any terms
stop_answers : (items : List bank.Item) (number : ℕ) (at : Span) (s : ItemStop) (answer : Status) → s ≢ item.Memory → AnswersStop (stop.Item number at s) answer
    → AnswersOutcome number at (outcome_of items s) answer
stop_answers items number at (item.Text f) answer no_memory a = a items
stop_answers items number at item.ManyFlags answer no_memory a = a items
stop_answers items number at item.High answer no_memory a = a items
stop_answers items number at (item.Refused f) answer no_memory a = a items
stop_answers items number at (item.Budget w) answer no_memory a = a items
stop_answers items number at item.Memory answer no_memory a = absurd (no_memory refl)

item_answers : (i : SurfaceItem) (before number : ℕ) (o : verdict.Outcome) (s : ItemStop) (answer : Status) → IsOutcome s o → number ≡ before + 1
    → AnswersStop (stop.Item number i.span s) answer → AnswersItem i before o answer
item_answers i before number o s answer same is a =
    let A : verdict.Outcome → Type 0 = λ outcome. AnswersItem i before outcome answer in
    let N : ℕ → Type 0 = λ n. AnswersOutcome n i.span (outcome_of same.items s) answer in
    subst A (sym same.is) (subst N is (stop_answers same.items number i.span s answer same.no_memory a))

-- the check of the items of a parsed book
module _ (budget : ℕ) (before after : Files) (book out bytes text other : List ℕ) (items : List Item) (one : text ≡ bytes) (two : other ≡ bytes)
    (fetched : IsFetched before book bytes) (parsed_text : IsBookText text (items_view text items)) where
  parsed : IsBookText bytes (items_view bytes items)
  parsed =
      let P : List ℕ → Type 0 = λ t. IsBookText t (items_view t items) in
      subst P one parsed_text

  pub done_checks : (s : Summary) → IsChecked budget (before out) (after out) (items_view other items) (Ok s) → Checks budget before after book out (status.Done s)
  done_checks s checked =
      let Q : List ℕ → Type 0 = λ t. IsChecked budget (before out) (after out) (items_view t items) (Ok s) in
      let d = subst Q two checked in
      done (record {
        text = bytes;
        items = items_view bytes items;
        notes = d.notes;
        spelled = d.book;
        cost = d.cost;
        fetched = fetched;
        parsed = parsed;
        spells = spells_of d.accepted;
        accepted = d.accepted;
        derives = d.derives;
        items_are = d.items_are;
        entries_are = d.entries_are;
        steps_are = d.steps_are;
      })

  leaves : (Begun : List SurfaceItem → Option (List ℕ) → Type 0) → (after out ≡ before out) ⊎ Begun (items_view bytes items) (after out) → Leaves Begun before after book out
  leaves Begun (inl e) = untouched e
  leaves Begun (inr h) = left bytes (items_view bytes items) fetched parsed h

  pub stop_checks : (s : Stop) (answer : Status) → IsChecked budget (before out) (after out) (items_view other items) (Err s) → AnswersStop s answer → Checks budget before after book out answer
  stop_checks s answer checked answers =
      let Q : List ℕ → Type 0 = λ t. IsChecked budget (before out) (after out) (items_view t items) (Err s) in
      by_stop s (subst Q two checked) answers
    where
      by_stop : (s : Stop) → IsChecked budget (before out) (after out) (items_view bytes items) (Err s) → AnswersStop s answer → Checks budget before after book out answer
      by_stop stop.Desk c a =
          let R : Status → Type 0 = λ s. Checks budget before after book out s in
          subst R (sym a) (Checks.desk (leaves (IsLeft budget) c))
      by_stop stop.Memory c a =
          let R : Status → Type 0 = λ s. Checks budget before after book out s in
          subst R (sym a) (Checks.memory (leaves (IsKept budget) c))
      by_stop (stop.Item n at s) c a =
          let S : Span → Type 0 = λ place. AnswersStop (stop.Item n place s) answer in
          item_refused (record {
            text = bytes;
            items = items_view bytes items;
            number = c.before;
            item = c.item;
            outcome_is = c.outcome_is;
            fetched = fetched;
            parsed = parsed;
            first = c.first;
            answers = item_answers c.item c.before n c.outcome_is s answer c.same c.number_is (subst S c.at_is a);
            left = c.left;
          })

-- what a check that was answered leaves, if the report fails
leaves_of : (budget : ℕ) (before after : Files) (book out : List ℕ) (s : Status) → s ≢ status.Desk → Checks budget before after book out s → Leaves (IsKept budget) before after book out
leaves_of budget before after book out s other (done d) = left d.text d.items d.fetched d.parsed (whole_left d.accepted d.derives)
leaves_of budget before after book out s other (too_long long same) = untouched (ap (λ (files : Files). files out) same)
leaves_of budget before after book out s other (no_book h same) = untouched (ap (λ (files : Files). files out) same)
leaves_of budget before after book out s other (item_refused r) =
    left r.text r.items r.fetched r.parsed (between (record { some = r.first.before; cost = r.first.cost; split = r.first.split; accepted = r.first.accepted; front = r.left }))
leaves_of budget before after book out s other (Checks.desk l) = absurd (other refl)
leaves_of budget before after book out s other (Checks.memory l) = l

left_of_kept : (budget : ℕ) (before after : Files) (book out : List ℕ) → Leaves (IsKept budget) before after book out → Leaves (IsLeft budget) before after book out
left_of_kept budget before after book out (untouched e) = untouched e
left_of_kept budget before after book out (left text items fetched parsed h) = left text items fetched parsed (kept h)

-- the answer after the report was said, or wasn't
pub said_checks : (budget : ℕ) (before mid after : Files) (book out : List ℕ) (given answer : Status) → Checks budget before mid book out given → after ≡ mid
    → IsAnswerOf given answer → Checks budget before after book out answer
said_checks budget before mid after book out given answer h same is =
    let F : Files → Type 0 = λ files. Checks budget before files book out answer in
    subst F (sym same) (by_answer is)
  where
    by_answer : IsAnswerOf given answer → Checks budget before mid book out answer
    by_answer (inl e) = let R : Status → Type 0 = λ s. Checks budget before mid book out s in subst R (sym e) h
    by_answer (inr (other, inl e)) =
        let R : Status → Type 0 = λ s. Checks budget before mid book out s in
        subst R (sym e) (Checks.desk (left_of_kept budget before mid book out (leaves_of budget before mid book out given other h)))
    by_answer (inr (other, inr e)) = let R : Status → Type 0 = λ s. Checks budget before mid book out s in subst R (sym e) (Checks.memory (leaves_of budget before mid book out given other h))
