-- The verdict on an item is the only one.
use Rattle.std.proofs.Common.{◌≡◌, ◌<◌, ℕ, List, [], ◌∷◌, ◌++◌, Result, Ok, Err, refl, ap, subst, ◌∙◌, arith}
use Rattle.ld_terms.specs.Item.{Item}
use Rattle.ld_reduce.specs.Task.{Answer, Gives, Fails, High, Nested, Pairs}
use Rattle.ld_infer.specs.Reading.{Refusal}
use Rattle.ld_infer.specs.Infers.{refusal_of}
use Rattle.ld_infer.specs.Standing.{Standing, known}
use Rattle.fb_parse.specs.Items.{SurfaceItem, SurfaceKind}
use Rattle.fb_parse.specs.Items as item
use Rattle.fb_scope.specs.State.{State}
use Rattle.book_top.specs.declared.item.ItemStop.{ItemStop}
use Rattle.book_top.specs.declared.item.ItemStop.TheVariants as stop
use Rattle.book_top.specs.declared.status.Want.TheVariants as want
use Rattle.book_top.specs.Book.{Book, Reading, names_of, book_of, closed, with_item, note_of}
use Rattle.book_top.specs.Names.{◌>>=◌, reading_of}
use Rattle.book_top.specs.Verdict.{Verdict, Verdicts, unread, high, judged, TextRefused, ManyFlags, TooHigh, by_answer, HasVerdict, Answers, HasOutcome, answers, steps, read_item, read_here, name_free, text_refused, IsSmallReading, judging}
use Rattle.book_top.specs.Judged.{StopsItemBy, JudgesItem}
use Rattle.book_top.specs.Told.{free_by, read_by, TellsStop, Costs, IsAnswer, StopsReading, JudgesReading}

free_same : (b : Book) (i : SurfaceItem) (k : SurfaceKind) → name_free b i k ≡ free_by b.scope (names_of b.env) i k
free_same b i (item.Flag a) = refl
free_same b i (item.Prim a) = refl
free_same b i (item.Line body a) = refl

pub here_by : (b : Book) (i : SurfaceItem) → read_here b i ≡ read_by b.scope (names_of b.env) i
here_by b i = ap (λ f. f >>= (λ free. text_refused (reading_of b.scope (names_of b.env) i.span i.kind))) (free_same b i i.kind)

module _ (b : Book) (i : SurfaceItem) where
  pub one_reading : (r q : Reading) → read_item b i ≡ Ok r → read_item b i ≡ Ok q → q ≡ r
  one_reading r q e f = cc

  pub no_reading : (r : Reading) (v : Verdict) → read_item b i ≡ Ok r → read_item b i ≡ Err v → ⊥
  no_reading r v e f = cc

  one_refusal : (v w : Verdict) → read_item b i ≡ Err v → read_item b i ≡ Err w → w ≡ v
  one_refusal v w e f = cc

  pub unread_only : (v : Verdict) → read_item b i ≡ Err v → (w : Verdict) (m : ℕ) → Verdicts b i w m → (w ≡ v) × (m ≡ 0)
  unread_only v e w m (unread f) = (one_refusal v w e f, refl)
  unread_only v e w m (high {r = q'} f big) = absurd (no_reading q' v f e)
  unread_only v e w m (judged {r = q'} answer pairs f small g) = absurd (no_reading q' v f e)

  pub high_only : (r : Reading) → read_item b i ≡ Ok r → (IsSmallReading r → ⊥) → (w : Verdict) (m : ℕ) → Verdicts b i w m → (w ≡ TooHigh) × (m ≡ 0)
  high_only r e big w m (unread {v = u} f) = absurd (no_reading r u e f)
  high_only r e big w m (high f other) = (refl, refl)
  high_only r e big w m (judged {r = q} answer pairs f small g) = absurd (big (subst IsSmallReading (one_reading r q e f) small))

  judged_only : (r : Reading) (budget : ℕ) (answer : Answer Refusal (Unit {0})) (n : ℕ) → read_item b i ≡ Ok r → IsSmallReading r → Costs (judging (closed i.bars b) r) budget answer n
      → (w : Verdict) (m : ℕ) → Verdicts b i w m → (w ≡ by_answer answer) × (m ≡ n)
  judged_only r budget answer n e small c w m (unread {v = u} f) = absurd (no_reading r u e f)
  judged_only r budget answer n e small c w m (high {r = q} f big) = absurd (big (subst IsSmallReading (one_reading q r f e) small))
  judged_only r budget answer n e small c w m (judged {r = q} other pairs f also g) =
      let P : Reading → Type 0 = λ x. judging (closed i.bars b) x [] other pairs m in
      let one = c.answers.only other pairs m (subst P (one_reading r q e f) g) in
      (ap (by_answer) one.0, one.2)

  pub verdict_judged : (r : Reading) (budget : ℕ) (answer : Answer Refusal (Unit {0})) (n : ℕ) → read_item b i ≡ Ok r → IsSmallReading r → Costs (judging (closed i.bars b) r) budget answer n
      → HasVerdict b i (by_answer answer) n
  verdict_judged r budget answer n e small c = record { is = judged answer c.known e small c.answers.is; only = judged_only r budget answer n e small c }

  outcome_judged : (r : Reading) (budget : ℕ) (answer : Answer Refusal (Unit {0})) → read_item b i ≡ Ok r → IsSmallReading r → IsAnswer (judging (closed i.bars b) r) budget answer
      → HasOutcome budget b i (Answers (by_answer answer))
  outcome_judged r budget answer e small c = answers (verdict_judged r budget answer c.0 e small c.1) c.1.within

  outcome_unread : (budget : ℕ) (v : Verdict) → read_item b i ≡ Err v → HasOutcome budget b i (Answers v)
  outcome_unread budget v e = answers (record { is = unread e; only = unread_only v e }) (omega arith)

  outcome_high : (budget : ℕ) (r : Reading) → read_item b i ≡ Ok r → (IsSmallReading r → ⊥) → HasOutcome budget b i (Answers TooHigh)
  outcome_high budget r e big = answers (record { is = high e big; only = high_only r e big }) (omega arith)

  costs_more : (budget : ℕ) (r : Reading) → read_item b i ≡ Ok r → IsSmallReading r
      → ((answer : Answer Refusal (Unit {0})) (known : Pairs) (n : ℕ) → judging (closed i.bars b) r [] answer known n → budget < n)
      → (v : Verdict) (n : ℕ) → Verdicts b i v n → budget < n
  costs_more budget r e small more v n (unread {v = w} f) = absurd (no_reading r w e f)
  costs_more budget r e small more v n (high {r = q} f big) = absurd (big (subst IsSmallReading (one_reading q r f e) small))
  costs_more budget r e small more v n (judged {r = q} answer pairs f also g) =
      let P : Reading → Type 0 = λ x. judging (closed i.bars b) x [] answer pairs n in
      more answer pairs n (subst P (one_reading r q e f) g)

  pub unread_stops : (budget : ℕ) (items : List Item) (z : ItemStop) → TellsStop (read_item b i) z → StopsItemBy budget b items i z
  unread_stops budget items (stop.Text f) h = outcome_unread budget (TextRefused f) h
  unread_stops budget items stop.ManyFlags h = outcome_unread budget ManyFlags h
  unread_stops budget items stop.Memory h = tt
  unread_stops budget items stop.High h = absurd h
  unread_stops budget items (stop.Refused f) h = absurd h
  unread_stops budget items (stop.Budget w) h = absurd h

  pub read_stops : (budget : ℕ) (items : List Item) (r : Reading) (z : ItemStop) → read_item b i ≡ Ok r → StopsReading budget (closed i.bars b) items r z → StopsItemBy budget b items i z
  read_stops budget items r (stop.Text f) e h = absurd h
  read_stops budget items r stop.ManyFlags e h = absurd h
  read_stops budget items r stop.Memory e h = tt
  read_stops budget items r stop.High e h = outcome_high budget r e h
  read_stops budget items r (stop.Refused f) e h = outcome_judged r budget (Fails (refusal_of items f)) e h.0 h.1
  read_stops budget items r (stop.Budget want.Steps) e h = steps (costs_more budget r e h.0 h.1)
  read_stops budget items r (stop.Budget want.Height) e h = outcome_judged r budget High e h.0 h.1
  read_stops budget items r (stop.Budget want.Nesting) e h = outcome_judged r budget Nested e h.0 h.1

-- the same where the flags beyond the item's bars are closed
pub item_judged : (budget : ℕ) (old mid new : Standing) (before between after : State) (i : SurfaceItem) (r : Reading) (q : Result ℕ ItemStop)
    → book_of mid between ≡ closed i.bars (book_of old before) → (known mid).notes ≡ (known old).notes → read_item (book_of old before) i ≡ Ok r
    → JudgesReading budget mid new between after i.name r q → JudgesItem budget old new before after i q
item_judged budget old mid new before between after i r (Ok n) same notes e h =
    let P : Book → Type 0 = λ b. Costs (judging b r) budget (Gives tt) n in
    record {
      reading = r;
      read = e;
      verdict_is = verdict_judged (book_of old before) i r budget (Gives tt) n e h.small (subst P same h.costs);
      within = h.costs.within;
      becomes = h.becomes ∙ ap (with_item i.name r) same;
      notes = h.notes ∙ (λ j. notes j ++ note_of i.name r (same j) ∷ []);
    }
item_judged budget old mid new before between after i r (Err z) same notes e h =
    let P : Book → Type 0 = λ b. StopsReading budget b new.items r z in
    read_stops (book_of old before) i budget new.items r z e (subst P same h)
