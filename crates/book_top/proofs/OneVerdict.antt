-- An item has at most one verdict, whatever the budget.
use Rattle.std.proofs.Common.{◌≡◌, ℕ, [], Ok, ap, subst}
use Rattle.ld_reduce.specs.Task.{Answer, Pairs}
use Rattle.ld_convert.specs.Laws.{AnswersOnce}
use Rattle.ld_infer.specs.Reading.{Refusal}
use Rattle.ld_defrules.proofs.Once.{judges_once}
use Rattle.fb_parse.specs.Items.{SurfaceItem}
use Rattle.book_top.specs.Book.{Book, Reading, Flag, Prim, Line, closed}
use Rattle.book_top.specs.Verdict.{Verdict, Verdicts, unread, high, judged, by_answer, read_item, IsSmallReading, judging}
use Rattle.book_top.specs.Laws.{JudgedOnce}
use Rattle.book_top.proofs.Verdicts.{one_reading, no_reading, unread_only, high_only}

judging_once : (b : Book) (r : Reading) → AnswersOnce (judging b r)
judging_once b (Flag type) = judges_once.flags b.env b.context type
judging_once b (Prim type) = judges_once.primitives b.env b.context type
judging_once b (Line body type) = judges_once.lines b.env b.context body type

module _ (b : Book) (i : SurfaceItem) where
  both_judged : (r : Reading) (answer : Answer Refusal (Unit {0})) (pairs : Pairs) (n : ℕ) → read_item b i ≡ Ok r → IsSmallReading r → judging (closed i.bars b) r [] answer pairs n
      → (w : Verdict) (m : ℕ) → Verdicts b i w m → (w ≡ by_answer answer) × (m ≡ n)
  both_judged r answer pairs n e small g w m (unread {v = u} f) = absurd (no_reading b i r u e f)
  both_judged r answer pairs n e small g w m (high {r = q} f big) = absurd (big (subst IsSmallReading (one_reading b i q r f e) small))
  both_judged r answer pairs n e small g w m (judged {r = q} other left f also h) =
      let P : Reading → Type 0 = λ x. judging (closed i.bars b) x [] other left m in
      let one = judging_once (closed i.bars b) r [] left pairs other answer m n (subst P (one_reading b i r q e f) h) g in
      (ap by_answer one.answer, one.steps)

  one_verdict : (v w : Verdict) (n m : ℕ) → Verdicts b i v n → Verdicts b i w m → (w ≡ v) × (m ≡ n)
  one_verdict v w n m (unread e) k = unread_only b i v e w m k
  one_verdict v w n m (high {r = r} e big) k = high_only b i r e big w m k
  one_verdict v w n m (judged {r = r} answer pairs e small g) k = both_judged r answer pairs n e small g w m k

pub judged_once : JudgedOnce
judged_once = record { once = one_verdict }
