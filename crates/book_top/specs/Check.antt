-- The command `check`: what the check of a book answers, and what stands in its file then.
use Rattle.std.specs.Prelude.{◌≡◌, ◌≤◌, ◌+◌, ℕ, ⊤, List, [], ◌∷◌, length, Option, Ok}
use Rattle.ld_terms.specs.Known.{Note}
use Rattle.fb_base.specs.declared.places.Span.{Span}
use Rattle.fb_lex.specs.declared.tokens.LexFault.TheVariants.{BadByte, LongName}
use Rattle.fb_parse.specs.declared.fault.ParseFault.{ParseFault}
use Rattle.fb_parse.specs.declared.fault.ParseFault.TheVariants as parse
use Rattle.fb_parse.specs.Items.{SurfaceItem}
use Rattle.fb_parse.specs.Texts.{IsBookText, BeginsBook, Refuses}
use Rattle.dr_text.specs.Derives.{Derives}
use Rattle.ld_infer.specs.Reading as rule
use Rattle.book_top.specs.declared.status.Status.{Status}
use Rattle.book_top.specs.declared.status.Status.TheVariants as status
use Rattle.book_top.specs.declared.status.Summary.{Summary}
use Rattle.book_top.specs.declared.status.TextFault.{TextFault}
use Rattle.book_top.specs.declared.status.TextWhat.{TextWhat}
use Rattle.book_top.specs.declared.status.TextWhat.TheVariants as what
use Rattle.book_top.specs.declared.status.RuleFault.{RuleFault}
use Rattle.book_top.specs.declared.status.Side.TheVariants as Side
use Rattle.book_top.specs.declared.status.WhyName.{WhyName}
use Rattle.book_top.specs.declared.status.WhyName.TheVariants as why
use Rattle.book_top.specs.declared.status.Want.{Want}
use Rattle.book_top.specs.declared.status.Want.TheVariants as want
use Rattle.book_top.specs.declared.status.LimitFault.TheVariants as limit
use Rattle.book_top.specs.Names.{fault_at}
use Rattle.book_top.specs.Verdict.{read_item, Verdicts, Accepted}
use Rattle.book_top.specs.Verdict as verdict
use Rattle.book_top.specs.Book.{Book, Reading, empty}
use Rattle.book_top.specs.Spells.{item_book, Spells, Accepts, FirstRefused}
use Rattle.book_top.specs.Left.{Files, content, IsFront, IsKept, IsLeft}
use Rattle.book_top.specs.Fetched.{IsFetchedWithin, IsLonger}
use Rattle.book_top.specs.Rightness.{IsLegalBook, IsUnderivable}

abbrev pub book_limit : ℕ
book_limit = 4_194_304

-- a book as it is fetched
abbrev pub IsFetched : Files → (book text : List ℕ) → Type 0
IsFetched before book text = IsFetchedWithin book_limit before book text

-- a fault at an offset
abbrev pub fault_behind : TextWhat → ℕ → TextFault
fault_behind w at = fault_at w (record { start = at; end = at })

-- the answer for a text that is no book
abbrev pub AnswersParse : ParseFault → Status → Type 0
AnswersParse (parse.Lex (BadByte at)) (status.Text f) = f ≡ fault_behind what.BadByte at
AnswersParse (parse.Lex (LongName at)) (status.Text f) = f ≡ fault_behind what.LongName at
AnswersParse (parse.Syntax at) (status.Text f) = f ≡ fault_behind what.Syntax at
AnswersParse (parse.Deep at) (status.Limit l) = l ≡ limit.Nesting at
AnswersParse (parse.ManyItems at) (status.Limit l) = l ≡ limit.Items at
AnswersParse _ _ = ⊥

-- why a premise fails, without the terms
abbrev pub why_of : rule.Reason → WhyName
why_of rule.NoType = why.NoType
why_of (rule.NotSort t) = why.NotSort
why_of (rule.NotFunction t) = why.NotFunction
why_of rule.BoxBody = why.BoxBody
why_of (rule.NotSame found wanted apart) = why.NotSame

-- the premise that fails, of the item of this number and span
pub record IsRule (number : ℕ) (at : Span) (r : rule.Refusal) (f : RuleFault) : Type 0 where
  pub side : f.side ≡ Side.Book
  pub item : f.item ≡ number
  pub place : f.at ≡ at
  pub rule : f.rule ≡ r.rule
  pub premise : f.premise ≡ r.premise
  pub path : f.path ≡ r.path
  pub why : f.why ≡ why_of r.reason

abbrev pub AnswersRule : (number : ℕ) → Span → rule.Refusal → Status → Type 0
AnswersRule number at r (status.Rule f) = IsRule number at r f
AnswersRule number at r _ = ⊥

-- what is wanted more of for the item of this number and span
abbrev pub wants : (number : ℕ) → Span → Want → Status
wants number at want = status.Budget (record { side = Side.Book; item = number; at = at; want = want })

-- the answer for the item of this number and span that has this outcome
abbrev pub AnswersOutcome : (number : ℕ) → Span → verdict.Outcome → Status → Type 0
AnswersOutcome number at (verdict.Answers verdict.Accepted) s = ⊥
AnswersOutcome number at (verdict.Answers (verdict.TextRefused t)) s = s ≡ status.Text t
AnswersOutcome number at (verdict.Answers verdict.ManyFlags) s = s ≡ status.Limit (limit.Flags at.start)
AnswersOutcome number at (verdict.Answers verdict.TooHigh) s = s ≡ status.Limit (limit.Height at.start)
AnswersOutcome number at (verdict.Answers (verdict.RuleRefused r)) s = AnswersRule number at r s
AnswersOutcome number at (verdict.Answers verdict.StopsHigh) s = s ≡ wants number at want.Height
AnswersOutcome number at (verdict.Answers verdict.StopsNested) s = s ≡ wants number at want.Nesting
AnswersOutcome number at verdict.Steps s = s ≡ wants number at want.Steps

-- the answer for the first item that is refused, before which so many stand; items are counted from 1
abbrev pub AnswersItem : SurfaceItem → (before : ℕ) → verdict.Outcome → Status → Type 0
AnswersItem i n outcome s = AnswersOutcome (n + 1) i.span outcome s

-- The book is fetched and parsed, each of its items is accepted under the budget, and the file is a derivation of what they spell.
pub record IsDone (budget : ℕ) (before after : Files) (book out : List ℕ) (summary : Summary) : Type 0 where
  pub text : List ℕ
  pub items : List SurfaceItem
  pub notes : List Note
  pub spelled : Book
  pub cost : ℕ
  pub fetched : IsFetched before book text
  pub parsed : IsBookText text items
  pub spells : Spells empty items notes spelled
  pub accepted : Accepts budget empty items notes spelled cost
  pub derives : Derives (content after out) spelled.env notes
  pub items_are : summary.items ≡ length items
  pub entries_are : summary.entries ≡ length spelled.env
  pub steps_are : summary.steps ≡ cost

-- The first item that isn't accepted under the budget is refused with this answer, and the file has the records of the items before it.
pub record IsItemRefused (budget : ℕ) (before after : Files) (book out : List ℕ) (answer : Status) : Type 0 where
  pub text : List ℕ
  pub items : List SurfaceItem
  pub number : ℕ
  pub item : SurfaceItem
  pub outcome_is : verdict.Outcome
  pub fetched : IsFetched before book text
  pub parsed : IsBookText text items
  pub first : FirstRefused budget items number item outcome_is
  pub answers : AnswersItem item number outcome_is answer
  pub left : IsFront (content after out) first.book.env first.notes

-- The text is no book, with this answer.
pub record IsNoBook (before : Files) (book : List ℕ) (answer : Status) : Type 0 where
  pub text : List ℕ
  pub fault : ParseFault
  pub fetched : IsFetched before book text
  pub refused : Refuses text BeginsBook fault
  pub answers : AnswersParse fault answer

-- What a check that stops midway leaves in its file: what was there, or, where the book is one, what was begun of its derivation.
pub data Leaves (Begun : List SurfaceItem → Option (List ℕ) → Type 0) (before after : Files) (book out : List ℕ) : Type 0 where
  untouched : after out ≡ before out → Leaves Begun before after book out
  left : (text : List ℕ) (items : List SurfaceItem) → IsFetched before book text → IsBookText text items → Begun items (after out)
      → Leaves Begun before after book out

-- What a check of the book under the budget answers, and what stands in the files then.
pub data Checks (budget : ℕ) (before after : Files) (book out : List ℕ) : Status → Type 0 where
  done : {summary : Summary} → IsDone budget before after book out summary → Checks budget before after book out (status.Done summary)
  too_long : IsLonger book_limit before book → after ≡ before → Checks budget before after book out (status.Limit limit.BookBytes)
  no_book : {answer : Status} → IsNoBook before book answer → after ≡ before → Checks budget before after book out answer
  item_refused : {answer : Status} → IsItemRefused budget before after book out answer → Checks budget before after book out answer
  -- a call on the desk failed, or memory ran out
  desk : Leaves (IsLeft budget) before after book out → Checks budget before after book out status.Desk
  memory : Leaves (IsKept budget) before after book out → Checks budget before after book out status.Memory

-- the statuses that a check may answer, on any desk
abbrev pub MayCheck : Status → Type 0
MayCheck status.Usage = ⊥
MayCheck (status.Limit limit.DerivBytes) = ⊥
MayCheck (status.BadRecord f) = ⊥
MayCheck _ = ⊤

-- Each item in turn is read in the book that the items before it make, and its verdict there is that it is accepted, at a cost up to
-- the budget.
pub data AreAcceptable (budget : ℕ) : Book → List SurfaceItem → Type 0 where
  none : {b : Book} → AreAcceptable budget b []
  more : {b : Book} {i : SurfaceItem} {is : List SurfaceItem} {n : ℕ} (r : Reading) → read_item b i ≡ Ok r → Verdicts b i Accepted n
      → n ≤ budget →
      AreAcceptable budget (item_book i r b) is → AreAcceptable budget b (i ∷ is)

-- The file of this name is there, keeps the limits of a book and has a tree, and each of its items is acceptable.
pub record IsAcceptableBook (budget : ℕ) (files : Files) (book : List ℕ) : Type 0 where
  pub text : List ℕ
  pub items : List SurfaceItem
  pub fetched : IsFetched files book text
  pub parsed : IsBookText text items
  pub acceptable : AreAcceptable budget empty items

-- The fault names the first item of the book that isn't accepted, and the premise of a rule that fails there. What the items before it
-- make is legal, and after them the item has no derivation: the reason of the refusal holds of the part at its path.
pub record IsRefusedBook (budget : ℕ) (files : Files) (book : List ℕ) (fault : RuleFault) : Type 0 where
  pub text : List ℕ
  pub items : List SurfaceItem
  pub number : ℕ
  pub item : SurfaceItem
  pub refusal : rule.Refusal
  pub fetched : IsFetched files book text
  pub parsed : IsBookText text items
  pub first : FirstRefused budget items number item (verdict.Answers (verdict.RuleRefused refusal))
  pub names : IsRule (number + 1) item.span refusal fault
  pub legal : IsLegalBook first.book
  pub none : IsUnderivable first.book item refusal
