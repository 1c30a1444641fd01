-- What is answered for an item, and how many steps that takes.
use Rattle.std.specs.Prelude.{◌≡◌, ◌<◌, ◌≤◌, ℕ, [], length, nat_lt, if◌then◌else◌, position, Option, Some, None, Result, Ok, Err}
use Rattle.std.specs.Str.{bytes_eq}
use Rattle.ld_terms.specs.Item.{One, IsSmall}
use Rattle.ld_reduce.specs.Task.{Task, Answer, Gives, Fails, High, Nested, Pairs}
use Rattle.ld_infer.specs.Reading.{Refusal}
use Rattle.ld_defrules.specs.Judged.{flag_judged, primitive_judged, line_judged}
use Rattle.fb_base.specs.declared.places.Span.{Span}
use Rattle.fb_parse.specs.Items.{SurfaceItem, SurfaceKind}
use Rattle.fb_parse.specs.Items as item
use Rattle.fb_scope.specs.State.{flag_fault}
use Rattle.fb_scope.specs.declared.fault.ScopeFault.{ScopeFault}
use Rattle.fb_scope.specs.declared.fault.ScopeFault.TheVariants as scope
use Rattle.book_top.specs.declared.status.TextFault.{TextFault}
use Rattle.book_top.specs.declared.status.TextWhat.TheVariants as what
use Rattle.book_top.specs.Book.{Book, Reading, Flag, Prim, Line, names_of, closed}
use Rattle.book_top.specs.Names.{fault_at, reading_of, ◌>>=◌}

pub data Verdict : Type 0 where
  Accepted : Verdict
  -- the text has no reading
  TextRefused : TextFault → Verdict
  -- 64 flags are open
  ManyFlags : Verdict
  -- a term as it is read isn't small
  TooHigh : Verdict
  -- a premise fails
  RuleRefused : Refusal → Verdict
  -- a term that is formed on the way isn't small, or readings are nested too deep
  StopsHigh : Verdict
  StopsNested : Verdict

abbrev pub text_refused : {A : Type 0} → Result A TextFault → Result A Verdict
text_refused (Ok x) = Ok x
text_refused (Err f) = Err (TextRefused f)

-- the depth: no more bars than open flags
abbrev pub at_depth : Book → SurfaceItem → Result (Unit {0}) Verdict
at_depth b i = if nat_lt (length b.scope.flags) i.bars then Err (TextRefused (fault_at (what.DepthTooGreat i.bars (length b.scope.flags)) i.span)) else Ok tt

-- the name is free, and there is room for a flag
abbrev pub flag_free : Span → Option ScopeFault → Result (Unit {0}) Verdict
flag_free at None = Ok tt
flag_free at (Some scope.FlagTaken) = Err (TextRefused (fault_at what.FlagTaken at))
flag_free at (Some f) = Err ManyFlags

abbrev pub entry_free : Span → Option ℕ → Result (Unit {0}) Verdict
entry_free at None = Ok tt
entry_free at (Some k) = Err (TextRefused (fault_at what.NameTaken at))

abbrev pub name_free : Book → SurfaceItem → SurfaceKind → Result (Unit {0}) Verdict
name_free b i (item.Flag a) = flag_free i.name_span (flag_fault i.name b.scope.flags)
name_free b i (item.Prim a) = entry_free i.name_span (position (bytes_eq i.name) (names_of b.env))
name_free b i (item.Line body a) = entry_free i.name_span (position (bytes_eq i.name) (names_of b.env))

-- the item read where the flags beyond its bars are closed: its name, and then the names of its terms
abbrev pub read_here : Book → SurfaceItem → Result Reading Verdict
read_here b i = name_free b i i.kind >>= λ free. text_refused (reading_of b.scope (names_of b.env) i.span i.kind)

-- the item as it is read, first its depth
abbrev pub read_item : Book → SurfaceItem → Result Reading Verdict
read_item b i = at_depth b i >>= λ deep. read_here (closed i.bars b) i

-- the terms of an item as it is read are small
abbrev pub IsSmallReading : Reading → Type 0
IsSmallReading (Flag type) = IsSmall (One type)
IsSmallReading (Prim type) = IsSmall (One type)
IsSmallReading (Line body type) = IsSmall (One type) × IsSmall (One body)

-- the judging of an item where the flags beyond its bars are closed
abbrev pub judging : Book → Reading → Task Refusal (Unit {0})
judging b (Flag type) = flag_judged b.env b.context type
judging b (Prim type) = primitive_judged b.env b.context type
judging b (Line body type) = line_judged b.env b.context body type

-- the verdict by what the judging answers
abbrev pub by_answer : Answer Refusal (Unit {0}) → Verdict
by_answer (Gives x) = Accepted
by_answer (Fails r) = RuleRefused r
by_answer High = StopsHigh
by_answer Nested = StopsNested

-- The verdict on an item, with the steps of its judging: its bars, its name, the names of its terms, their height, its typing.
-- No pair of trees is known where the judging begins.
pub data Verdicts (b : Book) (i : SurfaceItem) : Verdict → ℕ → Type 0 where
  unread : {v : Verdict} → read_item b i ≡ Err v → Verdicts b i v 0
  high : {r : Reading} → read_item b i ≡ Ok r → ¬ IsSmallReading r → Verdicts b i TooHigh 0
  judged : {r : Reading} (answer : Answer Refusal (Unit {0})) (known : Pairs) {n : ℕ} → read_item b i ≡ Ok r → IsSmallReading r →
      judging (closed i.bars b) r [] answer known n → Verdicts b i (by_answer answer) n

-- the verdict on an item, which has no other
pub record HasVerdict (b : Book) (i : SurfaceItem) (v : Verdict) (n : ℕ) : Type 0 where
  pub is : Verdicts b i v n
  pub only : (w : Verdict) (m : ℕ) → Verdicts b i w m → (w ≡ v) × (m ≡ n)

-- the outcome under a budget: the verdict at a cost up to it, or that its steps don't suffice
pub data Outcome : Type 0 where
  Answers : Verdict → Outcome
  Steps : Outcome

pub data HasOutcome (budget : ℕ) (b : Book) (i : SurfaceItem) : Outcome → Type 0 where
  answers : {v : Verdict} {n : ℕ} → HasVerdict b i v n → n ≤ budget → HasOutcome budget b i (Answers v)
  steps : ((v : Verdict) (n : ℕ) → Verdicts b i v n → budget < n) → HasOutcome budget b i Steps
