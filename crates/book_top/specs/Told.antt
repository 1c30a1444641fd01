-- What the parts of an item's reading and judging answer, in the code's values.
use Rattle.std.specs.Prelude.{◌≡◌, ◌<◌, ◌≤◌, ℕ, ⊤, List, [], ◌∷◌, ◌++◌, position, None, Contains, IsOk, Result, Ok, Err}
use Rattle.std.specs.Str.{bytes_eq}
use Rattle.ld_terms.specs.Item.{Item}
use Rattle.ld_terms.specs.declared.bank.TermFault.{TermFault}
use Rattle.ld_terms.specs.declared.bank.TermFault.TheVariants as term
use Rattle.ld_reduce.specs.Task.{Task, Pairs, Answer, Gives, Fails, High, Nested, Answers}
use Rattle.ld_infer.specs.Reading.{Refusal}
use Rattle.ld_infer.specs.Infers.{refusal_of}
use Rattle.ld_infer.specs.Standing.{Standing, known}
use Rattle.ld_reduce.specs.declared.stop.Stop.{Stop}
use Rattle.ld_reduce.specs.declared.stop.Stop.TheVariants as check
use Rattle.ld_defrules.specs.declared.ItemFault.{ItemFault}
use Rattle.ld_defrules.specs.declared.ItemFault.TheVariants as fault
use Rattle.fb_base.specs.declared.places.Span.{Span}
use Rattle.fb_parse.specs.Items.{SurfaceItem, SurfaceKind}
use Rattle.fb_parse.specs.Items as item
use Rattle.fb_parse.specs.View.{view}
use Rattle.fb_scope.specs.State.{State, flag_fault}
use Rattle.book_top.specs.declared.item.ItemTerms.{ItemTerms}
use Rattle.book_top.specs.declared.item.ItemTerms.TheVariants as terms
use Rattle.book_top.specs.declared.item.ItemStop.{ItemStop}
use Rattle.book_top.specs.declared.item.ItemStop.TheVariants as stop
use Rattle.book_top.specs.declared.names.NameStop.{NameStop}
use Rattle.book_top.specs.declared.names.NameStop.TheVariants as name
use Rattle.book_top.specs.declared.status.Want.TheVariants as want
use Rattle.book_top.specs.declared.status.TextWhat.TheVariants as what
use Rattle.book_top.specs.Book.{Book, Reading, Flag, Prim, Line, book_of, with_item, note_of}
use Rattle.book_top.specs.Names.{tree_of, reading_of, fault_at, ◌>>=◌}
use Rattle.book_top.specs.Built.{read}
use Rattle.book_top.specs.Verdict.{Verdict, TextRefused, ManyFlags, text_refused, flag_free, entry_free, IsSmallReading, judging}

-- an item over the names of the entries, where its flags are closed
abbrev pub free_by : State → List (List ℕ) → SurfaceItem → SurfaceKind → Result (Unit {0}) Verdict
free_by s names i (item.Flag a) = flag_free i.name_span (flag_fault i.name s.flags)
free_by s names i (item.Prim a) = entry_free i.name_span (position (bytes_eq i.name) names)
free_by s names i (item.Line body a) = entry_free i.name_span (position (bytes_eq i.name) names)

abbrev pub read_by : State → List (List ℕ) → SurfaceItem → Result Reading Verdict
read_by s names i = free_by s names i i.kind >>= λ free. text_refused (reading_of s names i.span i.kind)

-- the terms as they are read, and that they are
abbrev pub reading_by : State → List (List ℕ) → ItemTerms → Reading
reading_by s names (terms.Flag a) = Flag (read (tree_of s names (view a)))
reading_by s names (terms.Prim a) = Prim (read (tree_of s names (view a)))
reading_by s names (terms.Line body a) = Line (read (tree_of s names (view body))) (read (tree_of s names (view a)))

abbrev pub AreRead : State → List (List ℕ) → ItemTerms → Type 0
AreRead s names (terms.Flag a) = IsOk (tree_of s names (view a))
AreRead s names (terms.Prim a) = IsOk (tree_of s names (view a))
AreRead s names (terms.Line body a) = IsOk (tree_of s names (view body)) × IsOk (tree_of s names (view a))

-- the name is free for an item of these terms
abbrev pub IsFreeFor : State → List (List ℕ) → List ℕ → ItemTerms → Type 0
IsFreeFor s names x (terms.Flag a) = flag_fault x s.flags ≡ None
IsFreeFor s names x (terms.Prim a) = Contains names x → ⊥
IsFreeFor s names x (terms.Line body a) = Contains names x → ⊥

-- what is read first has the fault for which an item is stopped; want of memory is free
abbrev pub TellsStop : {A : Type 0} → Result A Verdict → ItemStop → Type 0
TellsStop r (stop.Text f) = r ≡ Err (TextRefused f)
TellsStop r stop.ManyFlags = r ≡ Err ManyFlags
TellsStop r stop.Memory = ⊤
TellsStop r stop.High = ⊥
TellsStop r (stop.Refused f) = ⊥
TellsStop r (stop.Budget w) = ⊥

abbrev pub Tells : {A : Type 0} → Result A Verdict → Result (Unit {0}) ItemStop → Type 0
Tells r (Ok u) = IsOk r
Tells r (Err s) = TellsStop r s

-- the item is read as these terms
pub record IsReadAs (s : State) (names : List (List ℕ)) (i : SurfaceItem) (ts : ItemTerms) : Type 0 where
  pub reading : read_by s names i ≡ Ok (reading_by s names ts)
  pub are : AreRead s names ts
  pub free : IsFreeFor s names i.name ts

abbrev pub ReadsItem : State → List (List ℕ) → SurfaceItem → Result ItemTerms ItemStop → Type 0
ReadsItem s names i (Ok ts) = IsReadAs s names i ts
ReadsItem s names i (Err z) = TellsStop (read_by s names i) z

-- why an item is stopped, by a fault of what it calls
abbrev pub name_stop : NameStop → ItemStop
name_stop (name.Text f) = stop.Text f
name_stop name.Memory = stop.Memory

abbrev pub term_stop : TermFault → ItemStop
term_stop term.High = stop.High
term_stop term.Memory = stop.Memory

abbrev pub check_stop : Stop → ItemStop
check_stop check.Spent = stop.Budget want.Steps
check_stop check.High = stop.Budget want.Height
check_stop check.Nested = stop.Budget want.Nesting
check_stop check.Memory = stop.Memory

-- A name that is taken is refused before the judging.
abbrev pub judge_stop : Span → ItemFault → ItemStop
judge_stop at (fault.Refused f) = stop.Refused f
judge_stop at (fault.Stop s) = check_stop s
judge_stop at fault.NameTaken = stop.Text (fault_at what.NameTaken at)

-- the answer of a judging, which has no other, at a cost up to the budget
pub record Costs (p : Task Refusal (Unit {0})) (budget : ℕ) (answer : Answer Refusal (Unit {0})) (n : ℕ) : Type 0 where
  pub known : Pairs
  pub answers : Answers p [] answer known n
  pub within : n ≤ budget

abbrev pub IsAnswer : Task Refusal (Unit {0}) → ℕ → Answer Refusal (Unit {0}) → Type 0
IsAnswer p budget answer = (n : ℕ) × Costs p budget answer n

-- why an item that was read isn't accepted; want of memory is free
abbrev pub StopsReading : (budget : ℕ) → Book → List Item → Reading → ItemStop → Type 0
StopsReading budget b items r (stop.Text f) = ⊥
StopsReading budget b items r stop.ManyFlags = ⊥
StopsReading budget b items r stop.High = IsSmallReading r → ⊥
StopsReading budget b items r (stop.Refused f) = IsSmallReading r × IsAnswer (judging b r) budget (Fails (refusal_of items f))
StopsReading budget b items r (stop.Budget want.Steps) =
    IsSmallReading r × ((answer : Answer Refusal (Unit {0})) (known : Pairs) (n : ℕ) → judging b r [] answer known n → budget < n)
StopsReading budget b items r (stop.Budget want.Height) = IsSmallReading r × IsAnswer (judging b r) budget High
StopsReading budget b items r (stop.Budget want.Nesting) = IsSmallReading r × IsAnswer (judging b r) budget Nested
StopsReading budget b items r stop.Memory = ⊤

-- an item that was read is accepted at this cost, and added
pub record IsJudged (budget : ℕ) (old new : Standing) (before after : State) (name : List ℕ) (r : Reading) (n : ℕ) : Type 0 where
  pub small : IsSmallReading r
  pub costs : Costs (judging (book_of old before) r) budget (Gives tt) n
  pub becomes : book_of new after ≡ with_item name r (book_of old before)
  pub notes : (known new).notes ≡ (known old).notes ++ note_of name r (book_of old before) ∷ []

abbrev pub JudgesReading : (budget : ℕ) → (old new : Standing) → (before after : State) → (name : List ℕ) → Reading → Result ℕ ItemStop → Type 0
JudgesReading budget old new before after name r (Ok n) = IsJudged budget old new before after name r n
JudgesReading budget old new before after name r (Err s) = StopsReading budget (book_of old before) new.items r s
