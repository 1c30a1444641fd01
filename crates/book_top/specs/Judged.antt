-- What the reading and the judging of one item answer, in the code's values.
use Rattle.std.specs.Prelude.{◌≡◌, ◌<◌, ◌≤◌, ◌^◌, ◌+◌, ℕ, ⊤, List, [], ◌∷◌, ◌++◌, length, Result, Ok, Err}
use Rattle.ld_terms.specs.Tree.{count}
use Rattle.ld_terms.specs.Item.{Item}
use Rattle.ld_record.specs.Follows.{entry_at}
use Rattle.ld_infer.specs.Standing.{Standing, known, env}
use Rattle.ld_infer.specs.Infers.{refusal_of}
use Rattle.fb_base.specs.declared.places.Span.{Span}
use Rattle.fb_parse.specs.ItemView.{at_span}
use Rattle.fb_parse.specs.Items.{SurfaceItem}
use Rattle.fb_scope.specs.State.{State}
use Rattle.fb_scope.specs.Resolve.{made_under}
use Rattle.book_top.specs.declared.item.ItemStop.{ItemStop}
use Rattle.book_top.specs.declared.item.ItemStop.TheVariants as stop
use Rattle.book_top.specs.declared.status.Want.TheVariants as want
use Rattle.book_top.specs.Book.{Book, Reading, book_of}
use Rattle.book_top.specs.Verdict.{Accepted, TextRefused, ManyFlags, TooHigh, RuleRefused, StopsHigh, StopsNested, read_item, HasVerdict, Outcome, Answers, Steps, HasOutcome}
use Rattle.book_top.specs.Spells.{item_book, item_note}

-- the span is one of the text, and its bytes may be a name
pub record IsNameSpan (text : List ℕ) (s : Span) : Type 0 where
  pub ordered : s.start ≤ s.end
  pub within : s.end ≤ length text
  pub some : 0 < length (at_span text s)
  pub short : length (at_span text s) ≤ 255

-- A theory and a scope go together: the flags are the context's variables, and each entry is noted under as many as it has parameters,
-- which are at most 64.
pub record IsInStep (s : Standing) (scope : State) : Type 0 where
  pub binders : scope.binders ≡ []
  pub flags : length scope.flags ≡ count s.context
  pub few : length scope.flags ≤ 64
  pub marks : length scope.marks ≡ length (env s)
  pub each : (k : ℕ) → k < length (env s) → length (made_under scope k) ≡ count (entry_at (env s) k).params
  pub short : (k : ℕ) → k < length (env s) → length (made_under scope k) ≤ 64

-- there is room for one more flag and one more entry
pub record HasRoom (s : Standing) (scope : State) : Type 0 where
  pub entry : length (env s) + 1 < 2 ^ 32
  pub flag : scope.opened + 1 < 2 ^ 32

-- The item is accepted at this cost, and what it spells is added.
pub record IsAccepted (budget : ℕ) (old new : Standing) (before after : State) (i : SurfaceItem) (n : ℕ) : Type 0 where
  pub reading : Reading
  pub read : read_item (book_of old before) i ≡ Ok reading
  pub verdict_is : HasVerdict (book_of old before) i Accepted n
  pub within : n ≤ budget
  pub becomes : book_of new after ≡ item_book i reading (book_of old before)
  pub notes : (known new).notes ≡ (known old).notes ++ item_note i reading (book_of old before) ∷ []

-- The outcome for which an item is stopped. Want of memory is none: what stands for it is used nowhere.
abbrev pub outcome_of : List Item → ItemStop → Outcome
outcome_of items (stop.Text f) = Answers (TextRefused f)
outcome_of items stop.ManyFlags = Answers ManyFlags
outcome_of items stop.High = Answers TooHigh
outcome_of items (stop.Refused f) = Answers (RuleRefused (refusal_of items f))
outcome_of items (stop.Budget want.Steps) = Steps
outcome_of items (stop.Budget want.Height) = Answers StopsHigh
outcome_of items (stop.Budget want.Nesting) = Answers StopsNested
outcome_of items stop.Memory = Steps

-- An item is accepted, or it has another outcome; want of memory is free.
abbrev pub StopsItemBy : (budget : ℕ) → Book → List Item → SurfaceItem → ItemStop → Type 0
StopsItemBy budget b items i stop.Memory = ⊤
StopsItemBy budget b items i s = HasOutcome budget b i (outcome_of items s)

abbrev pub JudgesItem : (budget : ℕ) → (old new : Standing) → (before after : State) → SurfaceItem → Result ℕ ItemStop → Type 0
JudgesItem budget old new before after i (Ok n) = IsAccepted budget old new before after i n
JudgesItem budget old new before after i (Err s) = StopsItemBy budget (book_of old before) new.items i s
