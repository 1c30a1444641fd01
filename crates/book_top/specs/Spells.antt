-- What the items of a book spell, and the items before the first that is refused.
use Rattle.std.specs.Prelude.{◌≡◌, ◌≢◌, ◌≤◌, ◌+◌, ℕ, List, [], ◌∷◌, ◌++◌, length, Ok}
use Rattle.ld_terms.specs.Known.{Note}
use Rattle.fb_parse.specs.Items.{SurfaceItem}
use Rattle.book_top.specs.Book.{Book, Reading, empty, closed, with_item, note_of}
use Rattle.book_top.specs.Verdict.{read_item, HasVerdict, Accepted, Outcome, Answers, HasOutcome}

-- what a book comes to with an item that is read so, and the note that it leaves
abbrev pub item_book : SurfaceItem → Reading → Book → Book
item_book i r b = with_item i.name r (closed i.bars b)

abbrev pub item_note : SurfaceItem → Reading → Book → Note
item_note i r b = note_of i.name r (closed i.bars b)

-- From one book the items spell another, one after another, with a note for each. It asks for no derivation.
pub data Spells : Book → List SurfaceItem → List Note → Book → Type 0 where
  none : {b : Book} → Spells b [] [] b
  more : {b after : Book} {i : SurfaceItem} {is : List SurfaceItem} {notes : List Note} (r : Reading) → read_item b i ≡ Ok r →
      Spells (item_book i r b) is notes after → Spells b (i ∷ is) (item_note i r b ∷ notes) after

-- the same where each item is accepted at a cost up to the budget; the costs have this sum
pub data Accepts (budget : ℕ) : Book → List SurfaceItem → List Note → Book → (cost : ℕ) → Type 0 where
  none : {b : Book} → Accepts budget b [] [] b 0
  more : {b after : Book} {i : SurfaceItem} {is : List SurfaceItem} {notes : List Note} {n cost : ℕ} (r : Reading) → read_item b i ≡ Ok r →
      HasVerdict b i Accepted n → n ≤ budget → Accepts budget (item_book i r b) is notes after cost →
      Accepts budget b (i ∷ is) (item_note i r b ∷ notes) after (n + cost)

-- The first item that isn't accepted, and its outcome. So many items stand before it.
pub record FirstRefused (budget : ℕ) (items : List SurfaceItem) (number : ℕ) (i : SurfaceItem) (outcome : Outcome) : Type 0 where
  pub before : List SurfaceItem
  pub after : List SurfaceItem
  pub notes : List Note
  pub book : Book
  pub cost : ℕ
  pub split : items ≡ before ++ i ∷ after
  pub count : number ≡ length before
  pub accepted : Accepts budget empty before notes book cost
  pub answer : HasOutcome budget book i outcome
  pub refused : outcome ≢ Answers Accepted
