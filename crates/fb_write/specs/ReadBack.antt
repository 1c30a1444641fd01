-- What is written is read as the same tree, spans aside.
use Rattle.std.specs.Prelude.{◌≡◌, ℕ, ◌+◌, ◌≤◌, List, [], ◌++◌, length, codes}
use Rattle.fb_parse.specs.Grammar.{Surface}
use Rattle.fb_parse.specs.Items.{SurfaceItem}
use Rattle.fb_parse.specs.Texts.{IsTermText, IsBookText}
use Rattle.fb_write.specs.Canonical.{term_text, items_text, bare, bare_item, bare_items}
use Rattle.fb_write.specs.Writable.{IsWritable, IsWritableItem, AreWritableItems}

-- The text is the term, spans aside.
pub record ReadsAs (text : List ℕ) (a : Surface) : Type 0 where
  pub tree : Surface
  pub reads : IsTermText text tree
  pub same : bare tree ≡ bare a

-- The text is the book of these items and then the others, those without their spans.
pub record ReadsAsBook (text : List ℕ) (items others : List SurfaceItem) : Type 0 where
  pub more : List SurfaceItem
  pub reads : IsBookText text (items ++ more)
  pub same : bare_items more ≡ bare_items others

-- A term that some text gives is writable, and a writable one is read from its canonical text.
abbrev pub GivenTermsAreWritable : Type 0
GivenTermsAreWritable = (text : List ℕ) (a : Surface) → IsTermText text a → IsWritable 1 a

abbrev pub TermsReadBack : Type 0
TermsReadBack = (a : Surface) → IsWritable 1 a → ReadsAs (term_text a) a

-- Whether a term is writable doesn't depend on its spans.
abbrev pub SpansDontCount : Type 0
SpansDontCount = (a b : Surface) → bare a ≡ bare b → IsWritable 1 a → IsWritable 1 b

-- The items of a book are writable, and writable ones, 100,000 at most, are read from their canonical texts.
abbrev pub GivenItemsAreWritable : Type 0
GivenItemsAreWritable = (text : List ℕ) (items : List SurfaceItem) → IsBookText text items → AreWritableItems items

-- Whether an item is writable doesn't depend on its spans.
abbrev pub ItemSpansDontCount : Type 0
ItemSpansDontCount = (i j : SurfaceItem) → bare_item i ≡ bare_item j → IsWritableItem i → IsWritableItem j

abbrev pub ItemsReadBack : Type 0
ItemsReadBack = (items : List SurfaceItem) → AreWritableItems items → length items ≤ 100_000 →
    ReadsAsBook (items_text items) [] items

-- A book goes on behind a line feed with the canonical texts of further items.
abbrev pub BooksGoOn : Type 0
BooksGoOn = (text : List ℕ) (items others : List SurfaceItem) → IsBookText text items →
    AreWritableItems others → length items + length others ≤ 100_000 →
    ReadsAsBook (text ++ codes "\n" ++ items_text others) items others
