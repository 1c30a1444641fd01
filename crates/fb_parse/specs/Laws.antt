-- What a text is as a term or a book, or why it is none, is determined by the text.
use Rattle.std.specs.Prelude.{◌≡◌, ◌≢◌, ℕ, List}
use Rattle.std.specs.List.{AllByRecursion}
use Rattle.fb_lex.specs.Tokens.{IsName}
use Rattle.fb_lex.specs.TokenList.{Lexeme}
use Rattle.fb_parse.specs.declared.fault.ParseFault.{ParseFault}
use Rattle.fb_parse.specs.declared.fault.ParseFault.TheVariants.{Memory}
use Rattle.fb_parse.specs.Grammar.{Surface}
use Rattle.fb_parse.specs.Items.{SurfaceItem}
use Rattle.fb_parse.specs.Texts.{IsTerm, IsBook, IsTermText, IsBookText, BeginsTerm, BeginsBook, Refuses}

-- A list of tokens is one term at most, whatever the limits up to which nesting is looked at.
abbrev pub OneReadingAsTerm : Type 0
OneReadingAsTerm = (limit other : ℕ) (ts : List Lexeme) (a b : Surface) → IsTerm limit ts a → IsTerm other ts b → a ≡ b

-- A list of tokens is the book of one list of items at most.
abbrev pub OneReadingAsBook : Type 0
OneReadingAsBook = (limit other : ℕ) (ts : List Lexeme) (items others : List SurfaceItem) → IsBook limit ts items → IsBook other ts others → items ≡ others

-- A text is one term at most.
abbrev pub OneTerm : Type 0
OneTerm = (text : List ℕ) (a b : Surface) → IsTermText text a → IsTermText text b → a ≡ b

-- A text is the book of one list of items at most.
abbrev pub OneBook : Type 0
OneBook = (text : List ℕ) (items others : List SurfaceItem) → IsBookText text items → IsBookText text others → items ≡ others

-- A text that is a term is refused as one for want of memory alone.
abbrev pub TermsAreNotRefused : Type 0
TermsAreNotRefused = (text : List ℕ) (a : Surface) (f : ParseFault) → IsTermText text a → Refuses text BeginsTerm f → f ≡ Memory

-- A text that is a book is refused as one for want of memory alone.
abbrev pub BooksAreNotRefused : Type 0
BooksAreNotRefused = (text : List ℕ) (items : List SurfaceItem) (f : ParseFault) → IsBookText text items → Refuses text BeginsBook f → f ≡ Memory

-- A text is refused as a term in one way at most, apart from want of memory.
abbrev pub OneRefusalOfTerms : Type 0
OneRefusalOfTerms = (text : List ℕ) (f g : ParseFault) → Refuses text BeginsTerm f → Refuses text BeginsTerm g → f ≢ Memory → g ≢ Memory → f ≡ g

-- A text is refused as a book in one way at most, apart from want of memory.
abbrev pub OneRefusalOfBooks : Type 0
OneRefusalOfBooks = (text : List ℕ) (f g : ParseFault) → Refuses text BeginsBook f → Refuses text BeginsBook g → f ≢ Memory → g ≢ Memory → f ≡ g

-- The name of each item of a book is one token for itself, a name of at most 255 bytes.
abbrev pub ItemNamesAreSpelled : Type 0
ItemNamesAreSpelled = (text : List ℕ) (items : List SurfaceItem) → IsBookText text items → AllByRecursion (λ i. IsName i.name) items
