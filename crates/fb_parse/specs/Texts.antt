-- Texts that are a term or a book, and why a text is none.
use Rattle.std.specs.Prelude.{ℕ, suc, ◌≤◌, List, [], ◌∷◌, ◌++◌, length, None}
use Rattle.fb_lex.specs.declared.tokens.Kind.TheVariants as k
use Rattle.fb_lex.specs.declared.tokens.Token.{Token}
use Rattle.fb_lex.specs.declared.tokens.LexFault.{LexFault}
use Rattle.fb_lex.specs.Tokens.{IsNext}
use Rattle.fb_lex.specs.TokenList.{Lexeme, sign, seen, Tokens, Whole, Faulty, Reads}
use Rattle.fb_parse.specs.declared.fault.ParseFault.{ParseFault}
use Rattle.fb_parse.specs.declared.fault.ParseFault.TheVariants.{Lex, Syntax, Deep, ManyItems, Memory}
use Rattle.fb_parse.specs.Grammar.{Surface, Term}
use Rattle.fb_parse.specs.Items.{SurfaceItem, IsLines}

-- The list of tokens is a term and the end. Before the limit, which is a place, no term is nested deeper than 500.
pub record IsTerm (limit : ℕ) (ts : List Lexeme) (a : Surface) : Type 0 where
  pub start : ℕ
  pub end : ℕ
  pub last : (s : ℕ) × (e : ℕ) × Term limit 1 ts a start end (sign k.End s e ∷ [])

-- The list of tokens is a book of these items, with the end. Before the limit no term is nested deeper than 500.
abbrev pub IsBook : (limit : ℕ) → List Lexeme → List SurfaceItem → Type 0
IsBook limit ts items = IsLines limit 0 ts items []

-- The text is this term, with no term nested deeper than 500.
pub record IsTermText (text : List ℕ) (a : Surface) : Type 0 where
  pub tokens : List Lexeme
  pub are : Tokens text tokens Whole
  pub parses : (limit : ℕ) → IsTerm limit tokens a

-- The text is a book of these items, which are at most 100,000, with no term nested deeper than 500.
pub record IsBookText (text : List ℕ) (items : List SurfaceItem) : Type 0 where
  pub tokens : List Lexeme
  pub are : Tokens text tokens Whole
  pub parses : (limit : ℕ) → IsBook limit tokens items
  pub few : length items ≤ 100_000

-- A front of some list of tokens that is a term; and one that is a book of so many items at most.
pub record BeginsTerm (most limit : ℕ) (front : List Lexeme) : Type 0 where
  pub more : List Lexeme
  pub tree : Surface
  pub parses : IsTerm limit (front ++ more) tree

pub record BeginsBook (most limit : ℕ) (front : List Lexeme) : Type 0 where
  pub more : List Lexeme
  pub items : List SurfaceItem
  pub parses : IsBook limit (front ++ more) items
  pub few : length items ≤ most

-- The tokens of the text begin with these, and behind them comes the token t.
pub record StartsWith (text : List ℕ) (ts : List Lexeme) (t : Token) : Type 0 where
  pub first : Token
  pub next : IsNext text None first
  pub reads : Reads text first ts t

-- Why the text is not what is to be read, where Begins says which lists of tokens begin that. The first token with which the
-- tokens of the text don't begin it any more is named, or the fault in place of a token.
pub data Refuses (text : List ℕ) (Begins : (most limit : ℕ) → List Lexeme → Type 0) : ParseFault → Type 0 where
  memory : Refuses text Begins Memory
  -- the tokens before the fault begin it
  lex : {ts : List Lexeme} {f : LexFault} → Tokens text ts (Faulty f) → ((limit : ℕ) → Begins 100_000 limit ts) → Refuses text Begins (Lex f)
  -- the tokens before t begin it, and with t they don't, even without the limits
  syntax : {ts : List Lexeme} {t : Token} → StartsWith text ts t → ((limit : ℕ) → Begins 100_000 limit ts) →
      ((most limit : ℕ) → Begins most limit (ts ++ seen text t ∷ []) → ⊥) → Refuses text Begins (Syntax t.span.start)
  -- with t they begin it, but not if a term that begins at t is not to be nested deeper than 500
  deep : {ts : List Lexeme} {t : Token} → StartsWith text ts t → Begins 100_000 t.span.start (ts ++ seen text t ∷ []) →
      ((most : ℕ) → Begins most (suc t.span.start) (ts ++ seen text t ∷ []) → ⊥) → Refuses text Begins (Deep t.span.start)
  -- the tokens before t begin it, and with t they do only with more than 100,000 items
  many_items : {ts : List Lexeme} {t : Token} → StartsWith text ts t → ((limit : ℕ) → Begins 100_000 limit ts) → ((limit : ℕ) → Begins 100_001 limit (ts ++ seen text t ∷ [])) →
      ((limit : ℕ) → Begins 100_000 limit (ts ++ seen text t ∷ []) → ⊥) → Refuses text Begins (ManyItems t.span.start)
