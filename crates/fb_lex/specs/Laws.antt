-- What a text is as a list of tokens is determined by the text.
use Rattle.std.specs.Prelude.{◌≡◌, ℕ, List, Option}
use Rattle.std.specs.List.{AllByRecursion}
use Rattle.fb_lex.specs.declared.tokens.Token.{Token}
use Rattle.fb_lex.specs.declared.tokens.LexFault.{LexFault}
use Rattle.fb_lex.specs.Tokens.{IsNext, IsFault}
use Rattle.fb_lex.specs.TokenList.{Lexeme, IsSpelled, Ending, Tokens}

-- Behind a token, or at the beginning, one token at most is next.
abbrev pub OneNextToken : Type 0
OneNextToken = (text : List ℕ) (prev : Option Token) (t u : Token) → IsNext text prev t → IsNext text prev u → t ≡ u

-- One fault at most is in its place.
abbrev pub OneFault : Type 0
OneFault = (text : List ℕ) (prev : Option Token) (f g : LexFault) → IsFault text prev f → IsFault text prev g → f ≡ g

-- Where a token is next, no fault is in its place.
abbrev pub NotBoth : Type 0
NotBoth = (text : List ℕ) (prev : Option Token) (t : Token) (f : LexFault) → IsNext text prev t → IsFault text prev f → ⊥

-- A text has at most one list of tokens, and one ending.
abbrev pub OneTokenList : Type 0
OneTokenList = (text : List ℕ) (ts us : List Lexeme) (e f : Ending) → Tokens text ts e → Tokens text us f → (ts ≡ us) × (e ≡ f)

-- Each name among the tokens of a text is one token for itself, a name of at most 255 bytes.
abbrev pub NamesAreSpelled : Type 0
NamesAreSpelled = (text : List ℕ) (ts : List Lexeme) (e : Ending) → Tokens text ts e → AllByRecursion IsSpelled ts
