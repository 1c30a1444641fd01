-- Two texts with a line feed between them.
use Rattle.std.specs.Prelude.{ℕ, ◌+◌, Bool, true, false, List, [], ◌∷◌, ◌++◌, length, Some, codes}
use Rattle.fb_lex.specs.declared.tokens.Kind.TheVariants as k
use Rattle.fb_lex.specs.declared.tokens.Token.{Token}
use Rattle.fb_lex.specs.Tokens.{is_end}
use Rattle.fb_lex.specs.TokenList.{Lexeme, sign, name, Ending, Whole, Tokens, TokensBehind}
use Rattle.fb_parse.specs.Items.{SurfaceItem}
use Rattle.fb_parse.specs.Texts.{IsBook}

abbrev pub unless_end : Bool → List Lexeme → Lexeme → List Lexeme → List Lexeme
unless_end true more t ts = more
unless_end false more t ts = t ∷ ts

-- the tokens with others in place of the end
abbrev pub go_on : (more : List Lexeme) → List Lexeme → List Lexeme
go_on more [] = []
go_on more (sign kind s e ∷ ts) = unless_end (is_end kind) more (sign kind s e) (go_on more ts)
go_on more (name x s e ∷ ts) = name x s e ∷ go_on more ts

-- the line feed at a place, as a token
abbrev pub line_feed_at : ℕ → Token
line_feed_at n = record { kind = k.Newline; span = record { start = n; end = n + 1 } }

-- The tokens of the one text, in place of its end the line feed, and then what is read behind that.
abbrev pub TextsJoin : Type 0
TextsJoin = (text behind : List ℕ) (ts us : List Lexeme) (e : Ending) → Tokens text ts Whole →
    TokensBehind (text ++ codes "\n" ++ behind) (Some (line_feed_at (length text))) us e →
    Tokens (text ++ codes "\n" ++ behind) (go_on (sign k.Newline (length text) (length text + 1) ∷ us) ts) e

-- Such tokens are the items of both.
abbrev pub BooksJoin : Type 0
BooksJoin = (limit s e : ℕ) (ts us : List Lexeme) (items others : List SurfaceItem) →
    IsBook limit ts items → IsBook limit us others → IsBook limit (go_on (sign k.Newline s e ∷ us) ts) (items ++ others)
