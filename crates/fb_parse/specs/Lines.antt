-- What the lines from a token on are, or how they fail.
use Rattle.std.specs.Prelude.{◌≡◌, ℕ, suc, ◌+◌, ◌≤◌, false, List, [], ◌∷◌, ◌++◌, length, Some}
use Rattle.fb_lex.specs.declared.tokens.Kind.TheVariants as k
use Rattle.fb_lex.specs.declared.tokens.Token.{Token}
use Rattle.fb_lex.specs.declared.tokens.LexFault.{LexFault}
use Rattle.fb_lex.specs.Tokens.{IsFault, is_end}
use Rattle.fb_lex.specs.TokenList.{Lexeme, seen, Reads}
use Rattle.fb_parse.specs.declared.fault.ParseFault.{ParseFault}
use Rattle.fb_parse.specs.declared.fault.ParseFault.TheVariants.{Lex, Syntax, Deep, ManyItems, Memory}
use Rattle.fb_parse.specs.Items.{SurfaceItem, IsLines}

-- Up to the end the lines from t on, behind so many bars, are these items.
pub record LinesAre (text : List ℕ) (bars : ℕ) (t : Token) (items : List SurfaceItem) : Type 0 where
  pub tokens : List Lexeme
  pub last : Token
  pub reads : Reads text t tokens last
  pub ended : last.kind ≡ k.End
  pub parses : (limit : ℕ) → IsLines limit bars (tokens ++ seen text last ∷ []) items []

-- a front of a list that begins lines of so many items at most
pub record BeginsLines (bars most limit : ℕ) (front : List Lexeme) : Type 0 where
  pub more : List Lexeme
  pub items : List SurfaceItem
  pub parses : IsLines limit bars (front ++ more) items []
  pub few : length items ≤ most

-- a front of no list that is lines of so many items at most
abbrev pub NoLines : (bars most limit : ℕ) → List Lexeme → Type 0
NoLines bars most limit front = (more : List Lexeme) (items : List SurfaceItem) → IsLines limit bars (front ++ more) items [] → length items ≤ most → ⊥

-- How the lines from t on fail, behind so many bars, where so many items may come.
pub data LinesFail (text : List ℕ) (bars most : ℕ) (t : Token) : ParseFault → Type 0 where
  memory : LinesFail text bars most t Memory
  lex : {ts : List Lexeme} {u : Token} {f : LexFault} → Reads text t ts u → is_end u.kind ≡ false → IsFault text (Some u) f →
      ((limit : ℕ) → BeginsLines bars most limit (ts ++ seen text u ∷ [])) → LinesFail text bars most t (Lex f)
  syntax : {ts : List Lexeme} {u : Token} → Reads text t ts u → ((limit : ℕ) → BeginsLines bars most limit ts) →
      ((any limit : ℕ) → NoLines bars any limit (ts ++ seen text u ∷ [])) → LinesFail text bars most t (Syntax u.span.start)
  deep : {ts : List Lexeme} {u : Token} → Reads text t ts u → BeginsLines bars most u.span.start (ts ++ seen text u ∷ []) →
      ((any : ℕ) → NoLines bars any (suc u.span.start) (ts ++ seen text u ∷ [])) → LinesFail text bars most t (Deep u.span.start)
  many_items : {ts : List Lexeme} {u : Token} → Reads text t ts u → ((limit : ℕ) → BeginsLines bars most limit ts) → ((limit : ℕ) → BeginsLines bars (most + 1) limit (ts ++ seen text u ∷ [])) →
      ((limit : ℕ) → NoLines bars most limit (ts ++ seen text u ∷ [])) → LinesFail text bars most t (ManyItems u.span.start)
