-- The tokens of a text start in it, and its names are names.
use Rattle.std.proofs.Common.{◌≡◌, ℕ, ◌+◌, ◌<◌, ◌≤◌, List, [], ◌∷◌, length, Option, refl, arith}
use Rattle.fb_lex.specs.declared.tokens.Kind.{Kind}
use Rattle.fb_lex.specs.declared.tokens.Kind.TheVariants as k
use Rattle.fb_lex.specs.declared.tokens.Token.{Token}
use Rattle.fb_lex.specs.Tokens.{IsName, between, end_of}
use Rattle.fb_lex.specs.TokenList.{Lexeme, sign, name, lexeme, Ending, TokensBehind}
use Rattle.fb_lex.proofs.NextPlaced.{next_placed}
use Rattle.fb_lex.proofs.Names.{token_name}

-- each token starts before the limit, and a name is one
abbrev pub AreGiven : (limit : ℕ) → List Lexeme → Type 0
AreGiven l [] = Unit {0}
AreGiven l (sign kind s e ∷ ts) = (s < l) × AreGiven l ts
AreGiven l (name x s e ∷ ts) = (s < l) × IsName x × AreGiven l ts

given_more : (l : ℕ) (text : List ℕ) (kind : Kind) (s e : ℕ) (ts : List Lexeme) → s < l → (kind ≡ k.Name → IsName (between text s e)) → AreGiven l ts → AreGiven l (lexeme text kind s e ∷ ts)
given_more l text k.Name s e ts h n g = (h, n refl, g)
given_more l text _ s e ts h n g = (h, g)

pub tokens_given : {text : List ℕ} {prev : Option Token} {ts : List Lexeme} {e : Ending} → end_of prev ≤ length text → TokensBehind text prev ts e → AreGiven (length text + 1) ts
tokens_given {text} {prev} l (TokensBehind.last {t = t} n h) =
    let p = next_placed text prev t l n in
    let o = p.ordered in
    let w = p.within in
    given_more (length text + 1) text t.kind t.span.start t.span.end [] (omega (arith, o, w)) (λ e. token_name text prev t l n e) tt
tokens_given {text} {prev} l (TokensBehind.more {t = t} {ts = ts} n h m) =
    let p = next_placed text prev t l n in
    let o = p.ordered in
    let w = p.within in
    given_more (length text + 1) text t.kind t.span.start t.span.end ts (omega (arith, o, w)) (λ e. token_name text prev t l n e) (tokens_given w m)
tokens_given l (TokensBehind.fault f) = tt
