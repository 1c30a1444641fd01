-- Where a token of a text lies.
use Rattle.std.specs.Prelude.{◌≡◌, ℕ, ◌-◌, ◌<◌, ◌≤◌, true, false, List, length}
use Rattle.std.specs.Str.{IsUtf8}
use Rattle.fb_lex.specs.declared.tokens.Token.{Token}
use Rattle.fb_lex.specs.Tokens.{between, is_end, is_name}

-- The token lies in the text, from a place on, and only the end is empty. A name is text of at most 255 bytes.
pub record IsPlaced (text : List ℕ) (from : ℕ) (t : Token) : Type 0 where
  pub behind : from ≤ t.span.start
  pub ordered : t.span.start ≤ t.span.end
  pub within : t.span.end ≤ length text
  pub wide : is_end t.kind ≡ false → t.span.start < t.span.end
  pub short : is_name t.kind ≡ true → t.span.end - t.span.start ≤ 255
  pub utf8 : is_name t.kind ≡ true → IsUtf8 (between text t.span.start t.span.end)
