-- What is appended to bytes, and what stands there where memory ran out.
use Rattle.std.specs.Prelude.{◌≡◌, ℕ, List, ◌++◌, Result, MatchResult}
use Rattle.fb_base.specs.declared.texts.NoMemory.{NoMemory}

-- a front of the text was appended
pub record AppendsFront (old new text : List ℕ) : Type 0 where
  pub front : List ℕ
  pub rest : List ℕ
  pub split : text ≡ front ++ rest
  pub appended : new ≡ old ++ front

-- The text was appended, or a front of it where memory ran out.
abbrev pub Appends : (old new text : List ℕ) → Result (Unit {0}) NoMemory → Type 0
Appends old new text r = MatchResult r (λ done. new ≡ old ++ text) (λ fault. AppendsFront old new text)
