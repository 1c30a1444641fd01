-- Further parts of the grammar, of which only proofs speak.
use Rattle.std.specs.Prelude.{ℕ, ◌+◌, List, ◌∷◌}
use Rattle.fb_lex.specs.declared.tokens.Kind.TheVariants as k
use Rattle.fb_lex.specs.TokenList.{Lexeme}
use Rattle.fb_parse.specs.Grammar.{Surfaces, MoreTerms}
use Rattle.fb_parse.specs.Items.{SurfaceArg, MoreArgs}
use Rattle.fb_parse.specs.Parts.{IsSign, IsName, Then, SomeTerm}

-- a part behind this token
abbrev pub After : Lexeme → (A : ℕ → List Lexeme → List Lexeme → Type 0) → (limit : ℕ) → List Lexeme → List Lexeme → Type 0
After x A limit ts rest = A limit (x ∷ ts) rest

-- terms, each behind a comma
abbrev pub MoreTermsAre : (n behind : ℕ) → Surfaces → (end : ℕ) → (limit : ℕ) → List Lexeme → List Lexeme → Type 0
MoreTermsAre n b xs e limit ts rest = MoreTerms limit n b ts xs e rest

abbrev pub SomeMoreTerms : (n : ℕ) → (limit : ℕ) → List Lexeme → List Lexeme → Type 0
SomeMoreTerms n limit ts rest = (b : ℕ) × (xs : Surfaces) × (e : ℕ) × MoreTerms limit n b ts xs e rest

-- what stands behind fun or all
abbrev pub SomeBinder : (n : ℕ) → (limit : ℕ) → List Lexeme → List Lexeme → Type 0
SomeBinder n = Then IsName (Then (IsSign k.Colon) (Then (SomeTerm (n + 1)) (Then (IsSign k.Dot) (SomeTerm (n + 1)))))

-- a term and the end
abbrev pub WholeTerm : (limit : ℕ) → List Lexeme → List Lexeme → Type 0
WholeTerm = Then (SomeTerm 1) (IsSign k.End)

-- arguments behind `by use`, each behind a comma
abbrev pub MoreArgsAre : List SurfaceArg → (limit : ℕ) → List Lexeme → List Lexeme → Type 0
MoreArgsAre xs limit ts rest = MoreArgs limit ts xs rest

abbrev pub SomeMoreArgs : (limit : ℕ) → List Lexeme → List Lexeme → Type 0
SomeMoreArgs limit ts rest = (xs : List SurfaceArg) × MoreArgs limit ts xs rest
