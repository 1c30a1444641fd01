-- The parts of the grammar of items.
use Rattle.std.specs.Prelude.{◌≡◌, ℕ, Bool, true, false, List}
use Rattle.fb_lex.specs.declared.tokens.Kind.{Kind}
use Rattle.fb_lex.specs.declared.tokens.Kind.TheVariants as k
use Rattle.fb_lex.specs.declared.tokens.Token.{Token}
use Rattle.fb_lex.specs.Tokens.{between}
use Rattle.fb_lex.specs.TokenList.{Lexeme}
use Rattle.fb_parse.specs.Items.{SurfaceArg, SurfaceBody, SurfaceKind, SurfaceItem, IsArg, IsArgs, IsFilling, IsWay, IsBody, IsEntry, IsItem}

-- what stands behind `by use`, and each other part of an item: this one, and some one
abbrev pub ArgIs : SurfaceArg → (limit : ℕ) → List Lexeme → List Lexeme → Type 0
ArgIs a limit ts rest = IsArg limit ts a rest

abbrev pub SomeArg : (limit : ℕ) → List Lexeme → List Lexeme → Type 0
SomeArg limit ts rest = (a : SurfaceArg) × IsArg limit ts a rest

abbrev pub ArgsAre : List SurfaceArg → (limit : ℕ) → List Lexeme → List Lexeme → Type 0
ArgsAre xs limit ts rest = IsArgs limit ts xs rest

abbrev pub SomeArgs : (limit : ℕ) → List Lexeme → List Lexeme → Type 0
SomeArgs limit ts rest = (xs : List SurfaceArg) × IsArgs limit ts xs rest

abbrev pub FillingIs : List SurfaceArg → (limit : ℕ) → List Lexeme → List Lexeme → Type 0
FillingIs xs limit ts rest = IsFilling limit ts xs rest

abbrev pub SomeFilling : (limit : ℕ) → List Lexeme → List Lexeme → Type 0
SomeFilling limit ts rest = (xs : List SurfaceArg) × IsFilling limit ts xs rest

abbrev pub WayIs : SurfaceBody → (limit : ℕ) → List Lexeme → List Lexeme → Type 0
WayIs b limit ts rest = IsWay limit ts b rest

abbrev pub SomeWay : (limit : ℕ) → List Lexeme → List Lexeme → Type 0
SomeWay limit ts rest = (b : SurfaceBody) × IsWay limit ts b rest

abbrev pub BodyIs : SurfaceBody → (limit : ℕ) → List Lexeme → List Lexeme → Type 0
BodyIs b limit ts rest = IsBody limit ts b rest

abbrev pub SomeBody : (limit : ℕ) → List Lexeme → List Lexeme → Type 0
SomeBody limit ts rest = (b : SurfaceBody) × IsBody limit ts b rest

abbrev pub EntryIs : SurfaceKind → (end : ℕ) → (limit : ℕ) → List Lexeme → List Lexeme → Type 0
EntryIs kind end limit ts rest = IsEntry limit ts kind end rest

abbrev pub SomeEntry : (limit : ℕ) → List Lexeme → List Lexeme → Type 0
SomeEntry limit ts rest = (kind : SurfaceKind) × (end : ℕ) × IsEntry limit ts kind end rest

abbrev pub ItemIs : (bars : ℕ) → SurfaceItem → (limit : ℕ) → List Lexeme → List Lexeme → Type 0
ItemIs bars i limit ts rest = IsItem limit bars ts i rest

abbrev pub SomeItem : (bars : ℕ) → (limit : ℕ) → List Lexeme → List Lexeme → Type 0
SomeItem bars limit ts rest = (i : SurfaceItem) × IsItem limit bars ts i rest

-- the tokens with which an item begins
abbrev pub begins_item : Kind → Bool
begins_item k.LBracket = true
begins_item k.Name = true
begins_item _ = false

-- the token is the name with these bytes
pub record IsWordAt (text : List ℕ) (t : Token) (word : List ℕ) : Type 0 where
  pub named : t.kind ≡ k.Name
  pub bytes : between text t.span.start t.span.end ≡ word
