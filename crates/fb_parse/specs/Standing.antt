-- What a tree says of its text: its spans lie in the text, and its names are names of at most 255 bytes.
use Rattle.std.specs.Prelude.{◌≡◌, ℕ, suc, ◌<◌, ◌≤◌, List, [], ◌∷◌, length}
use Rattle.std.specs.Str.{IsUtf8}
use Rattle.fb_base.specs.declared.places.Span.{Span}
use Rattle.fb_lex.specs.Tokens.{IsName, between}
use Rattle.fb_parse.specs.Grammar.{Surface, Surfaces, Star, Box_, Name, Inst, Apply, Fun, All, Arrow, none, more}
use Rattle.fb_parse.specs.Items.{SurfaceArg, Hole, Given, SurfaceBody, Plain, Intro, Elim, Same, Fill, SurfaceKind, Flag, Prim, Line, SurfaceItem}

-- the bytes of a name: one token for themselves, which is a name, and so text that isn't empty
pub record IsNameBytes (x : List ℕ) : Type 0 where
  pub spelled : IsName x
  pub some : 0 < length x
  pub short : length x ≤ 255
  pub utf8 : IsUtf8 x

-- a span of the text
pub record LiesIn (text : List ℕ) (s : Span) : Type 0 where
  pub ordered : s.start ≤ s.end
  pub within : s.end ≤ length text

-- the bytes at a span of the text, which are a name
pub record HoldsName (text : List ℕ) (s : Span) (x : List ℕ) : Type 0 where
  pub lies : LiesIn text s
  pub bytes : x ≡ between text s.start s.end
  pub name : IsNameBytes x

abbrev pub count : Surfaces → ℕ
count none = 0
count (more x xs) = suc (count xs)

-- An instance with parentheses and an application have at least one argument.
abbrev mutual
  pub TermStands : List ℕ → Surface → Type 0
  TermStands text (Star s) = LiesIn text s
  TermStands text (Box_ s) = LiesIn text s
  TermStands text (Name s x) = LiesIn text s × IsNameBytes x
  TermStands text (Inst s x xs) = LiesIn text s × IsNameBytes x × TermsStand text xs × (0 < count xs)
  TermStands text (Apply s f xs) = LiesIn text s × TermStands text f × TermsStand text xs × (0 < count xs)
  TermStands text (Fun s x a m) = LiesIn text s × IsNameBytes x × TermStands text a × TermStands text m
  TermStands text (All s x a m) = LiesIn text s × IsNameBytes x × TermStands text a × TermStands text m
  TermStands text (Arrow s a b) = LiesIn text s × TermStands text a × TermStands text b

  pub TermsStand : List ℕ → Surfaces → Type 0
  TermsStand text none = Unit {0}
  TermsStand text (more x xs) = TermStands text x × TermsStand text xs

abbrev pub ArgStands : List ℕ → SurfaceArg → Type 0
ArgStands text (Hole s) = LiesIn text s
ArgStands text (Given t) = TermStands text t

abbrev pub ArgsStand : List ℕ → List SurfaceArg → Type 0
ArgsStand text [] = Unit {0}
ArgsStand text (a ∷ rest) = ArgStands text a × ArgsStand text rest

-- behind `by elim` stand at least two terms
abbrev pub BodyStands : List ℕ → SurfaceBody → Type 0
BodyStands text (Plain t) = TermStands text t
BodyStands text (Intro s x) = HoldsName text s x
BodyStands text (Elim ts) = TermsStand text ts × (1 < count ts)
BodyStands text (Same t) = TermStands text t
BodyStands text (Fill s x xs) = HoldsName text s x × ArgsStand text xs

abbrev pub KindStands : List ℕ → SurfaceKind → Type 0
KindStands text (Flag t) = TermStands text t
KindStands text (Prim t) = TermStands text t
KindStands text (Line b t) = BodyStands text b × TermStands text t

pub record ItemStands (text : List ℕ) (i : SurfaceItem) : Type 0 where
  pub lies : LiesIn text i.span
  pub name : HoldsName text i.name_span i.name
  pub kind : KindStands text i.kind

abbrev pub ItemsStand : List ℕ → List SurfaceItem → Type 0
ItemsStand text [] = Unit {0}
ItemsStand text (i ∷ rest) = ItemStands text i × ItemsStand text rest
