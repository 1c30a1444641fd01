-- What parts of the code append.
use Rattle.std.specs.Prelude.{ℕ, Bool, true, false, List, [], ◌∷◌, ◌++◌, codes}
use Rattle.fb_parse.specs.Grammar.{Surfaces}
use Rattle.fb_parse.specs.Items.{SurfaceArg, SurfaceBody, Intro, Fill, SurfaceKind, Line, SurfaceItem}
use Rattle.fb_parse.specs.Standing.{LiesIn}
use Rattle.fb_write.specs.Canonical.{terms_text, more_terms_text, arg_text, more_args_text}

-- the comma before what isn't the first
abbrev pub comma : (first : Bool) → List ℕ
comma true = []
comma false = codes ", "

-- terms, the first of them first in its list or not
abbrev pub terms_from : (first : Bool) → Surfaces → List ℕ
terms_from true us = terms_text us
terms_from false us = more_terms_text us

abbrev pub args_text : List SurfaceArg → List ℕ
args_text [] = []
args_text (a ∷ args) = arg_text a ++ more_args_text args

abbrev pub args_from : (first : Bool) → List SurfaceArg → List ℕ
args_from true args = args_text args
args_from false args = more_args_text args

-- The spans of an item's names lie in the text.
abbrev pub BodyNameLies : List ℕ → SurfaceBody → Type 0
BodyNameLies text (Intro s w) = LiesIn text s
BodyNameLies text (Fill s c args) = LiesIn text s
BodyNameLies text _ = Unit {0}

abbrev pub KindNamesLie : List ℕ → SurfaceKind → Type 0
KindNamesLie text (Line body n) = BodyNameLies text body
KindNamesLie text _ = Unit {0}

pub record NamesLie (text : List ℕ) (i : SurfaceItem) : Type 0 where
  pub name : LiesIn text i.name_span
  pub kind : KindNamesLie text i.kind
