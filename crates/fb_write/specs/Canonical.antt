-- The canonical text of terms and items, and trees without their spans.
use Rattle.std.specs.Prelude.{ℕ, zero, suc, Bool, true, false, List, [], ◌∷◌, ◌++◌, codes}
use Rattle.fb_base.specs.declared.places.Span.{Span}
use Rattle.fb_parse.specs.Grammar.{Surface, Surfaces, Star, Box_, Name, Inst, Apply, Fun, All, Arrow, none, more, span}
use Rattle.fb_parse.specs.Items.{SurfaceArg, Hole, Given, SurfaceBody, Plain, Intro, Elim, Same, Fill, SurfaceKind, Flag, Prim, Line, SurfaceItem}

-- Fun, all and arrow go on as far as they can.
abbrev pub is_open_ended : Surface → Bool
is_open_ended (Fun s x a m) = true
is_open_ended (All s x a b) = true
is_open_ended (Arrow s a b) = true
is_open_ended _ = false

-- what isn't an atom without parentheses
abbrev pub is_compound : Surface → Bool
is_compound (Apply s f us) = true
is_compound (Fun s x a m) = true
is_compound (All s x a b) = true
is_compound (Arrow s a b) = true
is_compound _ = false

abbrev pub in_parentheses : Bool → List ℕ → List ℕ
in_parentheses true text = codes "(" ++ text ++ codes ")"
in_parentheses false text = text

-- The left side of an arrow stands in parentheses where it is open-ended, and the head and the arguments of an application where
-- they are compound. There are no other parentheses but those of instances.
abbrev mutual
  pub term_text : Surface → List ℕ
  term_text (Star s) = codes "*"
  term_text (Box_ s) = codes "box"
  term_text (Name s x) = x
  term_text (Inst s x us) = x ++ codes "(" ++ terms_text us ++ codes ")"
  term_text (Apply s f us) = in_parentheses (is_compound f) (term_text f) ++ arguments_text us
  term_text (Fun s x a m) = codes "fun " ++ x ++ codes " : " ++ term_text a ++ codes " . " ++ term_text m
  term_text (All s x a b) = codes "all " ++ x ++ codes " : " ++ term_text a ++ codes " . " ++ term_text b
  term_text (Arrow s a b) = in_parentheses (is_open_ended a) (term_text a) ++ codes " -> " ++ term_text b

  -- terms with commas between them
  pub terms_text : Surfaces → List ℕ
  terms_text none = []
  terms_text (more a us) = term_text a ++ more_terms_text us

  -- terms, each behind a comma
  pub more_terms_text : Surfaces → List ℕ
  more_terms_text none = []
  more_terms_text (more a us) = codes ", " ++ term_text a ++ more_terms_text us

  -- arguments of an application, each behind a blank
  pub arguments_text : Surfaces → List ℕ
  arguments_text none = []
  arguments_text (more a us) = codes " " ++ in_parentheses (is_compound a) (term_text a) ++ arguments_text us

abbrev pub arg_text : SurfaceArg → List ℕ
arg_text (Hole s) = codes "_"
arg_text (Given a) = term_text a

-- arguments of `by use`, each behind a comma
abbrev pub more_args_text : List SurfaceArg → List ℕ
more_args_text [] = []
more_args_text (a ∷ args) = codes ", " ++ arg_text a ++ more_args_text args

-- arguments in parentheses, or nothing
abbrev pub filling_text : List SurfaceArg → List ℕ
filling_text [] = []
filling_text (a ∷ args) = codes "(" ++ arg_text a ++ more_args_text args ++ codes ")"

abbrev pub body_text : SurfaceBody → List ℕ
body_text (Plain a) = term_text a
body_text (Intro s w) = codes "by intro " ++ w
body_text (Elim us) = codes "by elim " ++ terms_text us
body_text (Same a) = codes "by same " ++ term_text a
body_text (Fill s c args) = codes "by use " ++ c ++ filling_text args

abbrev pub kind_text : (name : List ℕ) → SurfaceKind → List ℕ
kind_text x (Flag a) = codes "[" ++ x ++ codes " : " ++ term_text a ++ codes "]"
kind_text x (Prim n) = x ++ codes " := prim : " ++ term_text n
kind_text x (Line body n) = x ++ codes " := " ++ body_text body ++ codes " : " ++ term_text n

abbrev pub bars_text : ℕ → List ℕ
bars_text zero = []
bars_text (suc b) = codes "| " ++ bars_text b

-- An item's text ends with a line feed.
abbrev pub item_text : SurfaceItem → List ℕ
item_text i = bars_text i.bars ++ kind_text i.name i.kind ++ codes "\n"

abbrev pub items_text : List SurfaceItem → List ℕ
items_text [] = []
items_text (i ∷ is) = item_text i ++ items_text is

-- Trees without their spans.
abbrev pub nowhere : Span
nowhere = span 0 0

abbrev mutual
  pub bare : Surface → Surface
  bare (Star s) = Star nowhere
  bare (Box_ s) = Box_ nowhere
  bare (Name s x) = Name nowhere x
  bare (Inst s x us) = Inst nowhere x (all_bare us)
  bare (Apply s f us) = Apply nowhere (bare f) (all_bare us)
  bare (Fun s x a m) = Fun nowhere x (bare a) (bare m)
  bare (All s x a b) = All nowhere x (bare a) (bare b)
  bare (Arrow s a b) = Arrow nowhere (bare a) (bare b)

  pub all_bare : Surfaces → Surfaces
  all_bare none = none
  all_bare (more a us) = more (bare a) (all_bare us)

abbrev pub bare_arg : SurfaceArg → SurfaceArg
bare_arg (Hole s) = Hole nowhere
bare_arg (Given a) = Given (bare a)

abbrev pub bare_args : List SurfaceArg → List SurfaceArg
bare_args [] = []
bare_args (a ∷ args) = bare_arg a ∷ bare_args args

abbrev pub bare_body : SurfaceBody → SurfaceBody
bare_body (Plain a) = Plain (bare a)
bare_body (Intro s w) = Intro nowhere w
bare_body (Elim us) = Elim (all_bare us)
bare_body (Same a) = Same (bare a)
bare_body (Fill s c args) = Fill nowhere c (bare_args args)

abbrev pub bare_kind : SurfaceKind → SurfaceKind
bare_kind (Flag a) = Flag (bare a)
bare_kind (Prim n) = Prim (bare n)
bare_kind (Line body n) = Line (bare_body body) (bare n)

abbrev pub bare_item : SurfaceItem → SurfaceItem
bare_item i = record { bars = i.bars; name = i.name; name_span = nowhere; span = nowhere; kind = bare_kind i.kind }

abbrev pub bare_items : List SurfaceItem → List SurfaceItem
bare_items [] = []
bare_items (i ∷ is) = bare_item i ∷ bare_items is
