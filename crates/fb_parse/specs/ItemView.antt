-- The items of the code over a text, seen as the grammar's.
use Rattle.std.specs.Prelude.{ℕ, List, [], ◌∷◌}
use Rattle.fb_base.specs.declared.places.Span.{Span}
use Rattle.fb_lex.specs.Tokens.{between}
use Rattle.fb_parse.specs.declared.tree.Arg.{Arg}
use Rattle.fb_parse.specs.declared.tree.Arg.TheVariants as arg
use Rattle.fb_parse.specs.declared.tree.Body.{Body}
use Rattle.fb_parse.specs.declared.tree.Body.TheVariants as body
use Rattle.fb_parse.specs.declared.tree.ItemKind.{ItemKind}
use Rattle.fb_parse.specs.declared.tree.ItemKind.TheVariants as kind
use Rattle.fb_parse.specs.declared.tree.Item.{Item}
use Rattle.fb_parse.specs.Items.{SurfaceArg, Hole, Given, SurfaceBody, Plain, Intro, Elim, Same, Fill, SurfaceKind, Flag, Prim, Line, SurfaceItem}
use Rattle.fb_parse.specs.View.{view, views}

-- the bytes of the text at a span
abbrev pub at_span : List ℕ → Span → List ℕ
at_span text s = between text s.start s.end

abbrev pub arg_view : Arg → SurfaceArg
arg_view (arg.Hole s) = Hole s
arg_view (arg.Given t) = Given (view t)

abbrev pub args_view : List Arg → List SurfaceArg
args_view [] = []
args_view (a ∷ rest) = arg_view a ∷ args_view rest

abbrev pub body_view : List ℕ → Body → SurfaceBody
body_view text (body.Plain t) = Plain (view t)
body_view text (body.Intro s) = Intro s (at_span text s)
body_view text (body.Elim ts) = Elim (views ts.now)
body_view text (body.Same t) = Same (view t)
body_view text (body.Fill s xs) = Fill s (at_span text s) (args_view xs.now)

abbrev pub kind_view : List ℕ → ItemKind → SurfaceKind
kind_view text (kind.Flag t) = Flag (view t)
kind_view text (kind.Prim t) = Prim (view t)
kind_view text (kind.Line b t) = Line (body_view text b) (view t)

abbrev pub item_view : List ℕ → Item → SurfaceItem
item_view text i = record { bars = i.bars; name = at_span text i.name; name_span = i.name; span = i.span; kind = kind_view text i.kind }

abbrev pub items_view : List ℕ → List Item → List SurfaceItem
items_view text [] = []
items_view text (i ∷ rest) = item_view text i ∷ items_view text rest

-- items before others
abbrev pub before_items : List ℕ → List Item → List SurfaceItem → List SurfaceItem
before_items text [] rest = rest
before_items text (i ∷ is) rest = item_view text i ∷ before_items text is rest

-- arguments before others
abbrev pub before_args : List Arg → List SurfaceArg → List SurfaceArg
before_args [] rest = rest
before_args (a ∷ as') rest = arg_view a ∷ before_args as' rest
