-- What callers need: the spans of names of an item that was parsed lie in its text.
use Rattle.std.proofs.Common.{◌≡◌, ℕ, zero, suc, ◌<◌, List, [], ◌∷◌, length, get_or, sym, subst, arith}
use Rattle.fb_parse.specs.Items.{SurfaceBody, Plain, Intro, Elim, Same, Fill, SurfaceKind, Flag, Prim, Line, SurfaceItem}
use Rattle.fb_parse.specs.Standing.{BodyStands, KindStands, ItemStands, ItemsStand}
use Rattle.fb_parse.specs.declared.tree.Item.{Item}
use Rattle.fb_parse.specs.ItemView.{item_view, items_view}
use Rattle.fb_write.specs.Writing.{BodyNameLies, KindNamesLie, NamesLie}

body_lies : (text : List ℕ) (b : SurfaceBody) → BodyStands text b → BodyNameLies text b
body_lies text (Plain t) h = tt
body_lies text (Intro s x) h = h.lies
body_lies text (Elim ts) h = tt
body_lies text (Same t) h = tt
body_lies text (Fill s x xs) h = h.0.lies

kind_lies : (text : List ℕ) (k : SurfaceKind) → KindStands text k → KindNamesLie text k
kind_lies text (Flag t) h = tt
kind_lies text (Prim t) h = tt
kind_lies text (Line b t) h = body_lies text b h.0

pub names_lie : (text : List ℕ) (i : SurfaceItem) → ItemStands text i → NamesLie text i
names_lie text i h = record { name = h.name.lies; kind = kind_lies text i.kind h.kind }

stands_at : (text : List ℕ) (items : List Item) (n : ℕ) (d : Item) → n < length items → ItemsStand text (items_view text items) → ItemStands text (item_view text (get_or items n d))
stands_at text [] n d l h = absurd (omega arith)
stands_at text (i ∷ items) zero d l h = h.0
stands_at text (i ∷ items) (suc n) d l h = stands_at text items n d (omega arith) h.1

-- an item of a book that was parsed
pub parsed_names_lie : (text : List ℕ) (items : List Item) (n : ℕ) (i : Item) → n < length items → i ≡ get_or items n i → ItemsStand text (items_view text items) → NamesLie text (item_view text i)
parsed_names_lie text items n i l e h = names_lie text (item_view text i) (subst (λ x. ItemStands text (item_view text x)) (sym e) (stands_at text items n i l h))
