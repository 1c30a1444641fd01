-- Whether an item is writable doesn't depend on its spans.
use Rattle.std.proofs.Common.{List, [], ◌∷◌, subst}
use Rattle.fb_parse.specs.Grammar.{none, more}
use Rattle.fb_parse.specs.Items.{SurfaceArg, Hole, Given, SurfaceBody, Plain, Intro, Elim, Same, Fill, SurfaceKind, Flag, Prim, Line, SurfaceItem}
use Rattle.fb_write.specs.Canonical.{bare_arg, bare_args, bare_body, bare_kind, bare_item}
use Rattle.fb_write.specs.Writable.{IsWritableArg, AreWritableArgs, IsWritableBody, IsWritableKind, IsWritableItem}
use Rattle.fb_write.specs.ReadBack.{ItemSpansDontCount}
use Rattle.fb_write.proofs.Bare.{to_bare, all_to_bare, from_bare, all_from_bare}

arg_to_bare : {a : SurfaceArg} → IsWritableArg a → IsWritableArg (bare_arg a)
arg_to_bare IsWritableArg.hole = IsWritableArg.hole
arg_to_bare (IsWritableArg.given p) = IsWritableArg.given (to_bare p)

args_to_bare : {args : List SurfaceArg} → AreWritableArgs args → AreWritableArgs (bare_args args)
args_to_bare AreWritableArgs.no_arg = AreWritableArgs.no_arg
args_to_bare (AreWritableArgs.arg p ps) = AreWritableArgs.arg (arg_to_bare p) (args_to_bare ps)

body_to_bare : {b : SurfaceBody} → IsWritableBody b → IsWritableBody (bare_body b)
body_to_bare (IsWritableBody.plain p) = IsWritableBody.plain (to_bare p)
body_to_bare (IsWritableBody.intro w) = IsWritableBody.intro w
body_to_bare (IsWritableBody.elimination p q r) = IsWritableBody.elimination (to_bare p) (to_bare q) (all_to_bare r)
body_to_bare (IsWritableBody.same p) = IsWritableBody.same (to_bare p)
body_to_bare (IsWritableBody.fill c args) = IsWritableBody.fill c (args_to_bare args)

kind_to_bare : {k : SurfaceKind} → IsWritableKind k → IsWritableKind (bare_kind k)
kind_to_bare (IsWritableKind.flag p) = IsWritableKind.flag (to_bare p)
kind_to_bare (IsWritableKind.primitive p) = IsWritableKind.primitive (to_bare p)
kind_to_bare (IsWritableKind.line b p) = IsWritableKind.line (body_to_bare b) (to_bare p)

arg_from_bare : (a : SurfaceArg) → IsWritableArg (bare_arg a) → IsWritableArg a
arg_from_bare (Hole s) IsWritableArg.hole = IsWritableArg.hole
arg_from_bare (Given a) (IsWritableArg.given p) = IsWritableArg.given (from_bare a p)

args_from_bare : (args : List SurfaceArg) → AreWritableArgs (bare_args args) → AreWritableArgs args
args_from_bare [] AreWritableArgs.no_arg = AreWritableArgs.no_arg
args_from_bare (a ∷ args) (AreWritableArgs.arg p ps) = AreWritableArgs.arg (arg_from_bare a p) (args_from_bare args ps)

body_from_bare : (b : SurfaceBody) → IsWritableBody (bare_body b) → IsWritableBody b
body_from_bare (Plain a) (IsWritableBody.plain p) = IsWritableBody.plain (from_bare a p)
body_from_bare (Intro s w) (IsWritableBody.intro n) = IsWritableBody.intro n
body_from_bare (Elim none) h = elim h [ ]
body_from_bare (Elim (more f none)) h = elim h [ ]
body_from_bare (Elim (more f (more a us))) (IsWritableBody.elimination p q r) = IsWritableBody.elimination (from_bare f p) (from_bare a q) (all_from_bare us r)
body_from_bare (Same a) (IsWritableBody.same p) = IsWritableBody.same (from_bare a p)
body_from_bare (Fill s c args) (IsWritableBody.fill n ps) = IsWritableBody.fill n (args_from_bare args ps)

kind_from_bare : (k : SurfaceKind) → IsWritableKind (bare_kind k) → IsWritableKind k
kind_from_bare (Flag a) (IsWritableKind.flag p) = IsWritableKind.flag (from_bare a p)
kind_from_bare (Prim n) (IsWritableKind.primitive p) = IsWritableKind.primitive (from_bare n p)
kind_from_bare (Line b n) (IsWritableKind.line h p) = IsWritableKind.line (body_from_bare b h) (from_bare n p)

to_bare_item : (i : SurfaceItem) → IsWritableItem i → IsWritableItem (bare_item i)
to_bare_item i w = record { name = w.name; kind = kind_to_bare w.kind }

from_bare_item : (i : SurfaceItem) → IsWritableItem (bare_item i) → IsWritableItem i
from_bare_item i w = record { name = w.name; kind = kind_from_bare i.kind w.kind }

pub item_spans_dont_count : ItemSpansDontCount
item_spans_dont_count i j e w = from_bare_item j (subst IsWritableItem e (to_bare_item i w))
