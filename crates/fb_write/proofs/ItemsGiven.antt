-- The items of a book are writable.
use Rattle.std.proofs.Common.{ℕ, ◌+◌, List, length, None, arith}
use Rattle.fb_lex.specs.TokenList.{Lexeme}
use Rattle.fb_parse.specs.Grammar.{Terms}
use Rattle.fb_parse.specs.Items.{SurfaceArg, SurfaceBody, SurfaceKind, SurfaceItem, IsArg, MoreArgs, IsArgs, IsFilling, IsWay, IsBody, IsEntry, IsItem, IsLines}
use Rattle.fb_write.specs.Writable.{IsWritableArg, AreWritableArgs, IsWritableBody, IsWritableKind, IsWritableItem, AreWritableItems}
use Rattle.fb_write.specs.ReadBack.{GivenItemsAreWritable}
use Rattle.fb_write.proofs.Names.{AreGiven, tokens_given}
use Rattle.fb_write.proofs.Given.{term_given, more_given}

arg_given : {l : ℕ} {ts r : List Lexeme} {a : SurfaceArg} → AreGiven l ts → IsArg l ts a r → IsWritableArg a × AreGiven l r
arg_given g IsArg.hole = (IsWritableArg.hole, g.1)
arg_given g (IsArg.given p) = let one = term_given g p in (IsWritableArg.given one.0, one.1)

more_args_given : {l : ℕ} {ts r : List Lexeme} {xs : List SurfaceArg} → AreGiven l ts → MoreArgs l ts xs r → AreWritableArgs xs × AreGiven l r
more_args_given g MoreArgs.no_more_args = (AreWritableArgs.no_arg, g)
more_args_given g (MoreArgs.comma p q) =
    let first = arg_given g.1 p in
    let others = more_args_given first.1 q in
    (AreWritableArgs.arg first.0 others.0, others.1)

filling_given : {l : ℕ} {ts r : List Lexeme} {xs : List SurfaceArg} → AreGiven l ts → IsFilling l ts xs r → AreWritableArgs xs × AreGiven l r
filling_given g IsFilling.nothing = (AreWritableArgs.no_arg, g)
filling_given g (IsFilling.listed (IsArgs.args p q)) =
    let first = arg_given g.1 p in
    let others = more_args_given first.1 q in
    (AreWritableArgs.arg first.0 others.0, others.1.1)

way_given : {l : ℕ} {ts r : List Lexeme} {b : SurfaceBody} → AreGiven l ts → IsWay l ts b r → IsWritableBody b × AreGiven l r
way_given g (IsWay.intro e) = (IsWritableBody.intro g.2.1, g.2.2)
way_given g (IsWay.elimination e p (Terms.terms q r)) =
    let head = term_given g.2 p in
    let first = term_given head.1.1 q in
    let others = more_given first.1 r in
    (IsWritableBody.elimination head.0 first.0 others.0, others.1)
way_given g (IsWay.same e p) = let one = term_given g.2 p in (IsWritableBody.same one.0, one.1)
way_given g (IsWay.fill e p) = let args = filling_given g.2.2 p in (IsWritableBody.fill g.2.1 args.0, args.1)

body_given : {l : ℕ} {ts r : List Lexeme} {b : SurfaceBody} → AreGiven l ts → IsBody l ts b r → IsWritableBody b × AreGiven l r
body_given g (IsBody.plain p) = let one = term_given g p in (IsWritableBody.plain one.0, one.1)
body_given g (IsBody.by p) = way_given g.1 p

entry_given : {l : ℕ} {ts r : List Lexeme} {kind : SurfaceKind} {e : ℕ} → AreGiven l ts → IsEntry l ts kind e r → IsWritableKind kind × AreGiven l r
entry_given g (IsEntry.primitive p) = let of = term_given g.1.1 p in (IsWritableKind.primitive of.0, of.1)
entry_given g (IsEntry.line p q) =
    let body = body_given g p in
    let of = term_given body.1.1 q in
    (IsWritableKind.line body.0 of.0, of.1)

item_given : {l b : ℕ} {ts r : List Lexeme} {i : SurfaceItem} → AreGiven l ts → IsItem l b ts i r → IsWritableItem i × AreGiven l r
item_given g (IsItem.flag p) = let of = term_given g.1.2.1 p in (record { name = g.1.1; kind = IsWritableKind.flag of.0 }, of.1.1)
item_given g (IsItem.entry p) = let kind = entry_given g.2.1 p in (record { name = g.1; kind = kind.0 }, kind.1)

lines_given : {l b : ℕ} {ts r : List Lexeme} {is : List SurfaceItem} → AreGiven l ts → IsLines l b ts is r → AreWritableItems is
lines_given g IsLines.end = AreWritableItems.no_item
lines_given g (IsLines.bar p) = lines_given g.1 p
lines_given g (IsLines.next_line p) = lines_given g.1 p
lines_given g (IsLines.item p h q) = let one = item_given g p in AreWritableItems.item one.0 (lines_given one.1 q)

pub given_items_are_writable : GivenItemsAreWritable
given_items_are_writable text items h = lines_given (tokens_given {prev = None} (omega arith) h.are) (h.parses (length text + 1))
