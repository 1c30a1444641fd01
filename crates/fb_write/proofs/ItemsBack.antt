-- The pieces of writable items are read as these, spans aside.
use Rattle.std.proofs.Common.{◌≡◌, ℕ, zero, suc, ◌+◌, Bool, true, false, List, [], ◌∷◌, length, refl, ap, subst, arith}
use Rattle.std.specs.Prelude.{codes}
use Rattle.fb_lex.specs.declared.tokens.Kind.TheVariants as k
use Rattle.fb_lex.specs.TokenList.{Lexeme}
use Rattle.fb_parse.specs.Grammar.{more, span, Terms}
use Rattle.fb_parse.specs.Items.{SurfaceArg, Hole, Given, SurfaceBody, Plain, Intro, Elim, Same, Fill, SurfaceKind, Flag, Prim, Line, SurfaceItem, IsArg, MoreArgs, IsArgs, IsFilling, IsWay, IsBody, IsEntry, IsItem, IsLines}
use Rattle.fb_write.specs.Canonical.{nowhere, bare_arg, bare_args, bare_body, bare_kind, bare_item, bare_items}
use Rattle.fb_write.specs.Writable.{IsWritableArg, AreWritableArgs, IsWritableBody, IsWritableKind, AreWritableItems}
use Rattle.fb_write.proofs.Pieces.{Piece, piece, gap, placed}
use Rattle.fb_write.proofs.Spelled.{term_pieces, more_pieces}
use Rattle.fb_write.proofs.Regained.{two, term_back, more_back}
use Rattle.fb_write.proofs.ItemPieces.{arg_pieces, more_args_pieces, filling_pieces, body_pieces, kind_pieces, bars_pieces, line_feed, items_pieces}

record ArgBack (l : ℕ) (ts : List Lexeme) (a : SurfaceArg) (rest : List Piece) : Type 0 where
  pub tree : SurfaceArg
  pub at : ℕ
  pub reads : IsArg l ts tree (placed at rest)
  pub same : bare_arg tree ≡ bare_arg a

record ArgsBack (l : ℕ) (ts : List Lexeme) (args : List SurfaceArg) (rest : List Piece) : Type 0 where
  pub trees : List SurfaceArg
  pub at : ℕ
  pub reads : MoreArgs l ts trees (placed at rest)
  pub same : bare_args trees ≡ bare_args args

record FillingBack (l : ℕ) (ts : List Lexeme) (args : List SurfaceArg) (rest : List Piece) : Type 0 where
  pub trees : List SurfaceArg
  pub at : ℕ
  pub reads : IsFilling l ts trees (placed at rest)
  pub same : bare_args trees ≡ bare_args args

record BodyBack (l : ℕ) (ts : List Lexeme) (body : SurfaceBody) (rest : List Piece) : Type 0 where
  pub tree : SurfaceBody
  pub at : ℕ
  pub reads : IsBody l ts tree (placed at rest)
  pub same : bare_body tree ≡ bare_body body

record ItemBack (l bars : ℕ) (ts : List Lexeme) (x : List ℕ) (kind : SurfaceKind) (rest : List Piece) : Type 0 where
  pub tree : SurfaceItem
  pub at : ℕ
  pub reads : IsItem l bars ts tree (placed at rest)
  pub same : bare_item tree ≡ record { bars = bars; name = x; name_span = nowhere; span = nowhere; kind = bare_kind kind }

-- lines up to the end
pub record LinesBack (l bars : ℕ) (ts : List Lexeme) (others : List SurfaceItem) : Type 0 where
  pub trees : List SurfaceItem
  pub reads : IsLines l bars ts trees []
  pub same : bare_items trees ≡ others

arg_back : {a : SurfaceArg} → IsWritableArg a → (l q : ℕ) (sp : Bool) (rest : List Piece) → ArgBack l (placed q (arg_pieces sp a rest)) a rest
arg_back IsWritableArg.hole l q sp rest =
    let s = q + length (gap sp) in
    record { tree = Hole (span s (s + 1)); at = s + 1; reads = IsArg.hole; same = refl }
arg_back (IsWritableArg.given h) l q sp rest =
    let b = (term_back h).term l q sp rest in
    record { tree = Given b.tree; at = b.at; reads = IsArg.given b.reads; same = ap Given b.same }

more_args_back : {args : List SurfaceArg} → AreWritableArgs args → (l q : ℕ) (rest : List Piece) → ArgsBack l (placed q (more_args_pieces args rest)) args rest
more_args_back AreWritableArgs.no_arg l q rest = record { trees = []; at = q; reads = MoreArgs.no_more_args; same = refl }
more_args_back (AreWritableArgs.arg {args = args} h hs) l q rest =
    let first = arg_back h l (q + length (gap false) + 1) true (more_args_pieces args rest) in
    let others = more_args_back hs l first.at rest in
    record { trees = first.tree ∷ others.trees; at = others.at; reads = MoreArgs.comma first.reads others.reads; same = two (λ a b. a ∷ b) first.same others.same }

-- What stands behind a name in a filling is no parenthesis that touches it.
filling_back : {args : List SurfaceArg} → AreWritableArgs args → (l q : ℕ) (rest : List Piece) → FillingBack l (placed q (filling_pieces args rest)) args rest
filling_back AreWritableArgs.no_arg l q rest = record { trees = []; at = q; reads = IsFilling.nothing; same = refl }
filling_back (AreWritableArgs.arg {args = args} h hs) l q rest =
    let close = piece false k.RParen (codes ")") ∷ rest in
    let first = arg_back h l (q + length (gap false) + 1) false (more_args_pieces args close) in
    let others = more_args_back hs l first.at close in
    record { trees = first.tree ∷ others.trees; at = others.at + length (gap false) + 1; reads = IsFilling.listed (IsArgs.args first.reads others.reads); same = two (λ a b. a ∷ b) first.same others.same }

body_back : {body : SurfaceBody} → IsWritableBody body → (l q : ℕ) (rest : List Piece) → BodyBack l (placed q (body_pieces body rest)) body rest
body_back (IsWritableBody.plain h) l q rest =
    let b = (term_back h).term l q true rest in
    record { tree = Plain b.tree; at = b.at; reads = IsBody.plain b.reads; same = ap Plain b.same }
body_back (IsWritableBody.intro {w = w} h) l q rest =
    let s = q + 1 + 2 + 1 + 5 + 1 in
    record { tree = Intro (span s (s + length w)) w; at = s + length w; reads = IsBody.by (IsWay.intro refl); same = refl }
body_back (IsWritableBody.elimination {f = f} {a = a} {us = us} p q r) l at rest =
    let head = (term_back p).term l (at + 1 + 2 + 1 + 4) true (more_pieces (more a us) rest) in
    let first = (term_back q).term l (head.at + length (gap false) + 1) true (more_pieces us rest) in
    let others = more_back r l first.at first.end rest in
    record {
      tree = Elim (more head.tree (more first.tree others.trees));
      at = others.at;
      reads = IsBody.by (IsWay.elimination refl head.reads (Terms.terms first.reads others.reads));
      same = ap Elim (two more head.same (two more first.same others.same));
    }
body_back (IsWritableBody.same h) l q rest =
    let b = (term_back h).term l (q + 1 + 2 + 1 + 4) true rest in
    record { tree = Same b.tree; at = b.at; reads = IsBody.by (IsWay.same refl b.reads); same = ap Same b.same }
body_back (IsWritableBody.fill {c = c} {args = args} h hs) l q rest =
    let s = q + 1 + 2 + 1 + 3 + 1 in
    let args = filling_back hs l (s + length c) rest in
    record { tree = Fill (span s (s + length c)) c args.trees; at = args.at; reads = IsBody.by (IsWay.fill refl args.reads); same = ap (Fill nowhere c) args.same }

abbrev bare_item_of : (bars : ℕ) (x : List ℕ) → SurfaceKind → SurfaceItem
bare_item_of bars x kind = record { bars = bars; name = x; name_span = nowhere; span = nowhere; kind = kind }

kind_back : {kind : SurfaceKind} → IsWritableKind kind → (l bars q : ℕ) (sp : Bool) (x : List ℕ) (rest : List Piece) → ItemBack l bars (placed q (kind_pieces sp x kind rest)) x kind rest
kind_back (IsWritableKind.flag h) l bars q sp x rest =
    let s = q + length (gap sp) in
    let n = s + 1 + length (gap false) in
    let of = (term_back h).term l (n + length x + 1 + 1) true (piece false k.RBracket (codes "]") ∷ rest) in
    let e = of.at + length (gap false) + 1 in
    record {
      tree = record { bars = bars; name = x; name_span = span n (n + length x); span = span s e; kind = Flag of.tree };
      at = e;
      reads = IsItem.flag of.reads;
      same = ap (λ v. bare_item_of bars x (Flag v)) of.same;
    }
kind_back (IsWritableKind.primitive h) l bars q sp x rest =
    let s = q + length (gap sp) in
    let of = (term_back h).term l (s + length x + 1 + 2 + 1 + 4 + 1 + 1) true rest in
    record {
      tree = record { bars = bars; name = x; name_span = span s (s + length x); span = span s of.end; kind = Prim of.tree };
      at = of.at;
      reads = IsItem.entry (IsEntry.primitive of.reads);
      same = ap (λ v. bare_item_of bars x (Prim v)) of.same;
    }
kind_back (IsWritableKind.line {body = body} {n = t} h hs) l bars q sp x rest =
    let s = q + length (gap sp) in
    let b = body_back h l (s + length x + 1 + 2) (piece true k.Colon (codes ":") ∷ term_pieces true t rest) in
    let of = (term_back hs).term l (b.at + 1 + 1) true rest in
    record {
      tree = record { bars = bars; name = x; name_span = span s (s + length x); span = span s of.end; kind = Line b.tree of.tree };
      at = of.at;
      reads = IsItem.entry (IsEntry.line b.reads of.reads);
      same = two (λ u v. bare_item_of bars x (Line u v)) b.same of.same;
    }

bars_back : (n l b q : ℕ) (sp : Bool) (rest : Bool → List Piece) (others : List SurfaceItem) → ((at : ℕ) (t : Bool) → LinesBack l (b + n) (placed at (rest t)) others) → LinesBack l b (placed q (bars_pieces sp n rest)) others
bars_back zero l b q sp rest others h = subst (λ v. LinesBack l v (placed q (rest sp)) others) (let e : b + 0 ≡ b = omega arith in e) (h q sp)
bars_back (suc n) l b q sp rest others h =
    let behind = bars_back n l (b + 1) (q + length (gap sp) + 1) true rest others (λ at t. subst (λ v. LinesBack l v (placed at (rest t)) others) (let e : b + suc n ≡ b + 1 + n = omega arith in e) (h at t)) in
    record { trees = behind.trees; reads = IsLines.bar behind.reads; same = behind.same }

-- an item, and behind its line feed further lines
item_line : {kind : SurfaceKind} → IsWritableKind kind → (l bars q : ℕ) (sp : Bool) (x : List ℕ) (rest : List Piece) (others : List SurfaceItem) → ((at : ℕ) → LinesBack l 0 (placed at rest) others) →
    LinesBack l bars (placed q (kind_pieces sp x kind (line_feed rest))) (bare_item_of bars x (bare_kind kind) ∷ others)
item_line h l bars q sp x rest others tail =
    let first = kind_back h l bars q sp x (line_feed rest) in
    let more = tail (first.at + length (gap false) + 1) in
    record { trees = first.tree ∷ more.trees; reads = IsLines.item first.reads refl (IsLines.next_line more.reads); same = two (λ a b. a ∷ b) first.same more.same }

pub items_back : {is : List SurfaceItem} → AreWritableItems is → (l q : ℕ) → LinesBack l 0 (placed q (items_pieces is)) (bare_items is)
items_back AreWritableItems.no_item l q = record { trees = []; reads = IsLines.end; same = refl }
items_back (AreWritableItems.item {i = i} {is = is} w ws) l q =
    bars_back i.bars l 0 q false (λ sp. kind_pieces sp i.name i.kind (line_feed (items_pieces is))) (bare_items (i ∷ is))
    (λ at t. subst (λ v. LinesBack l v (placed at (kind_pieces t i.name i.kind (line_feed (items_pieces is)))) (bare_items (i ∷ is))) (let e : i.bars ≡ 0 + i.bars = omega arith in e)
    (item_line w.kind l i.bars at t i.name (items_pieces is) (bare_items is) (λ p. items_back ws l p)))
