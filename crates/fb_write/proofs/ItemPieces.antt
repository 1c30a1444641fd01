-- The pieces of items: their text is the canonical one, and each is the longest that fits.
use Rattle.std.proofs.Common.{◌≡◌, ℕ, zero, suc, Bool, true, false, not, ◌&&◌, List, [], ◌∷◌, ◌++◌, refl, ap, ◌∙◌, arith, append_assoc}
use Rattle.std.specs.Prelude.{codes}
use Rattle.fb_lex.specs.declared.tokens.Kind.TheVariants as k
use Rattle.fb_lex.specs.Tokens.{Front, IsName}
use Rattle.fb_parse.specs.Grammar.{Surface, Surfaces, more}
use Rattle.fb_parse.specs.Items.{SurfaceArg, Hole, Given, SurfaceBody, Plain, Intro, Elim, Same, Fill, SurfaceKind, Flag, Prim, Line, SurfaceItem}
use Rattle.fb_write.specs.Canonical.{arg_text, more_args_text, filling_text, body_text, kind_text, bars_text, item_text, items_text}
use Rattle.fb_write.specs.Writable.{AreWritable, IsWritableArg, AreWritableArgs, IsWritableBody, IsWritableKind, IsWritableItem, AreWritableItems}
use Rattle.fb_write.proofs.Ahead.{is_apart, ends_apart}
use Rattle.fb_write.proofs.Pieces.{Piece, piece, gap, pieces_text, Lexes}
use Rattle.fb_write.proofs.Words.{ascii_begins, prim_stands, by_stands, name_stands, intro_name, elim_name, same_name, use_name}
use Rattle.fb_write.proofs.Spelled.{term_pieces, terms_pieces, more_pieces, term_spelled, more_spelled, blank_apart, blank_no_equals, more_apart, Goes, mark, closes, term_lexes, more_lexes}

abbrev pub arg_pieces : (spaced : Bool) → SurfaceArg → List Piece → List Piece
arg_pieces sp (Hole s) rest = piece sp k.Hole (codes "_") ∷ rest
arg_pieces sp (Given a) rest = term_pieces sp a rest

abbrev pub more_args_pieces : List SurfaceArg → List Piece → List Piece
more_args_pieces [] rest = rest
more_args_pieces (a ∷ args) rest = piece false k.Comma (codes ",") ∷ arg_pieces true a (more_args_pieces args rest)

abbrev pub filling_pieces : List SurfaceArg → List Piece → List Piece
filling_pieces [] rest = rest
filling_pieces (a ∷ args) rest = piece false k.Touching (codes "(") ∷ arg_pieces false a (more_args_pieces args (piece false k.RParen (codes ")") ∷ rest))

-- a body, behind a blank
abbrev pub body_pieces : SurfaceBody → List Piece → List Piece
body_pieces (Plain a) rest = term_pieces true a rest
body_pieces (Intro s w) rest = piece true k.By (codes "by") ∷ piece true k.Name (codes "intro") ∷ piece true k.Name w ∷ rest
body_pieces (Elim us) rest = piece true k.By (codes "by") ∷ piece true k.Name (codes "elim") ∷ terms_pieces true us rest
body_pieces (Same a) rest = piece true k.By (codes "by") ∷ piece true k.Name (codes "same") ∷ term_pieces true a rest
body_pieces (Fill s c args) rest = piece true k.By (codes "by") ∷ piece true k.Name (codes "use") ∷ piece true k.Name c ∷ filling_pieces args rest

abbrev pub kind_pieces : (spaced : Bool) → (name : List ℕ) → SurfaceKind → List Piece → List Piece
kind_pieces sp x (Flag a) rest =
    piece sp k.LBracket (codes "[") ∷ piece false k.Name x ∷ piece true k.Colon (codes ":") ∷ term_pieces true a (piece false k.RBracket (codes "]") ∷ rest)
kind_pieces sp x (Prim n) rest =
    piece sp k.Name x ∷ piece true k.Assign (codes ":=") ∷ piece true k.Prim (codes "prim") ∷ piece true k.Colon (codes ":") ∷ term_pieces true n rest
kind_pieces sp x (Line body n) rest =
    piece sp k.Name x ∷ piece true k.Assign (codes ":=") ∷ body_pieces body (piece true k.Colon (codes ":") ∷ term_pieces true n rest)

-- bars, and behind them what begins with a blank where there is a bar
abbrev pub bars_pieces : (spaced : Bool) → ℕ → (Bool → List Piece) → List Piece
bars_pieces sp zero rest = rest sp
bars_pieces sp (suc b) rest = piece sp k.Bar (codes "|") ∷ bars_pieces true b rest

abbrev pub line_feed : List Piece → List Piece
line_feed rest = piece false k.Newline (codes "\n") ∷ rest

abbrev pub item_pieces : SurfaceItem → List Piece → List Piece
item_pieces i rest = bars_pieces false i.bars (λ sp. kind_pieces sp i.name i.kind (line_feed rest))

abbrev pub items_pieces : List SurfaceItem → List Piece
items_pieces [] = []
items_pieces (i ∷ is) = item_pieces i (items_pieces is)

-- Their text.
arg_spelled : (a : SurfaceArg) (sp : Bool) (rest : List Piece) → pieces_text (arg_pieces sp a rest) ≡ gap sp ++ (arg_text a ++ pieces_text rest)
arg_spelled (Hole s) sp rest = refl
arg_spelled (Given a) sp rest = term_spelled a sp rest

more_args_spelled : (args : List SurfaceArg) (rest : List Piece) → pieces_text (more_args_pieces args rest) ≡ more_args_text args ++ pieces_text rest
more_args_spelled [] rest = refl
more_args_spelled (a ∷ args) rest =
    ap (λ v. 44 ∷ v) (arg_spelled a true (more_args_pieces args rest)) ∙ ap (λ v. 44 ∷ 32 ∷ (arg_text a ++ v)) (more_args_spelled args rest) ∙ simp append_assoc

filling_spelled : (args : List SurfaceArg) (rest : List Piece) → pieces_text (filling_pieces args rest) ≡ filling_text args ++ pieces_text rest
filling_spelled [] rest = refl
filling_spelled (a ∷ args) rest = simp (arg_spelled a, more_args_spelled args, append_assoc)

body_spelled : {body : SurfaceBody} → IsWritableBody body → (rest : List Piece) → pieces_text (body_pieces body rest) ≡ gap true ++ (body_text body ++ pieces_text rest)
body_spelled (IsWritableBody.plain {a = a} h) rest = term_spelled a true rest
body_spelled (IsWritableBody.intro {w = w} h) rest = refl
body_spelled (IsWritableBody.elimination {f = f} {a = a} {us = us} p q r) rest =
    simp (term_spelled f, more_spelled (more a us), append_assoc)
body_spelled (IsWritableBody.same {a = a} h) rest = simp (term_spelled a, append_assoc)
body_spelled (IsWritableBody.fill {c = c} {args = args} h hs) rest = simp (filling_spelled args, append_assoc)

kind_spelled : {kind : SurfaceKind} → IsWritableKind kind → (sp : Bool) (x : List ℕ) (rest : List Piece) → pieces_text (kind_pieces sp x kind rest) ≡ gap sp ++ (kind_text x kind ++ pieces_text rest)
kind_spelled (IsWritableKind.flag {a = a} h) sp x rest = simp (term_spelled a, append_assoc)
kind_spelled (IsWritableKind.primitive {n = n} h) sp x rest = simp (term_spelled n, append_assoc)
kind_spelled (IsWritableKind.line {body = body} {n = n} h hs) sp x rest = simp (body_spelled h, term_spelled n, append_assoc)

bars_spelled : (b : ℕ) (sp : Bool) (rest : Bool → List Piece) (text : List ℕ) → ((t : Bool) → pieces_text (rest t) ≡ gap t ++ text) → pieces_text (bars_pieces sp b rest) ≡ gap sp ++ (bars_text b ++ text)
bars_spelled zero sp rest text h = h sp
bars_spelled (suc b) sp rest text h = ap (λ v. gap sp ++ (124 ∷ v)) (bars_spelled b true rest text h)

item_spelled : {i : SurfaceItem} → IsWritableItem i → (rest : List Piece) → pieces_text (item_pieces i rest) ≡ item_text i ++ pieces_text rest
item_spelled {i} w rest =
    bars_spelled i.bars false (λ sp. kind_pieces sp i.name i.kind (line_feed rest)) (kind_text i.name i.kind ++ (10 ∷ pieces_text rest)) (λ sp. kind_spelled w.kind sp i.name (line_feed rest)) ∙ simp append_assoc

pub items_spelled : {is : List SurfaceItem} → AreWritableItems is → pieces_text (items_pieces is) ≡ items_text is
items_spelled AreWritableItems.no_item = refl
items_spelled (AreWritableItems.item {i = i} {is = is} w ws) = item_spelled w (items_pieces is) ∙ ap (λ v. item_text i ++ v) (items_spelled ws)

-- Each is the longest that fits.
word : {a : Bool} {x : List ℕ} (sp : Bool) (rest : List Piece) → IsName x → is_apart (pieces_text rest) ≡ true → Lexes true rest → Lexes a (piece sp k.Name x ∷ rest)
word {a} sp rest n h l = Lexes.one (name_stands (a && not sp) (pieces_text rest) n h) refl (λ e. n.short) l

hole : (t : Bool) (w : List ℕ) → is_apart w ≡ true → Front t (95 ∷ w) k.Hole w
hole t w h = Front.hole (ascii_begins 95 w (omega arith)) (ends_apart w h)

arg_lexes : {a : SurfaceArg} → IsWritableArg a → (b sp : Bool) (rest : List Piece) → (b && not sp) ≡ false → Goes rest → Lexes b (arg_pieces sp a rest)
arg_lexes IsWritableArg.hole b sp rest n g = mark (hole (b && not sp) (pieces_text rest) g.apart) refl refl (g.lexes false)
arg_lexes (IsWritableArg.given h) b sp rest n g = term_lexes h b sp rest n g

more_args_go : {args : List SurfaceArg} → AreWritableArgs args → (rest : List Piece) → Goes rest → Goes (more_args_pieces args rest)
more_args_go AreWritableArgs.no_arg rest g = g
more_args_go (AreWritableArgs.arg {args = args} h hs) rest g =
    record { apart = refl; lexes = λ b. mark (Front.sign refl) refl refl (arg_lexes h false true (more_args_pieces args rest) refl (more_args_go hs rest g)) }

filling_apart : (args : List SurfaceArg) (rest : List Piece) → is_apart (pieces_text rest) ≡ true → is_apart (pieces_text (filling_pieces args rest)) ≡ true
filling_apart [] rest h = h
filling_apart (a ∷ args) rest h = refl

filling_lexes : {args : List SurfaceArg} → AreWritableArgs args → (rest : List Piece) → Goes rest → Lexes true (filling_pieces args rest)
filling_lexes AreWritableArgs.no_arg rest g = g.lexes true
filling_lexes (AreWritableArgs.arg {args = args} h hs) rest g =
    mark (Front.sign refl) refl refl (arg_lexes h false false (more_args_pieces args (piece false k.RParen (codes ")") ∷ rest)) refl (more_args_go hs (piece false k.RParen (codes ")") ∷ rest) (closes g)))

more_go : {n : ℕ} {us : Surfaces} → AreWritable n us → (rest : List Piece) → Goes rest → Goes (more_pieces us rest)
more_go {n} {us} h rest g = record { apart = more_apart us rest g.apart; lexes = more_lexes h rest g }

body_lexes : {body : SurfaceBody} → IsWritableBody body → (rest : List Piece) → Goes rest → Lexes false (body_pieces body rest)
body_lexes (IsWritableBody.plain h) rest g = term_lexes h false true rest refl g
body_lexes (IsWritableBody.intro {w = w} h) rest g =
    mark (by_stands false _ refl) refl refl (word true (piece true k.Name w ∷ rest) intro_name refl (word true rest h g.apart (g.lexes true)))
body_lexes (IsWritableBody.elimination {f = f} {a = a} {us = us} p q r) rest g =
    let behind = more_pieces (more a us) rest in
    mark (by_stands false _ refl) refl refl (word true (term_pieces true f behind) elim_name (blank_apart f behind) (term_lexes p true true behind refl (more_go (AreWritable.term q r) rest g)))
body_lexes (IsWritableBody.same {a = a} h) rest g =
    mark (by_stands false _ refl) refl refl (word true (term_pieces true a rest) same_name (blank_apart a rest) (term_lexes h true true rest refl g))
body_lexes (IsWritableBody.fill {c = c} {args = args} h hs) rest g =
    mark (by_stands false _ refl) refl refl (word true (piece true k.Name c ∷ filling_pieces args rest) use_name refl
    (word true (filling_pieces args rest) h (filling_apart args rest g.apart) (filling_lexes hs rest g)))

colon : (a : Surface) (b : Bool) (rest : List Piece) → Lexes false (term_pieces true a rest) → Lexes b (piece true k.Colon (codes ":") ∷ term_pieces true a rest)
colon a b rest l = mark (Front.colon refl (blank_no_equals a rest)) refl refl l

kind_lexes : {kind : SurfaceKind} → IsWritableKind kind → {x : List ℕ} → IsName x → (a sp : Bool) (rest : List Piece) → Goes rest → Lexes a (kind_pieces sp x kind rest)
kind_lexes (IsWritableKind.flag {a = t} h) n a sp rest g =
    let close = piece false k.RBracket (codes "]") ∷ rest in
    mark (Front.sign refl) refl refl (word false (piece true k.Colon (codes ":") ∷ term_pieces true t close) n refl
    (colon t true close (term_lexes h false true close refl (record { apart = refl; lexes = λ b. mark (Front.sign refl) refl refl (g.lexes false) }))))
kind_lexes (IsWritableKind.primitive {n = t} h) n a sp rest g =
    word sp (piece true k.Assign (codes ":=") ∷ piece true k.Prim (codes "prim") ∷ piece true k.Colon (codes ":") ∷ term_pieces true t rest) n refl
    (mark (Front.assign refl refl) refl refl (mark (prim_stands false _ refl) refl refl (colon t false rest (term_lexes h false true rest refl g))))
kind_lexes (IsWritableKind.line {body = body} {n = t} h hs) n a sp rest g =
    let of = piece true k.Colon (codes ":") ∷ term_pieces true t rest in
    word sp (piece true k.Assign (codes ":=") ∷ body_pieces body of) n refl
    (mark (Front.assign refl refl) refl refl (body_lexes h of (record { apart = refl; lexes = λ b. colon t b rest (term_lexes hs false true rest refl g) })))

bars_lexes : (b : ℕ) (a sp : Bool) (rest : Bool → List Piece) → ((c t : Bool) → Lexes c (rest t)) → Lexes a (bars_pieces sp b rest)
bars_lexes zero a sp rest h = h a sp
bars_lexes (suc b) a sp rest h = mark (Front.sign refl) refl refl (bars_lexes b false true rest h)

pub line_feed_goes : {rest : List Piece} → Lexes false rest → Goes (line_feed rest)
line_feed_goes l = record { apart = refl; lexes = λ b. mark (Front.sign refl) refl refl l }

pub items_lex : {is : List SurfaceItem} → AreWritableItems is → (a : Bool) → Lexes a (items_pieces is)
items_lex AreWritableItems.no_item a = Lexes.nothing
items_lex (AreWritableItems.item {i = i} {is = is} w ws) a =
    let behind = line_feed (items_pieces is) in
    bars_lexes i.bars a false (λ sp. kind_pieces sp i.name i.kind behind) (λ c t. kind_lexes w.kind w.name c t behind (line_feed_goes (items_lex ws false)))
