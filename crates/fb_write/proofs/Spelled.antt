-- The pieces of terms, in their order before a rest: their text is the canonical one, and each is the longest that fits.
use Rattle.std.proofs.Common.{◌≡◌, ℕ, Bool, true, false, not, ◌&&◌, List, ◌∷◌, ◌++◌, refl, ap, ◌∙◌, sym, append_assoc}
use Rattle.std.specs.Prelude.{codes}
use Rattle.std.proofs.lemmas.Bool.{false≢true}
use Rattle.fb_lex.specs.declared.tokens.Kind.{Kind}
use Rattle.fb_lex.specs.declared.tokens.Kind.TheVariants as k
use Rattle.fb_lex.specs.Tokens.{begins_with_byte, Front, is_name, is_end}
use Rattle.fb_parse.specs.Grammar.{Surface, Surfaces, Star, Box_, Name, Inst, Apply, Fun, All, Arrow, none, more}
use Rattle.fb_write.specs.Canonical.{is_open_ended, is_compound, in_parentheses, term_text, terms_text, more_terms_text, arguments_text}
use Rattle.fb_write.specs.Writable.{IsWritable, AreWritable, AreArguments}
use Rattle.fb_write.proofs.Ahead.{is_apart}
use Rattle.fb_write.proofs.Pieces.{Piece, piece, gap, pieces_text, Lexes}
use Rattle.fb_write.proofs.Words.{box_stands, fun_stands, all_stands, name_stands}

-- what stands in parentheses, or doesn't: before it, its own blank, and behind it
abbrev pub opened : Bool → (spaced : Bool) → List Piece → List Piece
opened true sp ps = piece sp k.LParen (codes "(") ∷ ps
opened false sp ps = ps

abbrev pub inner : Bool → (spaced : Bool) → Bool
inner true sp = false
inner false sp = sp

abbrev pub closed : Bool → List Piece → List Piece
closed true ps = piece false k.RParen (codes ")") ∷ ps
closed false ps = ps

abbrev mutual
  pub term_pieces : (spaced : Bool) → Surface → List Piece → List Piece
  term_pieces sp (Star s) rest = piece sp k.Star (codes "*") ∷ rest
  term_pieces sp (Box_ s) rest = piece sp k.Box_ (codes "box") ∷ rest
  term_pieces sp (Name s x) rest = piece sp k.Name x ∷ rest
  term_pieces sp (Inst s x us) rest = piece sp k.Name x ∷ piece false k.Touching (codes "(") ∷ terms_pieces false us (piece false k.RParen (codes ")") ∷ rest)
  term_pieces sp (Apply s f us) rest = opened (is_compound f) sp (term_pieces (inner (is_compound f) sp) f (closed (is_compound f) (args_pieces us rest)))
  term_pieces sp (Fun s x a m) rest =
      piece sp k.Fun (codes "fun") ∷ piece true k.Name x ∷ piece true k.Colon (codes ":") ∷ term_pieces true a (piece true k.Dot (codes ".") ∷ term_pieces true m rest)
  term_pieces sp (All s x a b) rest =
      piece sp k.All (codes "all") ∷ piece true k.Name x ∷ piece true k.Colon (codes ":") ∷ term_pieces true a (piece true k.Dot (codes ".") ∷ term_pieces true b rest)
  term_pieces sp (Arrow s a b) rest =
      opened (is_open_ended a) sp (term_pieces (inner (is_open_ended a) sp) a (closed (is_open_ended a) (piece true k.Arrow (codes "->") ∷ term_pieces true b rest)))

  pub terms_pieces : (spaced : Bool) → Surfaces → List Piece → List Piece
  terms_pieces sp none rest = rest
  terms_pieces sp (more a us) rest = term_pieces sp a (more_pieces us rest)

  pub more_pieces : Surfaces → List Piece → List Piece
  more_pieces none rest = rest
  more_pieces (more a us) rest = piece false k.Comma (codes ",") ∷ term_pieces true a (more_pieces us rest)

  pub args_pieces : Surfaces → List Piece → List Piece
  args_pieces none rest = rest
  args_pieces (more a us) rest = opened (is_compound a) true (term_pieces (inner (is_compound a) true) a (closed (is_compound a) (args_pieces us rest)))

-- Their text.
abbrev pub IsSpelled : Surface → Type 0
IsSpelled a = (sp : Bool) (rest : List Piece) → pieces_text (term_pieces sp a rest) ≡ gap sp ++ (term_text a ++ pieces_text rest)

opened_text : (c sp : Bool) (a : Surface) (rest : List Piece) → IsSpelled a →
    pieces_text (opened c sp (term_pieces (inner c sp) a (closed c rest))) ≡ gap sp ++ (in_parentheses c (term_text a) ++ pieces_text rest)
opened_text true sp a rest h = rw (h false (closed true rest)) (simp append_assoc)
opened_text false sp a rest h = h sp rest

mutual
  pub term_spelled : (a : Surface) (sp : Bool) (rest : List Piece) → pieces_text (term_pieces sp a rest) ≡ gap sp ++ (term_text a ++ pieces_text rest)
  term_spelled (Star s) sp rest = refl
  term_spelled (Box_ s) sp rest = refl
  term_spelled (Name s x) sp rest = refl
  term_spelled (Inst s x us) sp rest = simp (terms_spelled us, append_assoc)
  term_spelled (Apply s f us) sp rest =
      opened_text (is_compound f) sp f (args_pieces us rest) (term_spelled f) ∙ ap (λ v. gap sp ++ (in_parentheses (is_compound f) (term_text f) ++ v)) (args_spelled us rest) ∙ simp append_assoc
  term_spelled (Fun s x a m) sp rest = simp (term_spelled a, term_spelled m, append_assoc)
  term_spelled (All s x a b) sp rest = simp (term_spelled a, term_spelled b, append_assoc)
  term_spelled (Arrow s a b) sp rest =
      opened_text (is_open_ended a) sp a (piece true k.Arrow (codes "->") ∷ term_pieces true b rest) (term_spelled a)
      ∙ ap (λ v. gap sp ++ (in_parentheses (is_open_ended a) (term_text a) ++ (32 ∷ 45 ∷ 62 ∷ v))) (term_spelled b true rest) ∙ simp append_assoc

  pub terms_spelled : (us : Surfaces) (rest : List Piece) → pieces_text (terms_pieces false us rest) ≡ terms_text us ++ pieces_text rest
  terms_spelled none rest = refl
  terms_spelled (more a us) rest = term_spelled a false (more_pieces us rest) ∙ ap (λ v. term_text a ++ v) (more_spelled us rest) ∙ simp append_assoc

  pub more_spelled : (us : Surfaces) (rest : List Piece) → pieces_text (more_pieces us rest) ≡ more_terms_text us ++ pieces_text rest
  more_spelled none rest = refl
  more_spelled (more a us) rest =
      ap (λ v. 44 ∷ v) (term_spelled a true (more_pieces us rest)) ∙ ap (λ v. 44 ∷ 32 ∷ (term_text a ++ v)) (more_spelled us rest) ∙ simp append_assoc

  pub args_spelled : (us : Surfaces) (rest : List Piece) → pieces_text (args_pieces us rest) ≡ arguments_text us ++ pieces_text rest
  args_spelled none rest = refl
  args_spelled (more a us) rest =
      opened_text (is_compound a) true a (args_pieces us rest) (term_spelled a) ∙ ap (λ v. 32 ∷ (in_parentheses (is_compound a) (term_text a) ++ v)) (args_spelled us rest) ∙ simp append_assoc

-- What begins with a blank stands apart.
pub blank_apart : (a : Surface) (rest : List Piece) → is_apart (pieces_text (term_pieces true a rest)) ≡ true
blank_apart a rest = rw (term_spelled a true rest) refl

pub blank_no_equals : (a : Surface) (rest : List Piece) → begins_with_byte 61 (pieces_text (term_pieces true a rest)) ≡ false
blank_no_equals a rest = rw (term_spelled a true rest) refl

pub more_apart : (us : Surfaces) (rest : List Piece) → is_apart (pieces_text rest) ≡ true → is_apart (pieces_text (more_pieces us rest)) ≡ true
more_apart none rest h = h
more_apart (more a us) rest h = refl

args_apart : (us : Surfaces) (rest : List Piece) → is_apart (pieces_text rest) ≡ true → is_apart (pieces_text (args_pieces us rest)) ≡ true
args_apart none rest h = h
args_apart (more a us) rest h = rw (args_spelled (more a us) rest) refl

-- Each is the longest that fits.
pub record Goes (rest : List Piece) : Type 0 where
  pub apart : is_apart (pieces_text rest) ≡ true
  pub lexes : (b : Bool) → Lexes b rest

-- the term before what goes on so
abbrev pub Fits : Surface → Type 0
Fits t = (a sp : Bool) (rest : List Piece) → (a && not sp) ≡ false → Goes rest → Lexes a (term_pieces sp t rest)

-- a sign or a reserved word
pub mark : {a sp : Bool} {kind : Kind} {x : List ℕ} {ps : List Piece} → Front (a && not sp) (x ++ pieces_text ps) kind (pieces_text ps) → is_end kind ≡ false → is_name kind ≡ false → Lexes (is_name kind) ps →
    Lexes a (piece sp kind x ∷ ps)
mark f n m l = Lexes.one f n (λ e. absurd (false≢true (sym m ∙ ap is_name e))) l

lparen : (t : Bool) (w : List ℕ) → t ≡ false → Front t (40 ∷ w) k.LParen w
lparen t w h = Front.sign (rw h refl)

pub closes : {rest : List Piece} → Goes rest → Goes (piece false k.RParen (codes ")") ∷ rest)
closes g = record { apart = refl; lexes = λ b. mark (Front.sign refl) refl refl (g.lexes false) }

opened_lexes : (c : Bool) (t : Surface) (a sp : Bool) (rest : List Piece) → Fits t → (a && not sp) ≡ false → Goes rest → Lexes a (opened c sp (term_pieces (inner c sp) t (closed c rest)))
opened_lexes true t a sp rest h n g = mark (lparen (a && not sp) _ n) refl refl (h false false (closed true rest) refl (closes g))
opened_lexes false t a sp rest h n g = h a sp rest n g

never : (b : Bool) → (b && false) ≡ false
never true = refl
never false = refl

mutual
  pub term_lexes : {n : ℕ} {t : Surface} → IsWritable n t → (a sp : Bool) (rest : List Piece) → (a && not sp) ≡ false → Goes rest → Lexes a (term_pieces sp t rest)
  term_lexes (IsWritable.star l) a sp rest n g = mark (Front.sign refl) refl refl (g.lexes false)
  term_lexes (IsWritable.box l) a sp rest n g = mark (box_stands (a && not sp) (pieces_text rest) g.apart) refl refl (g.lexes false)
  term_lexes (IsWritable.named l x) a sp rest n g = Lexes.one (name_stands (a && not sp) (pieces_text rest) x g.apart) refl (λ e. x.short) (g.lexes true)
  term_lexes (IsWritable.instance {a = first} {us = us} l x h hs) a sp rest n g =
      let close = closes g in
      Lexes.one (name_stands (a && not sp) _ x refl) refl (λ e. x.short) (mark (Front.sign refl) refl refl
      (term_lexes h false false (more_pieces us (closed true rest)) refl (record { apart = more_apart us (closed true rest) refl; lexes = more_lexes hs (closed true rest) close })))
  term_lexes (IsWritable.apply {f = f} {a = first} {us = us} l h hs) a sp rest n g =
      opened_lexes (is_compound f) f a sp (args_pieces (more first us) rest) (term_lexes h) n (record { apart = args_apart (more first us) rest g.apart; lexes = args_lexes hs rest g })
  term_lexes (IsWritable.fun {a = d} {m = m} l x h hs) a sp rest n g =
      mark (fun_stands (a && not sp) _ refl) refl refl (Lexes.one (name_stands false _ x refl) refl (λ e. x.short)
      (mark (Front.colon refl (blank_no_equals d _)) refl refl (term_lexes h false true (piece true k.Dot (codes ".") ∷ term_pieces true m rest) refl
      (record { apart = refl; lexes = λ b. mark (Front.sign refl) refl refl (term_lexes hs false true rest refl g) }))))
  term_lexes (IsWritable.all {a = d} {b = m} l x h hs) a sp rest n g =
      mark (all_stands (a && not sp) _ refl) refl refl (Lexes.one (name_stands false _ x refl) refl (λ e. x.short)
      (mark (Front.colon refl (blank_no_equals d _)) refl refl (term_lexes h false true (piece true k.Dot (codes ".") ∷ term_pieces true m rest) refl
      (record { apart = refl; lexes = λ b. mark (Front.sign refl) refl refl (term_lexes hs false true rest refl g) }))))
  term_lexes (IsWritable.arrow {a = d} {b = m} l h hs) a sp rest n g =
      opened_lexes (is_open_ended d) d a sp (piece true k.Arrow (codes "->") ∷ term_pieces true m rest) (term_lexes h) n
      (record { apart = refl; lexes = λ b. mark (Front.arrow refl refl) refl refl (term_lexes hs false true rest refl g) })

  pub more_lexes : {n : ℕ} {us : Surfaces} → AreWritable n us → (rest : List Piece) → Goes rest → (b : Bool) → Lexes b (more_pieces us rest)
  more_lexes AreWritable.nothing rest g b = g.lexes b
  more_lexes (AreWritable.term {us = us} h hs) rest g b =
      mark (Front.sign refl) refl refl (term_lexes h false true (more_pieces us rest) refl (record { apart = more_apart us rest g.apart; lexes = more_lexes hs rest g }))

  args_lexes : {n : ℕ} {us : Surfaces} → AreArguments n us → (rest : List Piece) → Goes rest → (b : Bool) → Lexes b (args_pieces us rest)
  args_lexes AreArguments.no_argument rest g b = g.lexes b
  args_lexes (AreArguments.argument {a = a} {us = us} h hs) rest g b =
      opened_lexes (is_compound a) a b true (args_pieces us rest) (term_lexes h) (never b) (record { apart = args_apart us rest g.apart; lexes = args_lexes hs rest g })
