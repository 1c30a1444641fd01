-- Tokens with the blanks before them: their text, where they stand in it, and that they are the tokens of it.
use Rattle.std.proofs.Common.{◌≡◌, ℕ, ◌+◌, ◌-◌, ◌≤◌, ◌==◌, Bool, true, false, not, ◌&&◌, List, [], ◌∷◌, ◌++◌, length, take, drop, Option, Some, Ok, refl, ap, ◌∙◌, sym, subst, arith, append_assoc, length-append}
use Rattle.std.proofs.lemmas.Bool.Decides.{nat_tests}
use Rattle.std.proofs.lemmas.List.{drop_at, take_at}
use Rattle.fb_lex.specs.declared.tokens.Kind.{Kind}
use Rattle.fb_lex.specs.declared.tokens.Kind.TheVariants.{Name, End}
use Rattle.fb_lex.specs.declared.tokens.Token.{Token}
use Rattle.fb_lex.specs.Tokens.{begins_gap, Skips, Front, IsNext, behind, between, after_name, touches, is_name, is_end}
use Rattle.fb_lex.specs.TokenList.{Lexeme, sign, name, lexeme, TokensBehind, Whole}
use Rattle.fb_write.proofs.Ahead.{no_gap}

-- a token with its bytes, behind a blank or not
pub data Piece : Type 0 where
  piece : (spaced : Bool) → Kind → (bytes : List ℕ) → Piece

abbrev pub gap : Bool → List ℕ
gap true = 32 ∷ []
gap false = []

abbrev pub pieces_text : List Piece → List ℕ
pieces_text [] = []
pieces_text (piece sp k x ∷ ps) = gap sp ++ (x ++ pieces_text ps)

abbrev pub spelled : Kind → List ℕ → (start end : ℕ) → Lexeme
spelled Name x s e = name x s e
spelled k x s e = sign k s e

-- the tokens from a place on, with the end
abbrev pub placed : ℕ → List Piece → List Lexeme
placed q [] = sign End q q ∷ []
placed q (piece sp k x ∷ ps) = spelled k x (q + length (gap sp)) (q + length (gap sp) + length x) ∷ placed (q + length (gap sp) + length x) ps

-- Each token is the longest that fits, behind a name or not.
pub data Lexes : Bool → List Piece → Type 0 where
  nothing : {a : Bool} → Lexes a []
  one : {a sp : Bool} {k : Kind} {x : List ℕ} {ps : List Piece} → Front (a && not sp) (x ++ pieces_text ps) k (pieces_text ps) → is_end k ≡ false → (k ≡ Name → length x ≤ 255) →
      Lexes (is_name k) ps → Lexes a (piece sp k x ∷ ps)

skips_gap : (sp : Bool) (front : List ℕ) → begins_gap front ≡ false → Skips (gap sp ++ front) (Ok front)
skips_gap true front h = Skips.blank refl (Skips.stop h)
skips_gap false front h = Skips.stop h

same_number : (n : ℕ) → (n == n) ≡ true
same_number n = grind (arith, nat_tests)

one_more : (n m : ℕ) → m ≡ n + 1 → (n == m) ≡ false
one_more n m h = grind (arith, nat_tests)

length_touches : (sp : Bool) (front : List ℕ) → (length front == length (gap sp ++ front)) ≡ not sp
length_touches true front = one_more (length front) (length (gap true ++ front)) (omega arith)
length_touches false front = same_number (length front)

touches_is : (text : List ℕ) (prev : Option Token) (a sp : Bool) (front : List ℕ) → behind text prev ≡ gap sp ++ front → after_name prev ≡ a → touches text prev front ≡ (a && not sp)
touches_is text prev a sp front e h = ap (λ v. v && length front == length (behind text prev)) h ∙ ap (λ v. a && length front == length v) e ∙ ap (λ v. a && v) (length_touches sp front)

spelled_is : (text : List ℕ) (k : Kind) (x : List ℕ) (s e : ℕ) → between text s e ≡ x → lexeme text k s e ≡ spelled k x s e
spelled_is text Name x s e h = ap (λ v. name v s e) h
spelled_is text _ x s e h = refl

abbrev token : Kind → (start end : ℕ) → Token
token k s e = record { kind = k; span = record { start = s; end = e } }

no_end : (text pre : List ℕ) (q : ℕ) (prev : Option Token) → text ≡ pre ++ [] → length pre ≡ q → behind text prev ≡ [] → IsNext text prev (token End q q)
no_end text pre q prev e l b = record {
  front = [];
  rest = [];
  skips = rw b (Skips.stop refl);
  stands = Front.end;
  start = omega (arith, ap length e, l, length-append pre []);
  end = omega (arith, ap length e, l, length-append pre []);
  short = λ h. cc;
}

next_piece : (text pre : List ℕ) (q : ℕ) (prev : Option Token) (a sp : Bool) (k : Kind) (x rest : List ℕ) → text ≡ pre ++ (gap sp ++ (x ++ rest)) → length pre ≡ q →
    behind text prev ≡ gap sp ++ (x ++ rest) → after_name prev ≡ a → Front (a && not sp) (x ++ rest) k rest → is_end k ≡ false → (k ≡ Name → length x ≤ 255) →
    IsNext text prev (token k (q + length (gap sp)) (q + length (gap sp) + length x))
next_piece text pre q prev a sp k x rest e l b h f n s =
    let len : length text ≡ q + (length (gap sp) + (length x + length rest)) =
    omega (arith, ap length e, l, length-append pre (gap sp ++ (x ++ rest)), length-append (gap sp) (x ++ rest), length-append x rest) in
    let len_front = length-append x rest in
    record {
      front = x ++ rest;
      rest = rest;
      skips = rw b (skips_gap sp (x ++ rest) (no_gap f n));
      stands = rw (touches_is text prev a sp (x ++ rest) b h) f;
      start = omega (arith, len, len_front);
      end = omega (arith, len, len_front);
      short = λ w. let y = s w in omega (arith, y, len_front);
    }

pub lexed : {a : Bool} {ps : List Piece} → Lexes a ps → (text pre : List ℕ) (q : ℕ) (prev : Option Token) → text ≡ pre ++ pieces_text ps → length pre ≡ q → behind text prev ≡ pieces_text ps →
    after_name prev ≡ a → TokensBehind text prev (placed q ps) Whole
lexed Lexes.nothing text pre q prev e l b h = TokensBehind.last (no_end text pre q prev e l b) refl
lexed {a} (Lexes.one {sp = sp} {k = k} {x = x} {ps = ps} f n s m) text pre q prev e l b h =
    let rest = pieces_text ps in
    let start = q + length (gap sp) in
    let end = q + length (gap sp) + length x in
    let up = pre ++ gap sp in
    let split : text ≡ up ++ (x ++ rest) = e ∙ sym (append_assoc pre (gap sp) (x ++ rest)) in
    let all : text ≡ (up ++ x) ++ rest = split ∙ sym (append_assoc up x rest) in
    let len_up : length up ≡ start = omega (arith, l, length-append pre (gap sp)) in
    let len_all : length (up ++ x) ≡ end = omega (arith, len_up, length-append up x) in
    let behind_it : drop end text ≡ rest = ap (drop end) all ∙ drop_at (up ++ x) rest end len_all in
    let bytes : between text start end ≡ x = ap (take (end - start)) (ap (drop start) split ∙ drop_at up (x ++ rest) start len_up) ∙ take_at x rest (end - start) (omega arith) in
    subst (λ v. TokensBehind text prev (v ∷ placed end ps) Whole) (spelled_is text k x start end bytes)
    (TokensBehind.more (next_piece text pre q prev a sp k x rest e l b h f n s) n (lexed m text (up ++ x) end (Some (token k start end)) all len_all behind_it refl))
