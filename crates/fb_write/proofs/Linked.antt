-- The tokens of two texts with a line feed between them.
use Rattle.std.proofs.Common.{◌≡◌, ℕ, ◌+◌, ◌-◌, ◌≤◌, ◌==◌, Bool, true, false, not, ◌&&◌, ◌||◌, if◌then◌else◌, List, [], ◌∷◌, ◌++◌, length, take, drop, Option, Some, None, Ok, refl, ap, ◌∙◌, sym, subst, arith, append_assoc, length-append, length-drop}
use Rattle.std.specs.Prelude.{codes}
use Rattle.std.specs.Str.{byte, IsUtf8}
use Rattle.std.proofs.lemmas.Bool.{false≢true}
use Rattle.std.proofs.lemmas.Bool.Decides.{nat_tests}
use Rattle.std.proofs.lemmas.List.{take-append-le, drop-append-le}
use Rattle.std.proofs.lemmas.List.Sums.{prefix_len-le-length}
use Rattle.std.specs.Str.{bytes_eq}
use Rattle.fb_lex.specs.declared.tokens.Kind.{Kind}
use Rattle.fb_lex.specs.declared.tokens.Kind.TheVariants as k
use Rattle.fb_lex.specs.declared.tokens.Token.{Token}
use Rattle.fb_lex.specs.Tokens.{begins_with_byte, begins_blank, begins_gap, line_length, Skips, sign_of, word_kind, Front, IsNext, behind, between, end_of, after_name, touches, is_end}
use Rattle.fb_lex.specs.TokenList.{Lexeme, sign, name, lexeme, Ending, Whole, Tokens, TokensBehind}
use Rattle.fb_lex.proofs.NextPlaced.{next_placed}
use Rattle.fb_write.specs.Joined.{go_on, line_feed_at, TextsJoin}
use Rattle.fb_write.proofs.Ahead.{front_before, no_gap}

-- Gaps.
blank_first : (x y : Bool) (b : ℕ) (text more : List ℕ) → ((x || y) || (b == 13 && begins_with_byte (byte "\n") text)) ≡ true → ((x || y) || (b == 13 && begins_with_byte (byte "\n") (text ++ more))) ≡ true
blank_first true y b text more h = refl
blank_first false true b text more h = refl
blank_first false false b [] more h = absurd (false≢true (never (b == 13) ∙ h))
  where
    never : (x : Bool) → false ≡ (x && false)
    never true = refl
    never false = refl
blank_first false false b (c ∷ text) more h = h

blank_more : (b : ℕ) (text more : List ℕ) → begins_blank b text ≡ true → begins_blank b (text ++ more) ≡ true
blank_more b text more h = blank_first (b == 32) (b == 9) b text more h

line_more : (text more : List ℕ) → line_length (text ++ (10 ∷ more)) ≡ line_length text
line_more [] more = refl
line_more (b ∷ text) more = by (b == 10) (line_more text more)
  where
    by : (c : Bool) → line_length (text ++ (10 ∷ more)) ≡ line_length text → (if not c then 1 + line_length (text ++ (10 ∷ more)) else 0) ≡ (if not c then 1 + line_length text else 0)
    by true h = refl
    by false h = ap (λ v. 1 + v) h

within_line : (text : List ℕ) → line_length text ≤ length text
within_line text = prefix_len-le-length (λ b. not (b == byte "\n")) text

take_line : (text more : List ℕ) → take (line_length (text ++ (10 ∷ more))) (text ++ (10 ∷ more)) ≡ take (line_length text) text
take_line text more = ap (λ v. take v (text ++ (10 ∷ more))) (line_more text more) ∙ take-append-le (line_length text) text (10 ∷ more) (within_line text)

drop_line : (text more : List ℕ) → drop (line_length (text ++ (10 ∷ more))) (text ++ (10 ∷ more)) ≡ drop (line_length text) text ++ (10 ∷ more)
drop_line text more = ap (λ v. drop v (text ++ (10 ∷ more))) (line_more text more) ∙ drop-append-le (line_length text) text (10 ∷ more) (within_line text)

skips_more : {text front : List ℕ} (more : List ℕ) → Skips text (Ok front) → begins_gap (front ++ (10 ∷ more)) ≡ false → Skips (text ++ (10 ∷ more)) (Ok (front ++ (10 ∷ more)))
skips_more more (Skips.stop h) g = Skips.stop g
skips_more more (Skips.blank {b = b} {text = text} h s) g = Skips.blank (blank_more b text (10 ∷ more) h) (skips_more more s g)
skips_more {front = front} more (Skips.comment {text = text} e u s) g =
    Skips.comment e (subst IsUtf8 (sym (take_line text more)) u) (subst (λ v. Skips v (Ok (front ++ (10 ∷ more)))) (sym (drop_line text more)) (skips_more more s g))

behind_more : (text more : List ℕ) (prev : Option Token) → end_of prev ≤ length text → behind (text ++ more) prev ≡ behind text prev ++ more
behind_more text more None h = refl
behind_more text more (Some t) h = drop-append-le t.span.end text more h

same_test : (m n l : ℕ) → (m + l == n + l) ≡ (m == n)
same_test m n l = grind (arith, nat_tests)

touches_more : (text more : List ℕ) (prev : Option Token) (front : List ℕ) → end_of prev ≤ length text → touches (text ++ more) prev (front ++ more) ≡ touches text prev front
touches_more text more prev front h =
    let l = length more in
    let m : length (front ++ more) ≡ length front + l = length-append front more in
    let n : length (behind (text ++ more) prev) ≡ length (behind text prev) + l = ap length (behind_more text more prev h) ∙ length-append (behind text prev) more in
    ap (λ v. after_name prev && v == length (behind (text ++ more) prev)) m ∙ ap (λ v. after_name prev && length front + l == v) n
    ∙ ap (λ v. after_name prev && v) (same_test (length front) (length (behind text prev)) l)

-- A token that isn't the end is the next one still.
next_more : (text more : List ℕ) (prev : Option Token) (t : Token) → end_of prev ≤ length text → is_end t.kind ≡ false → IsNext text prev t → IsNext (text ++ (10 ∷ more)) prev t
next_more text more prev t h e n =
    let w : List ℕ = 10 ∷ more in
    let stands : Front (touches text prev n.front) (n.front ++ w) t.kind (n.rest ++ w) = front_before w n.stands e refl in
    let start = n.start in
    let end = n.end in
    let short = n.short in
    let a = length-append text w in
    let b = length-append n.front w in
    let c = length-append n.rest w in
    record {
      front = n.front ++ w;
      rest = n.rest ++ w;
      skips = subst (λ v. Skips v (Ok (n.front ++ w))) (sym (behind_more text w prev h)) (skips_more more n.skips (no_gap stands e));
      stands = subst (λ v. Front v (n.front ++ w) t.kind (n.rest ++ w)) (sym (touches_more text w prev n.front h)) stands;
      start = omega (arith, start, a, b);
      end = omega (arith, end, a, c);
      short = λ q. let s = short q in omega (arith, s, b, c);
    }

-- Where the end was, the line feed is.
abbrev tells_end : Option Kind → Bool
tells_end None = false
tells_end (Some kind) = is_end kind

either : (c : Bool) (x y : Option Kind) → tells_end x ≡ false → tells_end y ≡ false → tells_end (if c then x else y) ≡ false
either true x y p q = p
either false x y p q = q

sign_no_end : (t : Bool) (b : ℕ) → tells_end (sign_of t b) ≡ false
sign_no_end t b =
    either (b == byte "|") _ _ refl (either (b == byte "[") _ _ refl (either (b == byte "]") _ _ refl (either (b == byte "(") _ _ (paren t) (either (b == byte ")") _ _ refl
    (either (b == byte ",") _ _ refl (either (b == byte ".") _ _ refl (either (b == byte "*") _ _ refl (either (b == byte "\n") _ _ refl refl))))))))
  where
    paren : (u : Bool) → tells_end (Some (if u then k.Touching else k.LParen)) ≡ false
    paren true = refl
    paren false = refl

either_kind : (c : Bool) (x y : Kind) → is_end x ≡ false → is_end y ≡ false → is_end (if c then x else y) ≡ false
either_kind true x y p q = p
either_kind false x y p q = q

word_no_end : (word : List ℕ) → is_end (word_kind word) ≡ false
word_no_end word =
    either_kind (bytes_eq word (codes "box")) _ _ refl (either_kind (bytes_eq word (codes "fun")) _ _ refl (either_kind (bytes_eq word (codes "all")) _ _ refl
    (either_kind (bytes_eq word (codes "prim")) _ _ refl (either_kind (bytes_eq word (codes "by")) _ _ refl refl))))

end_is_empty : {t : Bool} {text rest : List ℕ} {kind : Kind} → Front t text kind rest → is_end kind ≡ true → text ≡ []
end_is_empty Front.end h = refl
end_is_empty {t} (Front.sign {b = b} s) h = absurd (false≢true (sym (sign_no_end t b) ∙ ap tells_end s ∙ h))
end_is_empty (Front.assign b c) h = absurd (false≢true h)
end_is_empty (Front.colon b n) h = absurd (false≢true h)
end_is_empty (Front.arrow b c) h = absurd (false≢true h)
end_is_empty (Front.hole p e) h = absurd (false≢true h)
end_is_empty (Front.word {text = text} {rest = rest} p x w) h = absurd (false≢true (sym (word_no_end (take (length text - length rest) text)) ∙ h))
end_is_empty (Front.low_word {text = text} {rest = rest} p w l) h = absurd (false≢true (sym (word_no_end (take (length text - length rest) text)) ∙ h))

line_feed_next : (text more : List ℕ) (prev : Option Token) (t : Token) → end_of prev ≤ length text → is_end t.kind ≡ true → IsNext text prev t → IsNext (text ++ (10 ∷ more)) prev (line_feed_at (length text))
line_feed_next text more prev t h e n =
    let empty = end_is_empty n.stands e in
    let skips : Skips (behind text prev) (Ok []) = subst (λ v. Skips (behind text prev) (Ok v)) empty n.skips in
    let a = length-append text (10 ∷ more) in
    record {
      front = 10 ∷ more;
      rest = more;
      skips = subst (λ v. Skips v (Ok (10 ∷ more))) (sym (behind_more text (10 ∷ more) prev h)) (skips_more more skips refl);
      stands = Front.sign refl;
      start = omega (arith, a);
      end = omega (arith, a);
      short = λ q. cc;
    }

-- The list.
between_more : (text more : List ℕ) (s e : ℕ) → s ≤ e → e ≤ length text → between (text ++ more) s e ≡ between text s e
between_more text more s e p q =
    ap (take (e - s)) (drop-append-le s text more (omega (arith, p, q))) ∙ take-append-le (e - s) (drop s text) more (omega (arith, p, q, length-drop s text))

lexeme_more : (text more : List ℕ) (kind : Kind) (s e : ℕ) → between (text ++ more) s e ≡ between text s e → lexeme (text ++ more) kind s e ≡ lexeme text kind s e
lexeme_more text more k.Name s e h = ap (λ v. name v s e) h
lexeme_more text more _ s e h = refl

at_end : (more : List Lexeme) (text : List ℕ) (kind : Kind) (s e : ℕ) (ts : List Lexeme) → is_end kind ≡ true → go_on more (lexeme text kind s e ∷ ts) ≡ more
at_end more text k.End s e ts h = refl
at_end more text _ s e ts h = absurd (false≢true h)

before_end : (more : List Lexeme) (text : List ℕ) (kind : Kind) (s e : ℕ) (ts : List Lexeme) → is_end kind ≡ false → go_on more (lexeme text kind s e ∷ ts) ≡ lexeme text kind s e ∷ go_on more ts
before_end more text k.End s e ts h = absurd (false≢true (sym h))
before_end more text _ s e ts h = refl

tokens_more : {text : List ℕ} {prev : Option Token} {ts : List Lexeme} {w : Ending} (more : List ℕ) (us : List Lexeme) (e : Ending) → end_of prev ≤ length text → TokensBehind text prev ts w → w ≡ Whole →
    TokensBehind (text ++ (10 ∷ more)) (Some (line_feed_at (length text))) us e →
    TokensBehind (text ++ (10 ∷ more)) prev (go_on (sign k.Newline (length text) (length text + 1) ∷ us) ts) e
tokens_more {text} {prev} more us e l (TokensBehind.last {t = t} n h) q r =
    subst (λ v. TokensBehind (text ++ (10 ∷ more)) prev v e) (sym (at_end (sign k.Newline (length text) (length text + 1) ∷ us) text t.kind t.span.start t.span.end [] h))
    (TokensBehind.more (line_feed_next text more prev t l h n) refl r)
tokens_more {text} {prev} more us e l (TokensBehind.more {t = t} {ts = ts} n h m) q r =
    let all = text ++ (10 ∷ more) in
    let new = sign k.Newline (length text) (length text + 1) ∷ us in
    let p = next_placed text prev t l n in
    let same = lexeme_more text (10 ∷ more) t.kind t.span.start t.span.end (between_more text (10 ∷ more) t.span.start t.span.end p.ordered p.within) in
    subst (λ v. TokensBehind all prev v e) (ap (λ v. v ∷ go_on new ts) same ∙ sym (before_end new text t.kind t.span.start t.span.end ts h))
    (TokensBehind.more (next_more text more prev t l h n) h (tokens_more more us e p.within m q r))
tokens_more more us e l (TokensBehind.fault f) q r = cc

pub texts_join : TextsJoin
texts_join text behind ts us e p q =
    let same : (text ++ (10 ∷ [])) ++ behind ≡ text ++ (10 ∷ behind) = append_assoc text (10 ∷ []) behind in
    subst (λ v. Tokens v (go_on (sign k.Newline (length text) (length text + 1) ∷ us) ts) e) (sym same)
    (tokens_more {prev = None} behind us e (omega arith) p refl (subst (λ v. TokensBehind v (Some (line_feed_at (length text))) us e) same q))
