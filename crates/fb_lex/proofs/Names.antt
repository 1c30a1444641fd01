-- A name of a text is one token for itself: its bytes alone are a name, whatever stands before and behind it.
use Rattle.std.proofs.Common.{◌≡◌, ℕ, ◌+◌, ◌-◌, ◌≤◌, Bool, true, false, List, [], ◌∷◌, ◌++◌, length, take, drop, Option, None, Some, refl, ap, ◌∙◌, sym, subst, arith, append_assoc, length-append}
use Rattle.std.specs.List.{AllByRecursion}
use Rattle.std.specs.Char.{encode_utf8}
use Rattle.std.specs.Str.{encode_utf8_all}
use Rattle.std.proofs.lemmas.Bool.{false≢true}
use Rattle.std.proofs.lemmas.List.{append-nil, take_all, drop_at, take_at, length-take-le}
use Rattle.std.proofs.lemmas.Str.{length-encode, len_utf8_bounds}
use Rattle.fb_lex.specs.declared.tokens.Kind.{Kind}
use Rattle.fb_lex.specs.declared.tokens.Kind.TheVariants as k
use Rattle.fb_lex.specs.declared.tokens.Token.{Token}
use Rattle.fb_lex.specs.Tokens.{BeginsWithCharacter, EndsName, Continued, Front, IsSuffix, IsNext, IsName, behind, between, end_of, sign_of, word_kind, touches, is_name}
use Rattle.fb_lex.specs.TokenList.{Lexeme, IsSpelled, lexeme, Ending, TokensBehind}
use Rattle.fb_lex.specs.Laws.{NamesAreSpelled}
use Rattle.fb_lex.proofs.Fronts.{suffix_more}
use Rattle.fb_lex.proofs.NextPlaced.{skips_suffix, behind_suffix, front_within, sign_no_name, kind_no_name, next_placed}

-- a sign is no name
pub sign_tells : (t : Bool) (b : ℕ) {kind : Kind} → sign_of t b ≡ Some kind → false ≡ is_name kind
sign_tells t b s = sym (kind_no_name (sign_no_name t b) s)

-- A name is one whether or not it touches another.
pub front_any : {t : Bool} {text rest : List ℕ} {kind : Kind} (u : Bool) → Front t text kind rest → is_name kind ≡ true → Front u text kind rest
front_any u Front.end h = absurd (false≢true h)
front_any {t} u (Front.sign {b = b} s) h = absurd (false≢true (sign_tells t b s ∙ h))
front_any u (Front.assign b c) h = absurd (false≢true h)
front_any u (Front.colon b n) h = absurd (false≢true h)
front_any u (Front.arrow b c) h = absurd (false≢true h)
front_any u (Front.hole p e) h = absurd (false≢true h)
front_any u (Front.word p x w) h = Front.word p x w
front_any u (Front.low_word p w l) h = Front.low_word p w l

nothing_ends : EndsName []
nothing_ends = λ c rest p. absurd (omega (arith, ap length p.split, length-append (encode_utf8 c) rest, length-encode c, len_utf8_bounds c))

-- A word at the front of a text is a word alone.
alone : (c : ℕ) (text behind rest : List ℕ) → BeginsWithCharacter text c behind → (w : Continued behind rest) → take (length text - length rest) text ≡ encode_utf8 c ++ encode_utf8_all w.characters
alone c text behind rest p w =
    let x = encode_utf8 c ++ encode_utf8_all w.characters in
    let whole : text ≡ x ++ rest = p.split ∙ ap (λ v. encode_utf8 c ++ v) w.split ∙ sym (append_assoc (encode_utf8 c) (encode_utf8_all w.characters) rest) in
    ap (λ v. take (length text - length rest) v) whole ∙ take_at x rest (length text - length rest) (omega (arith, ap length whole, length-append x rest))

continued_alone : {behind rest : List ℕ} → (w : Continued behind rest) → Continued (encode_utf8_all w.characters) []
continued_alone w = record { characters = w.characters; scalar = w.scalar; continuing = w.continuing; split = sym (append-nil (encode_utf8_all w.characters)); longest = nothing_ends }

as_word : {x y : List ℕ} (t : Bool) → y ≡ x → Front t x (word_kind (take (length x - 0) x)) [] → Front t y (word_kind y) []
as_word {x} {y} t e p = subst (λ v. Front t v (word_kind v) []) (sym e) (subst (λ v. Front t x (word_kind v) []) (take_all (length x - 0) x (omega arith)) p)

word_alone : {t : Bool} {text rest : List ℕ} {kind : Kind} → Front t text kind rest → is_name kind ≡ true → Front t (take (length text - length rest) text) kind []
word_alone Front.end h = absurd (false≢true h)
word_alone {t} (Front.sign {b = b} s) h = absurd (false≢true (sign_tells t b s ∙ h))
word_alone (Front.assign b c) h = absurd (false≢true h)
word_alone (Front.colon b n) h = absurd (false≢true h)
word_alone (Front.arrow b c) h = absurd (false≢true h)
word_alone (Front.hole p e) h = absurd (false≢true h)
word_alone {t} (Front.word {c = c} {text = text} {behind = behind} {rest = rest} p x w) h =
    as_word t (alone c text behind rest p w) (Front.word (record { scalar = p.scalar; split = refl }) x (continued_alone w))
word_alone {t} (Front.low_word {text = text} {behind = behind} {rest = rest} p w l) h =
    as_word t (alone 95 text behind rest p w)
    (Front.low_word (record { scalar = p.scalar; split = refl }) (continued_alone w) (omega (arith, l, ap length w.split, length-append (encode_utf8_all w.characters) rest)))

at_front : (text front : List ℕ) (n s e : ℕ) → IsSuffix front text → s ≡ length text - length front → e ≡ s + n → between text s e ≡ take n front
at_front text front n s e p q r =
    let start : length p.0 ≡ s = omega (arith, q, ap length p.1, length-append p.0 front) in
    ap (λ v. take v (drop s text)) (let m : e - s ≡ n = omega (arith, r) in m) ∙ ap (λ v. take n (drop s v)) p.1 ∙ ap (take n) (drop_at p.0 front s start)

-- the next token, where it is a name
pub token_name : (text : List ℕ) (prev : Option Token) (t : Token) → end_of prev ≤ length text → IsNext text prev t → t.kind ≡ k.Name → IsName (between text t.span.start t.span.end)
token_name text prev t l n e =
    let x = take (length n.front - length n.rest) n.front in
    let placed = next_placed text prev t l n in
    let start = n.start in
    let end = n.end in
    let ordered = placed.ordered in
    let within = placed.within in
    let suffix = suffix_more (skips_suffix n.skips) (behind_suffix text prev) in
    let inside = ap length suffix.1 in
    let less = front_within n.stands in
    let bytes : between text t.span.start t.span.end ≡ x = at_front text n.front (length n.front - length n.rest) t.span.start t.span.end suffix start
    (omega (arith, start, end, ordered, within, inside, length-append suffix.0 n.front)) in
    let stands : Front (touches text prev n.front) x k.Name [] = subst (λ v. Front (touches text prev n.front) x v []) e (word_alone n.stands (ap is_name e)) in
    let short : length x ≤ 255 = let s = n.short e in let w = length-take-le (length n.front - length n.rest) n.front (omega arith) in omega (arith, s, w) in
    subst IsName (sym bytes) (record { front = front_any false stands refl; short = short })

spelled_more : (text : List ℕ) (kind : Kind) (s e : ℕ) (ts : List Lexeme) → (kind ≡ k.Name → IsName (between text s e)) → AllByRecursion IsSpelled ts → AllByRecursion IsSpelled (lexeme text kind s e ∷ ts)
spelled_more text k.Name s e ts n all = (n refl, all)
spelled_more text _ s e ts n all = (tt, all)

tokens_spelled : {text : List ℕ} {prev : Option Token} {ts : List Lexeme} {e : Ending} → end_of prev ≤ length text → TokensBehind text prev ts e → AllByRecursion IsSpelled ts
tokens_spelled {text} {prev} l (TokensBehind.last {t = t} n h) =
    spelled_more text t.kind t.span.start t.span.end [] (λ e. token_name text prev t l n e) tt
tokens_spelled {text} {prev} l (TokensBehind.more {t = t} {ts = ts} n h m) =
    let p = next_placed text prev t l n in
    spelled_more text t.kind t.span.start t.span.end ts (λ e. token_name text prev t l n e) (tokens_spelled p.within m)
tokens_spelled l (TokensBehind.fault f) = tt

pub names_are_spelled : NamesAreSpelled
names_are_spelled text ts e are = tokens_spelled {prev = None} (omega arith) are
