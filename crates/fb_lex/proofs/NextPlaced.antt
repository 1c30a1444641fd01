-- Where tokens lie, and what names are, from the definition of the next token alone.
use Rattle.std.proofs.Common.{◌≡◌, ℕ, ◌+◌, ◌-◌, ◌<◌, ◌≤◌, Bool, true, false, if◌then◌else◌, ◌==◌, List, length, take, Option, Some, None, Ok, refl, ap, ◌∙◌, sym, arith, length-append}
use Rattle.std.proofs.lemmas.Bool.{false≢true}
use Rattle.std.proofs.Common.{length-drop}
use Rattle.std.specs.Char.{encode_utf8}
use Rattle.std.specs.Str.{byte, IsUtf8, encode_utf8_all}
use Rattle.std.proofs.lemmas.Str.{length-encode, len_utf8_bounds}
use Rattle.fb_lex.specs.declared.tokens.Kind.{Kind}
use Rattle.fb_lex.specs.declared.tokens.Kind.TheVariants as k
use Rattle.fb_lex.specs.declared.tokens.Token.{Token}
use Rattle.fb_lex.specs.Tokens.{BeginsWithCharacter, Continued, sign_of, line_length, Skips, Front, IsSuffix, IsNext, behind, end_of, is_name, is_end}
use Rattle.fb_lex.proofs.Placed.{IsPlaced}
use Rattle.fb_lex.proofs.Characters.{word_utf8}
use Rattle.fb_lex.proofs.Fronts.{suffix_same, suffix_cons, suffix_more, suffix_drop, at_place}

pub skips_suffix : {text rest : List ℕ} → Skips text (Ok rest) → IsSuffix rest text
skips_suffix {text} (Skips.stop h) = suffix_same text
skips_suffix (Skips.blank h s) = suffix_more (skips_suffix s) (suffix_cons refl)
skips_suffix (Skips.comment {text = text} h u s) = suffix_more (suffix_more (skips_suffix s) (suffix_drop (line_length text) refl)) (suffix_cons refl)

suffix_within : {text rest : List ℕ} → IsSuffix rest text → length rest ≤ length text
suffix_within {text} {rest} s = omega (arith, ap length s.1, length-append s.0 rest)

character_shorter : {text rest : List ℕ} {c : ℕ} → BeginsWithCharacter text c rest → length rest < length text
character_shorter {text} {rest} {c} h = omega (arith, ap length h.split, length-append (encode_utf8 c) rest, length-encode c, len_utf8_bounds c)

continued_within : {text rest : List ℕ} → Continued text rest → length rest ≤ length text
continued_within {text} {rest} h = omega (arith, ap length h.split, length-append (encode_utf8_all h.characters) rest)

-- a token that isn't the end is shorter than the text
front_shorter : {touches : Bool} {text rest : List ℕ} {kind : Kind} → Front touches text kind rest → is_end kind ≡ false → length rest < length text
front_shorter Front.end h = absurd (false≢true (sym h))
front_shorter (Front.sign s) h = omega arith
front_shorter (Front.assign b c) h = omega arith
front_shorter (Front.colon b n) h = omega arith
front_shorter (Front.arrow b c) h = omega arith
front_shorter (Front.hole b n) h = character_shorter b
front_shorter (Front.word b x n) h = let p = character_shorter b in let q = continued_within n in omega (arith, p, q)
front_shorter (Front.low_word b n l) h = let p = character_shorter b in let q = continued_within n in omega (arith, p, q)

pub front_within : {touches : Bool} {text rest : List ℕ} {kind : Kind} → Front touches text kind rest → length rest ≤ length text
front_within Front.end = omega arith
front_within (Front.sign s) = omega arith
front_within (Front.assign b c) = omega arith
front_within (Front.colon b n) = omega arith
front_within (Front.arrow b c) = omega arith
front_within (Front.hole b n) = let p = character_shorter b in omega (arith, p)
front_within (Front.word b x n) = let p = character_shorter b in let q = continued_within n in omega (arith, p, q)
front_within (Front.low_word b n l) = let p = character_shorter b in let q = continued_within n in omega (arith, p, q)

-- no sign is a name
pub data NoName : Option Kind → Type 0 where
  nothing : NoName None
  some : {kind : Kind} → is_name kind ≡ false → NoName (Some kind)

either : (c : Bool) {x y : Option Kind} → NoName x → NoName y → NoName (if c then x else y)
either true p q = p
either false p q = q

paren_no_name : (touches : Bool) → NoName (Some (if touches then k.Touching else k.LParen))
paren_no_name true = some refl
paren_no_name false = some refl

pub sign_no_name : (touches : Bool) (b : ℕ) → NoName (sign_of touches b)
sign_no_name touches b =
    either (b == byte "|") (some refl) (either (b == byte "[") (some refl) (either (b == byte "]") (some refl) (either (b == byte "(") (paren_no_name touches) (either (b == byte ")") (some refl) (either (b == byte ",") (some refl) (either (b == byte ".") (some refl) (either (b == byte "*") (some refl) (either (b == byte "\n") (some refl) nothing))))))))

kinds : {x y : Kind} → Some x ≡ Some y → x ≡ y
kinds h = cc

pub kind_no_name : {o : Option Kind} {kind : Kind} → NoName o → o ≡ Some kind → is_name kind ≡ false
kind_no_name nothing h = cc
kind_no_name (some {kind = kind} n) h = sym (ap is_name (kinds h)) ∙ n

front_utf8 : {touches : Bool} {text rest : List ℕ} {kind : Kind} → Front touches text kind rest → is_name kind ≡ true → IsUtf8 (take (length text - length rest) text)
front_utf8 Front.end h = absurd (false≢true h)
front_utf8 {touches} (Front.sign {b = b} s) h = absurd (false≢true (sym (kind_no_name (sign_no_name touches b) s) ∙ h))
front_utf8 (Front.assign b c) h = absurd (false≢true h)
front_utf8 (Front.colon b n) h = absurd (false≢true h)
front_utf8 (Front.arrow b c) h = absurd (false≢true h)
front_utf8 (Front.hole b n) h = absurd (false≢true h)
front_utf8 (Front.word b x n) h = word_utf8 _ _ _ _ b n
front_utf8 (Front.low_word b n l) h = word_utf8 _ _ _ _ b n

pub name_is : (kind : Kind) → is_name kind ≡ true → kind ≡ k.Name
name_is k.Name h = refl
name_is _ h = absurd (false≢true h)

name_no_end : (kind : Kind) → is_name kind ≡ true → is_end kind ≡ false
name_no_end k.End h = absurd (false≢true h)
name_no_end _ h = refl

behind_length : (text : List ℕ) (prev : Option Token) → end_of prev ≤ length text → length (behind text prev) + end_of prev ≡ length text
behind_length text None h = omega arith
behind_length text (Some t) h = omega (arith, length-drop t.span.end text)

pub behind_suffix : (text : List ℕ) (prev : Option Token) → IsSuffix (behind text prev) text
behind_suffix text None = suffix_same text
behind_suffix text (Some t) = suffix_drop t.span.end refl

-- the next token lies behind the previous one, in the text, and a name is one
pub next_placed : (text : List ℕ) (prev : Option Token) (t : Token) → end_of prev ≤ length text → IsNext text prev t → IsPlaced text (end_of prev) t
next_placed text prev t within n =
    let skipped = skips_suffix n.skips in
    let p = suffix_within skipped in
    let q = front_within n.stands in
    let len = behind_length text prev within in
    let start = n.start in
    let end = n.end in
    let wide : is_end t.kind ≡ false → t.span.start < t.span.end = λ h. let w = front_shorter n.stands h in omega (arith, p, q, w, len, start, end) in
    record {
      behind = omega (arith, p, q, len, start, end);
      ordered = omega (arith, p, q, len, start, end);
      within = omega (arith, p, q, len, start, end);
      wide = wide;
      short = λ h. let s = n.short (name_is t.kind h) in omega (arith, p, q, s, len, start, end);
      utf8 = λ h. at_place text n.front (length n.front - length n.rest) (suffix_more skipped (behind_suffix text prev)) (front_utf8 n.stands h) t.span.start t.span.end start
          (omega (arith, p, q, len, start, end));
    }
