-- The tokens of a text are the only ones: behind each token stands one gap at most, and then one token or one fault.
use Rattle.std.proofs.Common.{◌≡◌, ℕ, ◌==◌, true, false, ◌||◌, List, [], ◌∷◌, length, drop, Option, Some, Result, Ok, Err, refl, ap, ◌∙◌, sym, subst, arith}
use Rattle.std.specs.Str.{IsUtf8, IsValidUpTo}
use Rattle.std.proofs.lemmas.Bool.{false≢true}
use Rattle.std.proofs.lemmas.List.{take_all}
use Rattle.std.proofs.lemmas.Str.{utf8_valid_len-IsValidUpTo}
use Rattle.fb_lex.specs.declared.tokens.Kind.{Kind}
use Rattle.fb_lex.specs.declared.tokens.Kind.TheVariants.{Name}
use Rattle.fb_lex.specs.declared.tokens.Token.{Token}
use Rattle.fb_lex.specs.declared.tokens.LexFault.{LexFault}
use Rattle.fb_lex.specs.declared.tokens.LexFault.TheVariants.{BadByte, LongName}
use Rattle.fb_lex.specs.Tokens.{begins_blank, begins_gap, Skips, Front, IsNext, IsFault, touches, place_of, is_end}
use Rattle.fb_lex.specs.TokenList.{Lexeme, seen, Ending, Faulty, TokensBehind}
use Rattle.fb_lex.specs.Laws.{OneNextToken, OneFault, NotBoth, OneTokenList}
use Rattle.fb_lex.proofs.FrontsOnce.{front_once}

-- Gaps.
blank_begins : (b : ℕ) (text : List ℕ) → begins_blank b text ≡ true → begins_gap (b ∷ text) ≡ false → ⊥
blank_begins b text h g = false≢true (sym g ∙ ap (λ v. v || b == 35) h)

comment_begins : (b : ℕ) (text : List ℕ) → b ≡ 35 → begins_gap (b ∷ text) ≡ false → ⊥
comment_begins b text h g = false≢true (sym g ∙ ap (λ v. begins_gap (v ∷ text)) h)

no_blank : (b : ℕ) (text : List ℕ) → b ≡ 35 → begins_blank b text ≡ true → ⊥
no_blank b text h k = false≢true (sym (ap (λ v. begins_blank v text) h) ∙ k)

no_fault : (bytes : List ℕ) (n : ℕ) → IsUtf8 bytes → IsValidUpTo bytes n → ⊥
no_fault bytes n u v = v.longest (length bytes) v.short (subst IsUtf8 (sym (take_all (length bytes) bytes (omega arith))) u)

same_place : (bytes : List ℕ) (n m : ℕ) → IsValidUpTo bytes n → IsValidUpTo bytes m → n ≡ m
same_place bytes n m v w = sym (utf8_valid_len-IsValidUpTo bytes n v) ∙ utf8_valid_len-IsValidUpTo bytes m w

skips_once : {text : List ℕ} {r q : Result (List ℕ) (List ℕ)} → Skips text r → Skips text q → r ≡ q
skips_once (Skips.stop g) (Skips.stop h) = refl
skips_once (Skips.stop g) (Skips.blank {b = b} {text = text} h s) = absurd (blank_begins b text h g)
skips_once (Skips.stop g) (Skips.comment {b = b} {text = text} h u s) = absurd (comment_begins b text h g)
skips_once (Skips.stop g) (Skips.bad_comment {b = b} {text = text} h v) = absurd (comment_begins b text h g)
skips_once (Skips.blank {b = b} {text = text} g s) (Skips.stop h) = absurd (blank_begins b text g h)
skips_once (Skips.blank g s) (Skips.blank h t) = skips_once s t
skips_once (Skips.blank {b = b} {text = text} g s) (Skips.comment h u t) = absurd (no_blank b text h g)
skips_once (Skips.blank {b = b} {text = text} g s) (Skips.bad_comment h v) = absurd (no_blank b text h g)
skips_once (Skips.comment {b = b} {text = text} g u s) (Skips.stop h) = absurd (comment_begins b text g h)
skips_once (Skips.comment {b = b} {text = text} g u s) (Skips.blank h t) = absurd (no_blank b text g h)
skips_once (Skips.comment g u s) (Skips.comment h v t) = skips_once s t
skips_once (Skips.comment g u s) (Skips.bad_comment h v) = absurd (no_fault _ _ u v)
skips_once (Skips.bad_comment {b = b} {text = text} g v) (Skips.stop h) = absurd (comment_begins b text g h)
skips_once (Skips.bad_comment {b = b} {text = text} g v) (Skips.blank h t) = absurd (no_blank b text g h)
skips_once (Skips.bad_comment g v) (Skips.comment h u t) = absurd (no_fault _ _ u v)
skips_once (Skips.bad_comment {text = text} g v) (Skips.bad_comment h w) = ap (λ n. Err (drop n text)) (same_place _ _ _ v w)

-- Where a gap ends, and where it is at fault.
same_end : {text x y : List ℕ} → Skips text (Ok x) → Skips text (Ok y) → x ≡ y
same_end s t = let same = skips_once s t in cc

same_bad : {text x y : List ℕ} → Skips text (Err x) → Skips text (Err y) → x ≡ y
same_bad s t = let same = skips_once s t in cc

not_both : {text x y : List ℕ} → Skips text (Ok x) → Skips text (Err y) → ⊥
not_both s t = let same = skips_once s t in cc

-- The next token, or the fault.
abbrev token : Kind → (start end : ℕ) → Token
token k s e = record { kind = k; span = record { start = s; end = e } }

same_token : (t u : Token) → t.kind ≡ u.kind → t.span.start ≡ u.span.start → t.span.end ≡ u.span.end → t ≡ u
same_token t u k s e = ap (λ x. token x t.span.start t.span.end) k ∙ ap (λ x. token u.kind x t.span.end) s ∙ ap (token u.kind u.span.start) e

-- tokens at one front, seen from two places of which one is known to be it
stands_once : (text : List ℕ) (prev : Option Token) {front other r q : List ℕ} {k j : Kind} → front ≡ other → Front (touches text prev front) front k r → Front (touches text prev other) other j q → (k ≡ j) × (r ≡ q)
stands_once text prev {front} {other} {r} {q} {k} {j} e p s = front_once p (subst (λ v. Front (touches text prev v) v j q) (sym e) s)

pub next_once : {text : List ℕ} {prev : Option Token} {t u : Token} → IsNext text prev t → IsNext text prev u → t ≡ u
next_once {text} {prev} {t} {u} p q =
    let front = same_end p.skips q.skips in
    let one = stands_once text prev front p.stands q.stands in
    same_token t u one.0 (p.start ∙ ap (place_of text) front ∙ sym q.start) (p.end ∙ ap (place_of text) one.1 ∙ sym q.end)

pub no_fault_next : {text : List ℕ} {prev : Option Token} {t : Token} {f : LexFault} → IsNext text prev t → IsFault text prev f → ⊥
no_fault_next p (IsFault.in_comment s) = not_both p.skips s
no_fault_next {text} {prev} {t} p (IsFault.no_token s n) = n t.kind p.rest (subst (λ v. Front (touches text prev v) v t.kind p.rest) (same_end p.skips s) p.stands)
no_fault_next {text} {prev} {t} p (IsFault.long_name s w l) =
    let front = same_end p.skips s in
    let one = stands_once text prev front p.stands w in
    let short = p.short one.0 in
    omega (arith, short, l, ap length front, ap length one.1)

fault_once : {text : List ℕ} {prev : Option Token} {f g : LexFault} → IsFault text prev f → IsFault text prev g → f ≡ g
fault_once {text} (IsFault.in_comment s) (IsFault.in_comment t) = ap (λ v. BadByte (place_of text v)) (same_bad s t)
fault_once (IsFault.in_comment s) (IsFault.no_token t n) = absurd (not_both t s)
fault_once (IsFault.in_comment s) (IsFault.long_name t w l) = absurd (not_both t s)
fault_once (IsFault.no_token s n) (IsFault.in_comment t) = absurd (not_both s t)
fault_once {text} (IsFault.no_token s n) (IsFault.no_token t m) = ap (λ v. BadByte (place_of text v)) (same_end s t)
fault_once {text} {prev} (IsFault.no_token s n) (IsFault.long_name {rest = rest} t w l) = absurd (n Name rest (subst (λ v. Front (touches text prev v) v Name rest) (same_end t s) w))
fault_once (IsFault.long_name s w l) (IsFault.in_comment t) = absurd (not_both s t)
fault_once {text} {prev} (IsFault.long_name {rest = rest} s w l) (IsFault.no_token t n) = absurd (n Name rest (subst (λ v. Front (touches text prev v) v Name rest) (same_end s t) w))
fault_once {text} (IsFault.long_name s w l) (IsFault.long_name t v m) = ap (λ v. LongName (place_of text v)) (same_end s t)

-- The list.
not_last : {text : List ℕ} {prev : Option Token} {t u : Token} → IsNext text prev t → is_end t.kind ≡ true → IsNext text prev u → is_end u.kind ≡ false → ⊥
not_last p h q k = false≢true (sym k ∙ sym (ap (λ v. is_end v.kind) (next_once p q)) ∙ h)

tokens_once : {text : List ℕ} {prev : Option Token} {ts us : List Lexeme} {e f : Ending} → TokensBehind text prev ts e → TokensBehind text prev us f → (ts ≡ us) × (e ≡ f)
tokens_once {text} (TokensBehind.last p h) (TokensBehind.last q k) = (ap (λ v. seen text v ∷ []) (next_once p q), refl)
tokens_once (TokensBehind.last p h) (TokensBehind.more q k n) = absurd (not_last p h q k)
tokens_once (TokensBehind.last p h) (TokensBehind.fault g) = absurd (no_fault_next p g)
tokens_once (TokensBehind.more p h m) (TokensBehind.last q k) = absurd (not_last q k p h)
tokens_once {text} {prev} {ts} {us} {e} {f} (TokensBehind.more {t = t} {ts = rest} p h m) (TokensBehind.more {t = u} {ts = other} q k n) =
    let same = next_once p q in
    let behind = tokens_once m (subst (λ v. TokensBehind text (Some v) other f) (sym same) n) in
    (ap (λ v. seen text v ∷ rest) same ∙ ap (λ v. seen text u ∷ v) behind.0, behind.1)
tokens_once (TokensBehind.more p h m) (TokensBehind.fault g) = absurd (no_fault_next p g)
tokens_once (TokensBehind.fault g) (TokensBehind.last q k) = absurd (no_fault_next q g)
tokens_once (TokensBehind.fault g) (TokensBehind.more q k n) = absurd (no_fault_next q g)
tokens_once (TokensBehind.fault f) (TokensBehind.fault g) = (refl, ap Faulty (fault_once f g))

pub one_token_list : OneTokenList
one_token_list text ts us e f p q = tokens_once p q

pub one_next_token : OneNextToken
one_next_token text prev t u p q = next_once p q

pub one_fault : OneFault
one_fault text prev f g p q = fault_once p q

pub not_both_stand : NotBoth
not_both_stand text prev t f p q = no_fault_next p q
