-- A name is UTF-8.
use Rattle.std.proofs.Common.{◌≡◌, ℕ, Bool, true, List, [], ◌∷◌, ◌++◌, refl, ap, ◌∙◌, sym, subst}
use Rattle.std.specs.Prelude.{Result, Ok, Err, MatchResult}
use Rattle.std.specs.Result.{IsOk}
use Rattle.std.specs.Char.{encode_utf8}
use Rattle.std.specs.Str.{encode_utf8_all, IsUtf8}
use Rattle.std.proofs.lemmas.Bool.{false≢true}
use Rattle.std.proofs.lemmas.List.{append-nil}
use Rattle.fb_lex.specs.declared.tokens.Kind.{Kind}
use Rattle.fb_lex.specs.Tokens.{BeginsWithCharacter, Continued, Front, IsName, is_name}
use Rattle.fb_lex.proofs.Names.{sign_tells}

word_utf8 : (c : ℕ) (text behind : List ℕ) → BeginsWithCharacter text c behind → Continued behind [] → IsUtf8 text
word_utf8 c text behind p w =
    (c ∷ w.characters, (rw (p.scalar, w.scalar) refl, ap (λ v. encode_utf8 c ++ v) (sym (append-nil (encode_utf8_all w.characters)) ∙ sym w.split) ∙ sym p.split))

front_utf8 : {t : Bool} {text rest : List ℕ} {kind : Kind} → Front t text kind rest → rest ≡ [] → is_name kind ≡ true → IsUtf8 text
front_utf8 Front.end e h = absurd (false≢true h)
front_utf8 {t} (Front.sign {b = b} s) e h = absurd (false≢true (sign_tells t b s ∙ h))
front_utf8 (Front.assign b c) e h = absurd (false≢true h)
front_utf8 (Front.colon b n) e h = absurd (false≢true h)
front_utf8 (Front.arrow b c) e h = absurd (false≢true h)
front_utf8 (Front.hole p x) e h = absurd (false≢true h)
front_utf8 (Front.word {c = c} {text = text} {behind = behind} p x w) e h = word_utf8 c text behind p (subst (Continued behind) e w)
front_utf8 (Front.low_word {text = text} {behind = behind} p w l) e h = word_utf8 95 text behind p (subst (Continued behind) e w)

pub name_utf8 : (x : List ℕ) → IsName x → IsUtf8 x
name_utf8 x n = front_utf8 n.front refl refl

pub is_valid : {A E : Type 0} (P : A → Type 0) (Q : E → Type 0) (r : Result A E) → MatchResult r P Q → ((e : E) → Q e → ⊥) → IsOk r
is_valid P Q (Ok a) m h = refl
is_valid P Q (Err e) m h = absurd (h e m)
