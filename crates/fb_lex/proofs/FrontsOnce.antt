-- One token at most stands at the front of a text: a sign by its first bytes, and else a word, up to where it ends.
use Rattle.std.proofs.Common.{◌≡◌, ℕ, ◌-◌, ◌<◌, inl, inr, ◌==◌, Bool, true, false, ◌&&◌, if◌then◌else◌, List, [], ◌∷◌, length, take, Option, Some, None, refl, ap, ◌∙◌, sym, subst, arith}
use Rattle.std.proofs.lemmas.Bool.{false≢true}
use Rattle.std.proofs.lemmas.Bool.Decides.{nat_tests}
use Rattle.unicode_ident.specs.Ident.{is_xid_start}
use Rattle.unicode_ident.proofs.IdentLemmas.{is_xid_start-ascii}
use Rattle.fb_lex.specs.declared.tokens.Kind.{Kind}
use Rattle.fb_lex.specs.declared.tokens.Kind.TheVariants.{Assign, Colon, Arrow, Hole, End}
use Rattle.fb_lex.specs.Tokens.{BeginsWithCharacter, Continued, begins_with_byte, sign_of, word_kind, Front}
use Rattle.fb_lex.proofs.Characters.{one_character, continued_none}
use Rattle.fb_lex.proofs.WordsOnce.{continued_once, word_byte, no_sign, word_begins}

-- the sign at the front, with the rest behind it
abbrev pub with_sign : Option Kind → ℕ → List ℕ → Option (Kind × List ℕ)
with_sign (Some k) b rest = Some (k, rest)
with_sign None b [] = if b == 58 then Some (Colon, []) else None
with_sign None b (c ∷ rest) =
    if b == 58 then (if c == 61 then Some (Assign, rest) else Some (Colon, c ∷ rest)) else if b == 45 && c == 62 then Some (Arrow, rest) else None

abbrev pub signs_of : Bool → List ℕ → Option (Kind × List ℕ)
signs_of touches [] = Some (End, [])
signs_of touches (b ∷ rest) = with_sign (sign_of touches b) b rest

-- what kind of word stands before the rest
abbrev pub kind_at : ℕ → (text behind rest : List ℕ) → Kind
kind_at c text behind rest = if c == 95 && length behind == length rest then Hole else word_kind (take (length text - length rest) text)

-- A word of this kind stands at the front.
record IsWord (text : List ℕ) (kind : Kind) (rest : List ℕ) : Type 0 where
  pub first : ℕ
  pub behind : List ℕ
  pub begins : BeginsWithCharacter text first behind
  pub continued : Continued behind rest
  pub is : kind ≡ kind_at first text behind rest

-- A token at the front is a sign, or no sign stands there and it is a word.
data Reads (touches : Bool) (text : List ℕ) (kind : Kind) (rest : List ℕ) : Type 0 where
  sign : signs_of touches text ≡ Some (kind, rest) → Reads touches text kind rest
  word : signs_of touches text ≡ None → IsWord text kind rest → Reads touches text kind rest

colon_sign : (rest : List ℕ) → begins_with_byte 61 rest ≡ false → with_sign None 58 rest ≡ Some (Colon, rest)
colon_sign [] h = refl
colon_sign (c ∷ rest) h = rw h refl

no_with : (b : ℕ) (rest : List ℕ) → (b == 58) ≡ false → (b == 45) ≡ false → with_sign None b rest ≡ None
no_with b [] h k = rw h refl
no_with b (c ∷ rest) h k = rw (h, k) refl

no_signs : (touches : Bool) (text : List ℕ) → (b : ℕ) × (rest : List ℕ) × (text ≡ b ∷ rest) × (word_byte b ≡ true) → signs_of touches text ≡ None
no_signs touches text p =
    let n = no_sign touches p.0 p.3 in
    ap (signs_of touches) p.2 ∙ ap (λ v. with_sign v p.0 p.1) n.one ∙ no_with p.0 p.1 n.colon n.minus

not_low : (c : ℕ) → is_xid_start c ≡ true → (c == 95) ≡ false
not_low c h =
    let low : is_xid_start 95 ≡ false = is_xid_start-ascii 95 (omega arith) in
    let n : c ≡ 95 → ⊥ = λ e. false≢true (sym low ∙ sym (ap is_xid_start e) ∙ h) in
    grind (arith, nat_tests)

some_length : (m n : ℕ) → m < n → (n == m) ≡ false
some_length m n h = grind (arith, nat_tests)

same_length : (n : ℕ) → (n == n) ≡ true
same_length n = grind (arith, nat_tests)

reads : {touches : Bool} {text : List ℕ} {kind : Kind} {rest : List ℕ} → Front touches text kind rest → Reads touches text kind rest
reads Front.end = Reads.sign refl
reads (Front.sign s) = Reads.sign (rw s refl)
reads (Front.assign b c) = Reads.sign (rw (b, c) refl)
reads (Front.colon {rest = rest} b n) = Reads.sign (rw b (colon_sign rest n))
reads (Front.arrow b c) = Reads.sign (rw (b, c) refl)
reads {touches} (Front.hole {text = text} {rest = rest} p e) =
    Reads.word (no_signs touches text (word_begins text rest 95 p (inr refl)))
    (record { first = 95; behind = rest; begins = p; continued = continued_none e; is = rw (same_length (length rest)) refl })
reads {touches} (Front.word {c = c} {text = text} {behind = behind} {rest = rest} p h w) =
    Reads.word (no_signs touches text (word_begins text behind c p (inl h)))
    (record { first = c; behind = behind; begins = p; continued = w; is = rw (not_low c h) refl })
reads {touches} (Front.low_word {text = text} {behind = behind} {rest = rest} p w l) =
    Reads.word (no_signs touches text (word_begins text behind 95 p (inr refl)))
    (record { first = 95; behind = behind; begins = p; continued = w; is = rw (some_length (length rest) (length behind) l) refl })

word_once : {text r q : List ℕ} {k j : Kind} → IsWord text k r → IsWord text j q → (k ≡ j) × (r ≡ q)
word_once {text} {r} {q} v w =
    let same = one_character v.begins w.begins in
    let rest : r ≡ q = continued_once v.continued (subst (λ x. Continued x q) (sym same.1) w.continued) in
    (v.is ∙ ap (λ c. kind_at c text v.behind r) same.0 ∙ ap (λ b. kind_at w.first text b r) same.1 ∙ ap (kind_at w.first text w.behind) rest ∙ sym w.is, rest)

somes : {A : Type 0} {o : Option A} {a b : A} → o ≡ Some a → o ≡ Some b → a ≡ b
somes p q = cc

pairs : {A B : Type 0} {a c : A} {b d : B} {o : Option (A × B)} → o ≡ Some (a, b) → o ≡ Some (c, d) → (a ≡ c) × (b ≡ d)
pairs p q = (ap (λ v. v.0) (somes p q), ap (λ v. v.1) (somes p q))

none_some : {A : Type 0} {o : Option A} {a : A} → o ≡ None → o ≡ Some a → ⊥
none_some p q = cc

reads_once : {touches : Bool} {text r q : List ℕ} {k j : Kind} → Reads touches text k r → Reads touches text j q → (k ≡ j) × (r ≡ q)
reads_once (Reads.sign p) (Reads.sign q) = pairs p q
reads_once (Reads.sign p) (Reads.word n w) = absurd (none_some n p)
reads_once (Reads.word n w) (Reads.sign p) = absurd (none_some n p)
reads_once (Reads.word n w) (Reads.word m v) = word_once w v

pub front_once : {touches : Bool} {text r q : List ℕ} {k j : Kind} → Front touches text k r → Front touches text j q → (k ≡ j) × (r ≡ q)
front_once p q = reads_once (reads p) (reads q)
