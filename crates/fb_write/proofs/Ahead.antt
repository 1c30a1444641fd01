-- A token at the front of a text stands there also where more follows that doesn't go on with it.
use Rattle.std.proofs.Common.{◌≡◌, ℕ, ◌-◌, ◌<◌, ◌≤◌, ◌⊎◌, ⊎_elim, inl, inr, ◌==◌, Bool, true, false, not, ◌||◌, List, [], ◌∷◌, ◌++◌, length, get_or, take, drop, Option, Some, None, refl, ap, ◌∙◌, sym, subst, arith, append_assoc, length-append}
use Rattle.std.specs.Char.{encode_utf8}
use Rattle.std.specs.Str.{encode_utf8_all, NoCharPasses}
use Rattle.std.proofs.lemmas.Bool.{false≢true, cases_lt}
use Rattle.std.proofs.lemmas.Bool.Decides.{nat_tests}
use Rattle.std.proofs.lemmas.List.{append-nil, take-append-le, take-append-drop, take_at, get_or_append_left}
use Rattle.std.proofs.Math.Seq.{get_or-append_seam}
use Rattle.std.proofs.lemmas.Str.{char_from_byte, length-encode, len_utf8_bounds, len_utf8_ascii, NoCharPasses-byte}
use Rattle.unicode_ident.proofs.IdentLemmas.{is_xid_continue-ascii}
use Rattle.fb_lex.specs.declared.tokens.Kind.{Kind}
use Rattle.fb_lex.specs.Tokens.{BeginsWithCharacter, EndsName, Continued, continues, begins_with_byte, begins_gap, sign_of, word_kind, is_end, Front}
use Rattle.fb_lex.proofs.WordsOnce.{word_byte, word_begins}

-- Nothing follows, or a byte that goes on with no token.
abbrev pub is_apart : List ℕ → Bool
is_apart [] = true
is_apart (b ∷ w) = b == 32 || (b == 10 || (b == 40 || (b == 41 || (b == 44 || b == 93))))

or_cases : (x y : Bool) → (x || y) ≡ true → (x ≡ true) ⊎ (y ≡ true)
or_cases true y h = inl refl
or_cases false y h = inr h

same_byte : (b x : ℕ) → (b == x) ≡ true → b ≡ x
same_byte b x h = grind (arith, nat_tests)

-- a fact of these bytes holds of each that stands apart
apart_is : (P : ℕ → Type 0) (b : ℕ) (w : List ℕ) → is_apart (b ∷ w) ≡ true → P 32 → P 10 → P 40 → P 41 → P 44 → P 93 → P b
apart_is P b w h p1 p2 p3 p4 p5 p6 =
    let at = λ (x : ℕ) (e : (b == x) ≡ true) (p : P x). subst P (sym (same_byte b x e)) p in
    ⊎_elim (λ e. at 32 e p1) (λ h2. ⊎_elim (λ e. at 10 e p2) (λ h3. ⊎_elim (λ e. at 40 e p3) (λ h4. ⊎_elim (λ e. at 41 e p4) (λ h5. ⊎_elim (λ e. at 44 e p5) (λ e. at 93 e p6)
    (or_cases (b == 44) _ h5)) (or_cases (b == 41) _ h4)) (or_cases (b == 40) _ h3)) (or_cases (b == 10) _ h2)) (or_cases (b == 32) _ h)

no_name_byte : (b : ℕ) (w : List ℕ) → is_apart (b ∷ w) ≡ true → continues b ≡ false
no_name_byte b w h = apart_is (λ x. continues x ≡ false) b w h
    (rw (is_xid_continue-ascii 32 (omega arith)) refl) (rw (is_xid_continue-ascii 10 (omega arith)) refl) (rw (is_xid_continue-ascii 40 (omega arith)) refl)
    (rw (is_xid_continue-ascii 41 (omega arith)) refl) (rw (is_xid_continue-ascii 44 (omega arith)) refl) (rw (is_xid_continue-ascii 93 (omega arith)) refl)

low_byte : (b : ℕ) (w : List ℕ) → is_apart (b ∷ w) ≡ true → b < 128
low_byte b w h = apart_is (λ x. x < 128) b w h (omega arith) (omega arith) (omega arith) (omega arith) (omega arith) (omega arith)

no_equals : (w : List ℕ) → is_apart w ≡ true → begins_with_byte 61 w ≡ false
no_equals [] h = refl
no_equals (b ∷ w) h = apart_is (λ x. (x == 61) ≡ false) b w h refl refl refl refl refl refl

pub ends_apart : (w : List ℕ) → is_apart w ≡ true → EndsName w
ends_apart [] h = λ c rest p. absurd (omega (arith, ap length p.split, length-append (encode_utf8 c) rest, length-encode c, len_utf8_bounds c))
ends_apart (b ∷ w) h = λ c rest p.
    let same : c ≡ b = char_from_byte (b ∷ w) rest c p.split (low_byte b w h) (omega arith) in
    ap continues same ∙ no_name_byte b w h

-- an ASCII byte in a character is the character
low_in_character : (c i : ℕ) → BeginsWithCharacter (encode_utf8 c) c [] → i < length (encode_utf8 c) → get_or (encode_utf8 c) i 0 < 128 → c ≡ get_or (encode_utf8 c) i 0
low_in_character c i p l h =
    let none : NoCharPasses (λ x. not (x == c)) (encode_utf8 c) = (let e : (c == c) ≡ true = grind (arith, nat_tests) in (c ∷ [], append-nil (encode_utf8 c), (rw e refl, tt))) in
    let fails : not (get_or (encode_utf8 c) i 0 == c) ≡ false = NoCharPasses-byte (λ x. not (x == c)) (encode_utf8 c) i none l h in
    grind (arith, nat_tests)

-- The first character of a text with more behind it is the first of the text.
ends_before_byte : (r : List ℕ) (b : ℕ) (w : List ℕ) → EndsName r → is_apart (b ∷ w) ≡ true → (c : ℕ) (rest : List ℕ) → 0 < length r → BeginsWithCharacter (r ++ b ∷ w) c rest → length r < length (encode_utf8 c) → continues c ≡ false
ends_before_byte r b w e h c rest some p long =
    let i = length r in
    let at : get_or (encode_utf8 c) i 0 ≡ b = sym (get_or_append_left (encode_utf8 c) rest 0 i long) ∙ ap (λ v. get_or v i 0) (sym p.split) ∙ get_or-append_seam r b w 0 in
    let low : get_or (encode_utf8 c) i 0 < 128 = rw at (low_byte b w h) in
    let same : c ≡ b = low_in_character c i (record { scalar = p.scalar; split = sym (append-nil (encode_utf8 c)) }) long low ∙ at in
    let short : length (encode_utf8 c) ≡ 1 = length-encode c ∙ len_utf8_ascii c (rw same (low_byte b w h)) in
    absurd (omega (arith, short, long, some))

within_first : (r w : List ℕ) (c : ℕ) (rest : List ℕ) → r ++ w ≡ encode_utf8 c ++ rest → length (encode_utf8 c) ≤ length r → r ≡ encode_utf8 c ++ drop (length (encode_utf8 c)) r
within_first r w c rest e l =
    let n = length (encode_utf8 c) in
    let front : take n r ≡ encode_utf8 c = sym (take-append-le n r w l) ∙ ap (take n) e ∙ take_at (encode_utf8 c) rest n refl in
    sym (take-append-drop n r) ∙ ap (λ v. v ++ drop n r) front

pub ends_before : (r w : List ℕ) → EndsName r → is_apart w ≡ true → EndsName (r ++ w)
ends_before [] w e h = ends_apart w h
ends_before (x ∷ r) [] e h = subst EndsName (sym (append-nil (x ∷ r))) e
ends_before (x ∷ r) (b ∷ w) e h = λ c rest p.
    ⊎_elim (λ long. ends_before_byte (x ∷ r) b w e h c rest (omega arith) p long)
    (λ short. e c (drop (length (encode_utf8 c)) (x ∷ r)) (record { scalar = p.scalar; split = within_first (x ∷ r) (b ∷ w) c rest p.split short }))
    (cases_lt (length (x ∷ r)) (length (encode_utf8 c)))

no_equals_before : (r w : List ℕ) → begins_with_byte 61 r ≡ false → is_apart w ≡ true → begins_with_byte 61 (r ++ w) ≡ false
no_equals_before [] w e h = no_equals w h
no_equals_before (b ∷ r) w e h = e

character_before : {text rest : List ℕ} {c : ℕ} (w : List ℕ) → BeginsWithCharacter text c rest → BeginsWithCharacter (text ++ w) c (rest ++ w)
character_before {text} {rest} {c} w p = record { scalar = p.scalar; split = ap (λ v. v ++ w) p.split ∙ append_assoc (encode_utf8 c) rest w }

continued_before : {text rest : List ℕ} (w : List ℕ) → is_apart w ≡ true → Continued text rest → Continued (text ++ w) (rest ++ w)
continued_before {text} {rest} w h p = record {
  characters = p.characters;
  scalar = p.scalar;
  continuing = p.continuing;
  split = ap (λ v. v ++ w) p.split ∙ append_assoc (encode_utf8_all p.characters) rest w;
  longest = ends_before rest w p.longest h;
}

same_front : (text rest w : List ℕ) → take (length (text ++ w) - length (rest ++ w)) (text ++ w) ≡ take (length text - length rest) text
same_front text rest w =
    let n : length (text ++ w) - length (rest ++ w) ≡ length text - length rest = omega (arith, length-append text w, length-append rest w) in
    ap (λ v. take v (text ++ w)) n ∙ take-append-le (length text - length rest) text w (omega arith)

word_before : (t : Bool) (text rest w : List ℕ) → Front t (text ++ w) (word_kind (take (length (text ++ w) - length (rest ++ w)) (text ++ w))) (rest ++ w) →
    Front t (text ++ w) (word_kind (take (length text - length rest) text)) (rest ++ w)
word_before t text rest w p = subst (λ v. Front t (text ++ w) (word_kind v) (rest ++ w)) (same_front text rest w) p

pub front_before : {t : Bool} {text rest : List ℕ} {k : Kind} (w : List ℕ) → Front t text k rest → is_end k ≡ false → is_apart w ≡ true → Front t (text ++ w) k (rest ++ w)
front_before w Front.end n h = absurd (false≢true (sym n))
front_before w (Front.sign s) n h = Front.sign s
front_before w (Front.assign b c) n h = Front.assign b c
front_before w (Front.colon {rest = rest} b c) n h = Front.colon b (no_equals_before rest w c h)
front_before w (Front.arrow b c) n h = Front.arrow b c
front_before w (Front.hole {rest = rest} p e) n h = Front.hole (character_before w p) (ends_before rest w e h)
front_before {t} w (Front.word {text = text} {rest = rest} p x c) n h = word_before t text rest w (Front.word (character_before w p) x (continued_before w h c))
front_before {t} w (Front.low_word {text = text} {behind = behind} {rest = rest} p c l) n h =
    word_before t text rest w (Front.low_word (character_before w p) (continued_before w h c) (omega (arith, length-append rest w, length-append behind w, l)))

-- No gap stands where a token does.
unlike : (b x : ℕ) (P : ℕ → Bool) → P b ≡ true → P x ≡ false → (b == x) ≡ false
unlike b x P h k =
    let n : b ≡ x → ⊥ = λ e. false≢true (sym k ∙ sym (ap P e) ∙ h) in
    grind (arith, nat_tests)

no_gap_byte : (b : ℕ) (rest : List ℕ) (P : ℕ → Bool) → P b ≡ true → P 32 ≡ false → P 9 ≡ false → P 13 ≡ false → P 35 ≡ false → begins_gap (b ∷ rest) ≡ false
no_gap_byte b rest P h p1 p2 p3 p4 = rw (unlike b 32 P h p1, unlike b 9 P h p2, unlike b 13 P h p3, unlike b 35 P h p4) refl

abbrev is_some : Option Kind → Bool
is_some None = false
is_some (Some k) = true

word_no_gap : {text : List ℕ} → (b : ℕ) × (rest : List ℕ) × (text ≡ b ∷ rest) × (word_byte b ≡ true) → begins_gap text ≡ false
word_no_gap p = rw p.2 (no_gap_byte p.0 p.1 word_byte p.3 refl refl refl refl)

pub no_gap : {t : Bool} {text rest : List ℕ} {k : Kind} → Front t text k rest → is_end k ≡ false → begins_gap text ≡ false
no_gap Front.end n = absurd (false≢true (sym n))
no_gap {t} (Front.sign {b = b} {rest = rest} s) n = no_gap_byte b rest (λ x. is_some (sign_of t x)) (ap is_some s) refl refl refl refl
no_gap (Front.assign b c) n = rw b refl
no_gap (Front.colon b c) n = rw b refl
no_gap (Front.arrow b c) n = rw b refl
no_gap (Front.hole {text = text} {rest = rest} p e) n = word_no_gap (word_begins text rest 95 p (inr refl))
no_gap (Front.word {c = c} {text = text} {behind = behind} p x w) n = word_no_gap (word_begins text behind c p (inl x))
no_gap (Front.low_word {text = text} {behind = behind} p w l) n = word_no_gap (word_begins text behind 95 p (inr refl))
