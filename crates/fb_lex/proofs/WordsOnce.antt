-- A name ends at one place only, and no sign begins with a byte that begins a word.
use Rattle.std.proofs.Common.{◌≡◌, ℕ, ◌<◌, ◌≤◌, ◌⊎◌, inl, inr, ⊎_elim, ◌==◌, nat_le, Bool, true, false, ◌&&◌, ◌||◌, List, [], ◌∷◌, ◌++◌, length, None, refl, ap, ◌∙◌, sym, arith, append_assoc, length-append}
use Rattle.std.specs.Char.{encode_utf8, is_ascii_alphabetic}
use Rattle.std.specs.Str.{encode_utf8_all, all_scalars}
use Rattle.std.specs.List.{list_all}
use Rattle.std.proofs.lemmas.Bool.{false≢true, cases_lt}
use Rattle.std.proofs.lemmas.Bool.Decides.{nat_tests}
use Rattle.std.proofs.lemmas.Str.{encode_same, char_from_byte, length-encode, len_utf8_bounds}
use Rattle.unicode_ident.specs.Ident.{is_xid_start}
use Rattle.unicode_ident.proofs.IdentLemmas.{is_xid_start-ascii}
use Rattle.fb_lex.specs.Tokens.{BeginsWithCharacter, EndsName, Continued, continues, sign_of}

-- both parts of a test
both : (x y : Bool) → (x && y) ≡ true → (x ≡ true) × (y ≡ true)
both true y h = (refl, h)
both false y h = absurd (false≢true h)

-- the characters that go on with a name end where the rest doesn't go on
same_rest : (xs ys : List ℕ) (text r q : List ℕ) → all_scalars xs ≡ true → list_all continues xs ≡ true → text ≡ encode_utf8_all xs ++ r → EndsName r →
    all_scalars ys ≡ true → list_all continues ys ≡ true → text ≡ encode_utf8_all ys ++ q → EndsName q → r ≡ q
same_rest [] [] text r q a b c d e f g h = sym c ∙ g
same_rest [] (y ∷ ys) text r q a b c d e f g h =
    let begins : BeginsWithCharacter r y (encode_utf8_all ys ++ q) =
    record { scalar = (both _ (all_scalars ys) e).0; split = sym c ∙ g ∙ append_assoc (encode_utf8 y) (encode_utf8_all ys) q } in
    absurd (false≢true (sym (d y _ begins) ∙ (both _ (list_all continues ys) f).0))
same_rest (x ∷ xs) [] text r q a b c d e f g h =
    let begins : BeginsWithCharacter q x (encode_utf8_all xs ++ r) =
    record { scalar = (both _ (all_scalars xs) a).0; split = sym g ∙ c ∙ append_assoc (encode_utf8 x) (encode_utf8_all xs) r } in
    absurd (false≢true (sym (h x _ begins) ∙ (both _ (list_all continues xs) b).0))
same_rest (x ∷ xs) (y ∷ ys) text r q a b c d e f g h =
    let split = encode_same x y (encode_utf8_all xs ++ r) (encode_utf8_all ys ++ q)
    (sym (append_assoc (encode_utf8 x) (encode_utf8_all xs) r) ∙ sym c ∙ g ∙ append_assoc (encode_utf8 y) (encode_utf8_all ys) q) in
    same_rest xs ys (encode_utf8_all ys ++ q) r q (both _ (all_scalars xs) a).1 (both _ (list_all continues xs) b).1 (sym split.1) d
    (both _ (all_scalars ys) e).1 (both _ (list_all continues ys) f).1 refl h

pub continued_once : {text r q : List ℕ} → Continued text r → Continued text q → r ≡ q
continued_once {text} {r} {q} c d = same_rest c.characters d.characters text r q c.scalar c.continuing c.split c.longest d.scalar d.continuing d.split d.longest

-- a byte with which a word may begin
abbrev pub word_byte : ℕ → Bool
word_byte b = nat_le 128 b || (is_ascii_alphabetic b || b == 95)

unlike : (b x : ℕ) → word_byte b ≡ true → word_byte x ≡ false → (b == x) ≡ false
unlike b x h k =
    let n : b ≡ x → ⊥ = λ e. false≢true (sym k ∙ sym (ap word_byte e) ∙ h) in
    grind (arith, nat_tests)

-- no sign of one or two bytes begins with this byte
pub record NoSign (touches : Bool) (b : ℕ) : Type 0 where
  pub one : sign_of touches b ≡ None
  pub colon : (b == 58) ≡ false
  pub minus : (b == 45) ≡ false

pub no_sign : (touches : Bool) (b : ℕ) → word_byte b ≡ true → NoSign touches b
no_sign touches b h = record {
  one = rw (unlike b 124 h refl, unlike b 91 h refl, unlike b 93 h refl, unlike b 40 h refl, unlike b 41 h refl, unlike b 44 h refl, unlike b 46 h refl, unlike b 42 h refl, unlike b 10 h refl) refl;
  colon = unlike b 58 h refl;
  minus = unlike b 45 h refl;
}

large : (b : ℕ) → 128 ≤ b → word_byte b ≡ true
large b h = let e : nat_le 128 b ≡ true = grind (arith, nat_tests) in rw e refl

letter : (b : ℕ) → is_ascii_alphabetic b ≡ true → word_byte b ≡ true
letter b h = by (nat_le 128 b)
  where
    by : (x : Bool) → (x || (is_ascii_alphabetic b || b == 95)) ≡ true
    by true = refl
    by false = rw h refl

ascii_begins : (b c : ℕ) → c ≡ b → b < 128 → (is_xid_start c ≡ true) ⊎ (c ≡ 95) → word_byte b ≡ true
ascii_begins b c e l (inl s) = letter b (sym (is_xid_start-ascii b l) ∙ ap is_xid_start (sym e) ∙ s)
ascii_begins b c e l (inr s) = ap word_byte (sym e ∙ s)

-- where a word begins, there is its first byte
pub word_begins : (text behind : List ℕ) (c : ℕ) → BeginsWithCharacter text c behind → (is_xid_start c ≡ true) ⊎ (c ≡ 95) → (b : ℕ) × (rest : List ℕ) × (text ≡ b ∷ rest) × (word_byte b ≡ true)
word_begins [] behind c p s = absurd (omega (arith, ap length p.split, length-append (encode_utf8 c) behind, length-encode c, len_utf8_bounds c))
word_begins (b ∷ rest) behind c p s =
    (b, rest, refl, ⊎_elim (λ l. ascii_begins b c (char_from_byte (b ∷ rest) behind c p.split l (omega arith)) l s) (λ g. large b g) (cases_lt b 128))
