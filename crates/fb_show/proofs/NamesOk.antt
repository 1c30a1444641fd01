-- The name of a level is one Name token: it begins with x, which no reserved word does.
use Rattle.std.proofs.Common.{◌≡◌, ℕ, zero, suc, ◌-◌, ◌<◌, ◌≤◌, ◌==◌, Bool, true, false, ◌&&◌, ◌||◌, List, [], ◌∷◌, ◌++◌, length, refl, ◌∙◌, subst, arith}
use Rattle.std.specs.Prelude.{decimal, replicate, ◌^◌}
use Rattle.std.specs.Char.{is_ascii_alphanumeric, is_ascii_digit}
use Rattle.std.specs.Str.{all_ascii_digits, byte}
use Rattle.std.proofs.lemmas.Bool.{false≢true}
use Rattle.std.proofs.lemmas.Bool.Decides.{nat_tests}
use Rattle.std.proofs.lemmas.List.{take_all}
use Rattle.unicode_ident.proofs.IdentLemmas.{is_xid_start-ascii, is_xid_continue-ascii}
use Rattle.fb_lex.specs.declared.tokens.Kind.TheVariants as k
use Rattle.fb_lex.specs.Tokens.{Continued, word_kind, Front, IsName}
use Rattle.fb_lex.proofs.Characters.{continued_none, continued_more}
use Rattle.fb_write.proofs.Ahead.{ends_apart}
use Rattle.fb_write.proofs.Words.{ascii_begins}
use Rattle.fb_show.specs.Display.{base_length, level_name}
use Rattle.fb_show.proofs.Bases.{decimal_digits, least_at_least}

letter : (c : ℕ) {text : List ℕ} → c < 128 → (is_ascii_alphanumeric c || c == 95) ≡ true → Continued text [] → Continued (c ∷ text) []
letter c {text} l h w = continued_more (ascii_begins c text l) (rw (is_xid_continue-ascii c l, h) refl) w

both_true : (x y : Bool) → (x && y) ≡ true → (x ≡ true) × (y ≡ true)
both_true true true h = (refl, refl)
both_true true false h = absurd (false≢true h)
both_true false y h = absurd (false≢true h)

digit_low : (d : ℕ) → is_ascii_digit d ≡ true → d < 128
digit_low d h = grind (arith, nat_tests)

digit_goes_on : (d : ℕ) → is_ascii_digit d ≡ true → (is_ascii_alphanumeric d || d == 95) ≡ true
digit_goes_on d h = rw h refl

digits_continued : (ds : List ℕ) → all_ascii_digits ds ≡ true → Continued ds []
digits_continued [] h = continued_none (ends_apart [] refl)
digits_continued (d ∷ ds) h = let p = both_true (is_ascii_digit d) (all_ascii_digits ds) h in letter d (digit_low d p.0) (digit_goes_on d p.0) (digits_continued ds p.1)

letters_continued : (n : ℕ) (ds : List ℕ) → all_ascii_digits ds ≡ true → Continued (replicate n 120 ++ ds) []
letters_continued zero ds h = digits_continued ds h
letters_continued (suc n) ds h = letter 120 (omega arith) refl (letters_continued n ds h)

no_word : (text : List ℕ) → word_kind (120 ∷ text) ≡ k.Name
no_word text = refl

pub numbered_front : (n : ℕ) (ds : List ℕ) → 0 < n → all_ascii_digits ds ≡ true → Front false (replicate n 120 ++ ds) k.Name []
numbered_front zero ds l h = absurd (omega (arith, l))
numbered_front (suc n) ds l h =
    let text = replicate n 120 ++ ds in
    subst (λ v. Front false (120 ∷ text) (word_kind v) []) (take_all (length (120 ∷ text) - 0) (120 ∷ text) (omega arith))
    (Front.word (ascii_begins 120 text (omega arith)) (is_xid_start-ascii 120 (omega arith) ∙ refl) (letters_continued n ds h))

pub level_is_name : (names : List (List ℕ)) (i : ℕ) → suc i < 2 ^ 64 → length (level_name names i) ≤ 255 → IsName (level_name names i)
level_is_name names i l short = record {
  front = numbered_front (base_length (byte "x") names) (decimal (suc i)) (let m = least_at_least (length names) (byte "x") 1 names in omega (arith, m)) (decimal_digits (suc i) l);
  short = short;
}
