-- The kinds of words before --.
use Rattle.std.proofs.Common.{◌≡◌, ◌∙◌, ◌<◌, ◌==◌, ℕ, Bool, true, false, refl, sym, ap, ap₂, subst, arith, List, [], ◌∷◌, ◌++◌, length, Option, Some, None, inl, inr, true≢false, codes, IsUtf8, get_or}
use Rattle.std.specs.Prelude.{slice_get}
use Rattle.std.specs.List.{position_or_len, before_first, after_first}
use Rattle.std.specs.Str.{bytes_eq, chars, encode_utf8_all}
use Rattle.std.proofs.lemmas.Bool.{cases_lt}
use Rattle.std.proofs.lemmas.Bool.Decides.{nat_tests}
use Rattle.std.proofs.lemmas.Slice.Eq.{bytes_eq-Decides}
use Rattle.std.proofs.lemmas.List.{take_all}
use Rattle.std.proofs.lemmas.List.Sums.{split_at_first, fails_before_first, passes_at_first}
use Rattle.std.proofs.lemmas.List.Folds.{list_any_none, list_any_at}
use Rattle.std.proofs.lemmas.Str.{IsUtf8-past_char, encodes-chars, encode_ascii}
use Rattle.clap.specs.Lexer.{long_of, short_of, has_byte, name_and_value}
use Rattle.clap.specs.Walk.{Held, Row, Text, Waiting, idle, option, positional, subcommand_met}
use Rattle.clap.specs.Faults.{word_fault, flags_fault, bundle_step_fault, other_fault}
use Rattle.clap.specs.declared.error.kind.ErrorKind.TheVariants as kind
use Rattle.book_top.specs.Words.{is_option}
use Rattle.book_top.proofs.LineWalk.{shape, args, held}

-- `clap` refuses the word, whatever waits
abbrev pub IsRefused : Text → Type 0
IsRefused word = (pending : Option (Text × List Text)) (rows : List Row) (waiting : Waiting) → word_fault shape [] false waiting word (held pending rows) ≡ [] → ⊥

pub data Kind (word : Text) : Type 0 where
  plain : is_option word ≡ false → Kind word
  dashes : word ≡ codes "--" → Kind word
  budget : word ≡ codes "--budget" → Kind word
  joined : (text : Text) → word ≡ codes "--budget=" ++ text → Kind word
  refused : IsRefused word → Kind word

abbrev is_equals : ℕ → Bool
is_equals x = x == 61

cut : (xs : Text) → has_byte 61 xs ≡ true → xs ≡ before_first (λ x. x == 61) xs ++ (61 ∷ after_first (λ x. x == 61) xs)
cut xs e =
    let lt : position_or_len is_equals xs < length xs = elim (cases_lt (position_or_len is_equals xs) (length xs)) [
      | inl l ↦ l
      | inr ge ↦ absurd (true≢false (sym e ∙ list_any_none is_equals xs (λ k d l. fails_before_first is_equals xs k d (omega arith))))
    ] in
    let hit = passes_at_first is_equals xs 0 lt in
    let is : get_or xs (position_or_len is_equals xs) 0 ≡ 61 = grind (arith, nat_tests) in
    split_at_first is_equals xs 0 lt ∙ ap (λ c. before_first is_equals xs ++ (c ∷ after_first is_equals xs)) is

whole : (xs : Text) → has_byte 61 xs ≡ false → before_first (λ x. x == 61) xs ≡ xs
whole xs e = elim (cases_lt (position_or_len is_equals xs) (length xs)) [
  | inl lt ↦ absurd (true≢false (sym (list_any_at is_equals xs (position_or_len is_equals xs) 0 lt (passes_at_first is_equals xs 0 lt)) ∙ e))
  | inr ge ↦ take_all (position_or_len is_equals xs) xs ge
]

no_subcommand : (waiting : Waiting) (word : Text) → subcommand_met [] waiting word ≡ None
no_subcommand idle word = refl
no_subcommand (option id) word = refl
no_subcommand positional word = refl

is_45 : (b : ℕ) → (b == 45) ≡ true → b ≡ 45
is_45 b e = grind (arith, nat_tests)

-- ---- `--name`

module _ (x : ℕ) (xs : Text) where
  unknown : bytes_eq (codes "budget") (name_and_value (x ∷ xs)).0 ≡ false → IsRefused (45 ∷ 45 ∷ x ∷ xs)
  unknown other pending rows waiting e =
      let is : word_fault shape [] false waiting (45 ∷ 45 ∷ x ∷ xs) (held pending rows) ≡ kind.UnknownArgument ∷ [] =
      ap (λ o. other_fault shape o (45 ∷ 45 ∷ x ∷ xs) (held pending rows)) (no_subcommand waiting (45 ∷ 45 ∷ x ∷ xs)) ∙ rw other refl in
      let none : kind.UnknownArgument ∷ [] ≡ [] = sym is ∙ e in
      cc

  known : (b : Bool) → has_byte 61 (x ∷ xs) ≡ b → codes "budget" ≡ before_first (λ c. c == 61) (x ∷ xs) → Kind (45 ∷ 45 ∷ x ∷ xs)
  known true e is = joined (after_first (λ c. c == 61) (x ∷ xs)) (ap (λ t. 45 ∷ 45 ∷ t) (cut (x ∷ xs) e ∙ ap (λ n. n ++ (61 ∷ after_first (λ c. c == 61) (x ∷ xs))) (sym is)))
  known false e is = budget (ap (λ t. 45 ∷ 45 ∷ t) (sym (is ∙ whole (x ∷ xs) e)))

  long : (b : Bool) → bytes_eq (codes "budget") (name_and_value (x ∷ xs)).0 ≡ b → Kind (45 ∷ 45 ∷ x ∷ xs)
  long true e = known (has_byte 61 (x ∷ xs)) refl ((bytes_eq-Decides _ _).0 e)
  long false e = refused (unknown e)

double : (rest : Text) → Kind (45 ∷ 45 ∷ rest)
double [] = dashes refl
double (x ∷ xs) = long x xs (bytes_eq (codes "budget") (name_and_value (x ∷ xs)).0) refl

-- ---- `-a`

some_char : (c : ℕ) (bs : Text) → IsUtf8 (c ∷ bs) → (x : ℕ) × (slice_get (chars (c ∷ bs)) 0 ≡ Some x)
some_char c bs u = go (chars (c ∷ bs)) (encodes-chars (c ∷ bs) u)
  where
    go : (cs : Text) → encode_utf8_all cs ≡ c ∷ bs → (x : ℕ) × (slice_get cs 0 ≡ Some x)
    go [] e = cc
    go (x ∷ cs) e = (x, refl)

flags_refused : (c : ℕ) (bs : Text) (rows : Held) → IsUtf8 (c ∷ bs) → flags_fault args false (length (c ∷ bs)) (c ∷ bs) 0 rows ≡ kind.UnknownArgument ∷ []
unfolding flags_fault
flags_refused c bs h u =
    let first = some_char c bs u in
    ap (λ o. bundle_step_fault args false o (c ∷ bs) 0 h (flags_fault args false (length bs))) first.1

single : (c : ℕ) (bs : Text) → (c == 45) ≡ false → IsUtf8 (45 ∷ c ∷ bs) → IsRefused (45 ∷ c ∷ bs)
single c bs other u pending rows waiting e =
    let u' : IsUtf8 (c ∷ bs) = IsUtf8-past_char (45 ∷ c ∷ bs) (c ∷ bs) 45 u (ap (λ e. e ++ (c ∷ bs)) (sym (encode_ascii 45 (omega arith)))) in
    let no_dashes : bytes_eq (45 ∷ c ∷ bs) (45 ∷ 45 ∷ []) ≡ false = rw other refl in
    let no_long : long_of (45 ∷ c ∷ bs) ≡ None = rw other refl in
    let is_short : short_of (45 ∷ c ∷ bs) ≡ Some (c ∷ bs) = rw other refl in
    let is : word_fault shape [] false waiting (45 ∷ c ∷ bs) (held pending rows) ≡ kind.UnknownArgument ∷ [] =
    ap (λ o. other_fault shape o (45 ∷ c ∷ bs) (held pending rows)) (no_subcommand waiting (45 ∷ c ∷ bs)) ∙ rw (no_dashes, no_long, is_short) (flags_refused c bs (held pending rows) u') in
    let none : kind.UnknownArgument ∷ [] ≡ [] = sym is ∙ e in
    cc

pub kind_of : (word : Text) → IsUtf8 word → Kind word
kind_of [] u = plain refl
kind_of (b ∷ []) u = plain refl
kind_of (b ∷ c ∷ bs) u = go (b == 45) refl (c == 45) refl
  where
    go : (s : Bool) → (b == 45) ≡ s → (t : Bool) → (c == 45) ≡ t → Kind (b ∷ c ∷ bs)
    go false e t f = plain e
    go true e true f =
        let both : 45 ∷ 45 ∷ bs ≡ b ∷ c ∷ bs = ap₂ (λ x y. x ∷ y ∷ bs) (sym (is_45 b e)) (sym (is_45 c f)) in
        subst Kind both (double bs)
    go true e false f =
        let one : b ∷ c ∷ bs ≡ 45 ∷ c ∷ bs = ap (λ x. x ∷ c ∷ bs) (is_45 b e) in
        subst Kind (sym one) (refused (single c bs f (subst IsUtf8 one u)))
