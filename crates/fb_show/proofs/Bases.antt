-- The base is free: no name has its letters before digits. Each name has one number of letters before anything else, so each turn of the
-- search leaves fewer names with as many letters.
use Rattle.std.proofs.Common.{◌≡◌, ℕ, zero, suc, ◌+◌, ◌<◌, ◌≤◌, ◌⊎◌, ⊎_elim, inl, inr, ◌==◌, Bool, true, false, ◌&&◌, ◌||◌, nat_le, if◌then◌else◌, List, [], ◌∷◌, ◌++◌, length, refl, ap, ◌∙◌, sym, subst, arith}
use Rattle.std.specs.Prelude.{replicate, decimal, slice_get, Some, ◌^◌}
use Rattle.std.specs.Char.{is_ascii_digit}
use Rattle.std.specs.Str.{all_ascii_digits}
use Rattle.std.specs.Str.Parse.{AllDigits}
use Rattle.std.proofs.lemmas.Bool.{false≢true, cases_lt}
use Rattle.std.proofs.lemmas.Bool.Decides.{nat_tests}
use Rattle.std.proofs.lemmas.Fmt.{decimal_is_IsNumeral}
use Rattle.std.proofs.lemmas.List.Folds.{list_any_at}
use Rattle.std.proofs.lemmas.Option.{slice_get_within, get_or_from_slice_get}
use Rattle.std.proofs.lemmas.Str.Parse.{digit_from_value}
use Rattle.fb_show.specs.Display.{is_numbered, is_taken, least_free, base_length, base}
use Rattle.fb_show.specs.Laws.{IsLeastFree}

-- how many of the letters a name begins with
abbrev run : ℕ → List ℕ → ℕ
run letter [] = 0
run letter (b ∷ bs) = if b == letter then suc (run letter bs) else 0

abbrev one : Bool → ℕ
one true = 1
one false = 0

-- how many names begin with so many of the letters
abbrev above : (letter n : ℕ) → List (List ℕ) → ℕ
above letter n [] = 0
above letter n (x ∷ xs) = one (nat_le n (run letter x)) + above letter n xs

both_true : (x y : Bool) → (x && y) ≡ true → (x ≡ true) × (y ≡ true)
both_true true true h = (refl, refl)
both_true true false h = absurd (false≢true h)
both_true false y h = absurd (false≢true h)

or_cases : (x y : Bool) → (x || y) ≡ true → (x ≡ true) ⊎ (y ≡ true)
or_cases true y h = inl refl
or_cases false y h = inr h

cases : (x : Bool) → (x ≡ true) ⊎ (x ≡ false)
cases true = inl refl
cases false = inr refl

if_true : {A : Type 0} (c : Bool) (x y : A) → c ≡ true → (if c then x else y) ≡ x
if_true c x y h = rw h refl

if_false : {A : Type 0} (c : Bool) (x y : A) → c ≡ false → (if c then x else y) ≡ y
if_false c x y h = rw h refl

digit_no_letter : (letter d : ℕ) → is_ascii_digit letter ≡ false → is_ascii_digit d ≡ true → (d == letter) ≡ false
digit_no_letter letter d n h = ⊎_elim (λ e. let same : d ≡ letter = grind (arith, nat_tests) in absurd (false≢true (sym n ∙ ap is_ascii_digit (sym same) ∙ h))) (λ e. e) (cases (d == letter))

numbered_run : (letter n : ℕ) (x : List ℕ) → is_ascii_digit letter ≡ false → is_numbered letter n x ≡ true → run letter x ≡ n
numbered_run letter zero [] l h = absurd (false≢true h)
numbered_run letter zero (d ∷ ds) l h = if_false (d == letter) (suc (run letter ds)) 0 (digit_no_letter letter d l (both_true (is_ascii_digit d) (all_ascii_digits ds) h).0)
numbered_run letter (suc n) [] l h = absurd (false≢true h)
numbered_run letter (suc n) (b ∷ bs) l h = let p = both_true (b == letter) (is_numbered letter n bs) h in
    if_true (b == letter) (suc (run letter bs)) 0 p.0 ∙ ap suc (numbered_run letter n bs l p.1)

one_le : (b c : Bool) → (b ≡ true → c ≡ true) → one b ≤ one c
one_le true true h = omega arith
one_le true false h = absurd (false≢true (h refl))
one_le false true h = omega arith
one_le false false h = omega arith

lower : (n m : ℕ) → nat_le (suc n) m ≡ true → nat_le n m ≡ true
lower n m e = grind (arith, nat_tests)

one_less : (n m : ℕ) → one (nat_le (suc n) m) ≤ one (nat_le n m)
one_less n m = one_le (nat_le (suc n) m) (nat_le n m) (lower n m)

one_at : (n m : ℕ) → m ≡ n → one (nat_le (suc n) m) < one (nat_le n m)
one_at n m e = let f : nat_le (suc n) m ≡ false = grind (arith, nat_tests) in let g : nat_le n m ≡ true = grind (arith, nat_tests) in rw (f, g) (omega arith)

above_less : (letter n : ℕ) (xs : List (List ℕ)) → above letter (suc n) xs ≤ above letter n xs
above_less letter n [] = omega arith
above_less letter n (x ∷ xs) = omega (arith, one_less n (run letter x), above_less letter n xs)

taken_less : (letter n : ℕ) (xs : List (List ℕ)) → is_ascii_digit letter ≡ false → is_taken letter n xs ≡ true → above letter (suc n) xs < above letter n xs
taken_less letter n [] l h = absurd (false≢true h)
taken_less letter n (x ∷ xs) l h = ⊎_elim (λ e. omega (arith, one_at n (run letter x) (numbered_run letter n x l e), above_less letter n xs))
    (λ e. omega (arith, one_less n (run letter x), taken_less letter n xs l e)) (or_cases (is_numbered letter n x) (is_taken letter n xs) h)

one_small : (b : Bool) → one b ≤ 1
one_small true = omega arith
one_small false = omega arith

above_all : (letter n : ℕ) (xs : List (List ℕ)) → above letter n xs ≤ length xs
above_all letter n [] = omega arith
above_all letter n (x ∷ xs) = omega (arith, one_small (nat_le n (run letter x)), above_all letter n xs)

least_is_free : (tries letter n : ℕ) (xs : List (List ℕ)) → is_ascii_digit letter ≡ false → above letter n xs ≤ tries → is_taken letter (least_free tries letter n xs) xs ≡ false
least_is_free zero letter n xs l h = ⊎_elim (λ e. absurd (let t = taken_less letter n xs l e in omega (arith, t, h))) (λ e. e) (cases (is_taken letter n xs))
least_is_free (suc tries) letter n xs l h = ⊎_elim
    (λ e. rw e (least_is_free tries letter (suc n) xs l (let t = taken_less letter n xs l e in omega (arith, t, h))))
    (λ e. let f : least_free (suc tries) letter n xs ≡ n = if_false (is_taken letter n xs) (least_free tries letter (suc n) xs) n e in ap (λ v. is_taken letter v xs) f ∙ e)
    (cases (is_taken letter n xs))

base_is_free : (letter : ℕ) (names : List (List ℕ)) → is_ascii_digit letter ≡ false → is_taken letter (base_length letter names) names ≡ false
base_is_free letter names l = least_is_free (length names) letter 1 names l (above_all letter 1 names)

-- each number of letters that the search passed is taken
passed : (tries letter n m : ℕ) (xs : List (List ℕ)) → n ≤ m → m < least_free tries letter n xs → is_taken letter m xs ≡ true
passed zero letter n m xs from to = absurd (omega (arith, from, to))
passed (suc tries) letter n m xs from to = ⊎_elim
    (λ taken. ⊎_elim
    (λ after. passed tries letter (suc n) m xs (omega (arith, after))
    (subst (λ v. m < v) (if_true (is_taken letter n xs) (least_free tries letter (suc n) xs) n taken) to))
    (λ here. let same : n ≡ m = omega (arith, from, here) in ap (λ v. is_taken letter v xs) (sym same) ∙ taken)
    (cases_lt n m))
    (λ free. absurd (let stop : m < n = subst (λ v. m < v) (if_false (is_taken letter n xs) (least_free tries letter (suc n) xs) n free) to in
    omega (arith, from, stop)))
    (cases (is_taken letter n xs))

pub least_at_least : (tries letter n : ℕ) (xs : List (List ℕ)) → n ≤ least_free tries letter n xs
least_at_least zero letter n xs = omega arith
least_at_least (suc tries) letter n xs = ⊎_elim
    (λ e. rw e (let l = least_at_least tries letter (suc n) xs in omega (arith, l))) (λ e. rw e (omega arith)) (cases (is_taken letter n xs))

pub base_is_least : (letter : ℕ) (names : List (List ℕ)) → is_ascii_digit letter ≡ false → IsLeastFree letter names (base_length letter names)
base_is_least letter names l = record {
  some = least_at_least (length names) letter 1 names;
  free = base_is_free letter names l;
  least = λ m from free. ⊎_elim
      (λ before. absurd (false≢true (sym free ∙ passed (length names) letter 1 m names from before)))
      (λ after. after)
      (cases_lt m (base_length letter names));
}

-- digits
digits_are : (ds : List ℕ) → AllDigits 10 ds → all_ascii_digits ds ≡ true
digits_are [] h = refl
digits_are (c ∷ cs) h = let v = digit_from_value c h.0 in let d : is_ascii_digit c ≡ true = grind (arith, nat_tests) in rw d (digits_are cs h.1)

pub decimal_digits : (n : ℕ) → n < 2 ^ 64 → all_ascii_digits (decimal n) ≡ true
decimal_digits n h = digits_are (decimal n) (decimal_is_IsNumeral n h).0.1

some_digits : (letter : ℕ) (ds : List ℕ) → 0 < length ds → all_ascii_digits ds ≡ true → is_numbered letter 0 ds ≡ true
some_digits letter [] some h = absurd (omega (arith, some))
some_digits letter (d ∷ ds) some h = h

same_letter : (letter : ℕ) → (letter == letter) ≡ true
same_letter letter = grind (arith, nat_tests)

letters_numbered : (letter n : ℕ) (ds : List ℕ) → 0 < length ds → all_ascii_digits ds ≡ true → is_numbered letter n (replicate n letter ++ ds) ≡ true
letters_numbered letter zero ds some h = some_digits letter ds some h
letters_numbered letter (suc n) ds some h = rw (same_letter letter) (letters_numbered letter n ds some h)

taken_by : (letter n : ℕ) (xs : List (List ℕ)) (k : ℕ) (x : List ℕ) → slice_get xs k ≡ Some x → is_numbered letter n x ≡ true → is_taken letter n xs ≡ true
taken_by letter n xs k x at h = list_any_at (is_numbered letter n) xs k [] (slice_get_within xs k x at) (rw (get_or_from_slice_get xs k x [] at) h)

-- No name is the base and a number.
pub base_apart : (letter : ℕ) (names : List (List ℕ)) (k j : ℕ) → is_ascii_digit letter ≡ false → j < 2 ^ 64 → slice_get names k ≡ Some (base letter names ++ decimal j) → ⊥
base_apart letter names k j l small at =
    let ds = decimal_is_IsNumeral j small in
    let h = letters_numbered letter (base_length letter names) (decimal j) ds.0.0 (decimal_digits j small) in
    false≢true (sym (base_is_free letter names l) ∙ taken_by letter (base_length letter names) names k (base letter names ++ decimal j) at h)
