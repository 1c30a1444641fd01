-- The bytes of a number, by their first.
use Rattle.std.proofs.Common.{◌≡◌, ◌<◌, ◌≤◌, ◌+◌, ◌/◌, ◌%◌, ◌^◌, ℕ, zero, suc, List, [], ◌∷◌, ◌++◌, length, map, get_or, take, Fits, w64, refl, ap, sym, ◌∙◌, subst, arith, inl, inr, lt-ltb, le-ltb, append_assoc}
use Rattle.std.specs.List.{AllByRecursion}
use Rattle.std.proofs.lemmas.List.{append-nil, map-append, take_more}
use Rattle.std.proofs.lemmas.Bool.{cases_lt}
use Rattle.ld_record.proofs.Judged.{all_more}
use Rattle.dr_text.specs.Number.{number_within, number}
use Rattle.dr_text.specs.Spelling.{numbers_bytes}

pub step_low : (f n : ℕ) → n < 128 → number_within (suc f) n ≡ n ∷ []
step_low f n h = rw (lt-ltb n 128 h) refl

pub step_high : (f n : ℕ) → 128 ≤ n → number_within (suc f) n ≡ (n % 128 + 128) ∷ number_within f (n / 128)
step_high f n h = rw (le-ltb n 128 h) refl

-- more room changes nothing
within_any : (f g n : ℕ) → n ≤ f → n ≤ g → number_within f n ≡ number_within g n
within_any zero zero n a b = refl
within_any zero (suc g) n a b = sym (step_low g n (omega arith))
within_any (suc f) zero n a b = step_low f n (omega arith)
within_any (suc f) (suc g) n a b =
    elim (cases_lt n 128) as (λ _. number_within (suc f) n ≡ number_within (suc g) n) [
      | inl low ↦ step_low f n low ∙ sym (step_low g n low)
      | inr high ↦ step_high f n high ∙ ap (λ bytes. (n % 128 + 128) ∷ bytes) (within_any f g (n / 128) (omega arith) (omega arith)) ∙ sym (step_high g n high)
    ]

pub number_low : (n : ℕ) → n < 128 → number n ≡ n ∷ []
unfolding number
number_low zero h = refl
number_low (suc m) h = step_low m (suc m) h

pub number_high : (n : ℕ) → 128 ≤ n → number n ≡ (n % 128 + 128) ∷ number (n / 128)
unfolding number
number_high zero h = absurd (omega arith)
number_high (suc m) h =
    step_high m (suc m) h ∙ ap (λ bytes. (suc m % 128 + 128) ∷ bytes) (within_any m (suc m / 128) (suc m / 128) (omega arith) (omega arith))

-- one number more
pub numbers_bytes-push : (ns : List ℕ) (n : ℕ) → numbers_bytes (ns ++ n ∷ []) ≡ numbers_bytes ns ++ number n
numbers_bytes-push [] n = append-nil (number n)
numbers_bytes-push (m ∷ ns) n = ap (λ bytes. number m ++ bytes) (numbers_bytes-push ns n) ∙ sym (append_assoc (number m) (numbers_bytes ns) (number n))

pub pushed_more : (before so_far later : List ℕ) (ns : List ℕ) (i : ℕ) → i < length ns → so_far ≡ before ++ numbers_bytes (take i ns) → later ≡ so_far ++ number (get_or ns i 0)
    → later ≡ before ++ numbers_bytes (take (i + 1) ns)
pushed_more before so_far later ns i below is more =
    more ∙ ap (λ bytes. bytes ++ number (get_or ns i 0)) is ∙ append_assoc before (numbers_bytes (take i ns)) (number (get_or ns i 0))
    ∙ ap (λ bytes. before ++ bytes) (sym (numbers_bytes-push (take i ns) (get_or ns i 0)) ∙ ap numbers_bytes (sym (take_more ns i 0 below)))

-- the numbers of a slice are in their range
pub each_fits : (ns : List ℕ) → ((i : ℕ) → Fits w64 (get_or ns i 0)) → AllByRecursion (λ n. n < 2 ^ 64) ns
each_fits [] h = tt
each_fits (n ∷ ns) h = (omega (arith, h 0), each_fits ns (λ i. h (suc i)))

-- the same of the numbers of judgements and of equalities
one_more : {X : Type 0} (f : X → ℕ) (xs : List X) (i n : ℕ) (d : X) → i < length xs → n ≡ f (get_or xs i d) → map f (take (i + 1) xs) ≡ map f (take i xs) ++ n ∷ []
one_more f xs i n d below is =
    ap (map f) (take_more xs i d below) ∙ map-append f (take i xs) (get_or xs i d ∷ []) ∙ ap (λ k. map f (take i xs) ++ k ∷ []) (sym is)

pub made_more : {X : Type 0} (f : X → ℕ) (before so_far later : List ℕ) (xs : List X) (i n : ℕ) (d : X) → i < length xs → n ≡ f (get_or xs i d)
    → so_far ≡ before ++ numbers_bytes (map f (take i xs)) → later ≡ so_far ++ number n → later ≡ before ++ numbers_bytes (map f (take (i + 1) xs))
made_more f before so_far later xs i n d below at is more =
    more ∙ ap (λ bytes. bytes ++ number n) is ∙ append_assoc before (numbers_bytes (map f (take i xs))) (number n)
    ∙ ap (λ bytes. before ++ bytes) (sym (numbers_bytes-push (map f (take i xs)) n) ∙ ap numbers_bytes (sym (one_more f xs i n d below at)))

pub made_fit : {X : Type 0} (f : X → ℕ) (xs : List X) (i n : ℕ) (d : X) → i < length xs → n ≡ f (get_or xs i d) → AllByRecursion (λ k. k < 2 ^ 64) (map f (take i xs))
    → n < 2 ^ 64 → AllByRecursion (λ k. k < 2 ^ 64) (map f (take (i + 1) xs))
made_fit f xs i n d below at h last =
    let P : List ℕ → Type 0 = λ ns. AllByRecursion (λ k. k < 2 ^ 64) ns in
    subst P (sym (one_more f xs i n d below at)) (all_more (λ k. k < 2 ^ 64) (map f (take i xs)) n h last)
