-- Numbers are read one way, and which numbers stand at the front of bytes.
use Rattle.std.proofs.Common.{inl, inr, Option, Some, None, MatchOption, add-one, ◌≡◌, ◌<◌, ◌≤◌, ◌+◌, ◌-◌, ◌*◌, ◌/◌, ◌%◌, ◌^◌, ℕ, zero, suc, List, [], ◌∷◌, ◌++◌, length, refl, ap, sym, ◌∙◌, subst, arith, lt-ltb, le-ltb, append_assoc}
use Rattle.std.proofs.lemmas.List.{append_cancel_left}
use Rattle.std.proofs.lemmas.Bool.{cases_lt}
use Rattle.std.proofs.lemmas.Nat.{mul-le}
use Rattle.dr_text.specs.Number.{number_within, number}
use Rattle.dr_text.specs.Spelling.{numbers_bytes}
use Rattle.dr_text.specs.Read.{numbers_from, numbers_in, GoesOn, GoesOnNowhere, BeginsNoNumber}
use Rattle.dr_text.proofs.Numbers.{number_low, number_high, step_low, step_high}

-- One byte is read.
from_low : (v s b : ℕ) (bytes : List ℕ) → b < 128 → numbers_from v s (b ∷ bytes) ≡ (v + s * b) ∷ numbers_from 0 1 bytes
from_low v s b bytes h = rw (lt-ltb b 128 h) refl

from_high : (v s b : ℕ) (bytes : List ℕ) → 128 ≤ b → numbers_from v s (b ∷ bytes) ≡ numbers_from (v + s * (b - 128)) (s * 128) bytes
from_high v s b bytes h = rw (le-ltb b 128 h) refl

regroup : (v s n r q : ℕ) → n ≡ r + 128 * q → v + s * (r + 128 - 128) + s * 128 * q ≡ v + s * n
regroup v s n r q e =
    let same : r + 128 - 128 ≡ r = omega arith in
    ap (λ x. v + s * x + s * 128 * q) same ∙ (let sum : v + s * r + s * 128 * q ≡ v + s * (r + 128 * q) = omega arith in sum) ∙ ap (λ x. v + s * x) (sym e)

from_number : (room n v s : ℕ) (rest : List ℕ) → n ≤ room → numbers_from v s (number_within room n ++ rest) ≡ (v + s * n) ∷ numbers_from 0 1 rest
from_number zero n v s rest h = from_low v s n rest (omega arith)
from_number (suc room) n v s rest h =
    elim (cases_lt n 128) as (λ _. numbers_from v s (number_within (suc room) n ++ rest) ≡ (v + s * n) ∷ numbers_from 0 1 rest) [
      | inl low ↦ ap (λ bytes. numbers_from v s (bytes ++ rest)) (step_low room n low) ∙ from_low v s n rest low
      | inr high ↦
          ap (λ bytes. numbers_from v s (bytes ++ rest)) (step_high room n high)
          ∙ from_high v s (n % 128 + 128) (number_within room (n / 128) ++ rest) (omega arith)
          ∙ from_number room (n / 128) (v + s * (n % 128 + 128 - 128)) (s * 128) rest (omega arith)
          ∙ ap (λ x. x ∷ numbers_from 0 1 rest) (regroup v s n (n % 128) (n / 128) (omega arith))
    ]

-- the first of the numbers that bytes spell
pub first_number : (n : ℕ) (rest : List ℕ) → numbers_in (number n ++ rest) ≡ n ∷ numbers_in rest
unfolding number numbers_in
first_number n rest = from_number n n 0 1 rest (omega arith) ∙ ap (λ x. x ∷ numbers_from 0 1 rest) (omega arith)

pub none_spelled : numbers_in [] ≡ []
unfolding numbers_in
none_spelled = refl

pub all_numbers : (ns : List ℕ) → numbers_in (numbers_bytes ns) ≡ ns
all_numbers [] = none_spelled
all_numbers (n ∷ ns) = first_number n (numbers_bytes ns) ∙ ap (λ xs. n ∷ xs) (all_numbers ns)

pub one_number : (n m : ℕ) (a b : List ℕ) → number n ++ a ≡ number m ++ b → (n ≡ m) × (a ≡ b)
one_number n m a b h =
    let e : n ∷ numbers_in a ≡ m ∷ numbers_in b = sym (first_number n a) ∙ ap numbers_in h ∙ first_number m b in
    let same : n ≡ m = cc in
    (same, append_cancel_left (number n) a b (h ∙ ap (λ k. number k ++ b) (sym same)))

-- as many numbers are read one way
pub one_numbers : (ns ms a b : List ℕ) → length ns ≡ length ms → numbers_bytes ns ++ a ≡ numbers_bytes ms ++ b → (ns ≡ ms) × (a ≡ b)
one_numbers [] [] a b l h = (refl, h)
one_numbers [] (m ∷ ms) a b l h = absurd (omega (arith, l))
one_numbers (n ∷ ns) [] a b l h = absurd (omega (arith, l))
one_numbers (n ∷ ns) (m ∷ ms) a b l h =
    let one = one_number n m (numbers_bytes ns ++ a) (numbers_bytes ms ++ b)
    (sym (append_assoc (number n) (numbers_bytes ns) a) ∙ h ∙ append_assoc (number m) (numbers_bytes ms) b) in
    let others = one_numbers ns ms a b (omega (arith, l)) one.1 in
    let head : n ≡ m = one.0 in
    let tail : ns ≡ ms = others.0 in
    (cc, others.1)

-- The first byte of a number says whether it is the last.
pub split_low : (b h : ℕ) (behind tail : List ℕ) → b < 128 → b ∷ behind ≡ number h ++ tail → (h ≡ b) × (behind ≡ tail)
split_low b h behind tail low e =
    elim (cases_lt h 128) [
      | inl small ↦
          let same : b ∷ behind ≡ h ∷ tail = e ∙ ap (λ bytes. bytes ++ tail) (number_low h small) in
          let first : h ≡ b = cc in
          let others : behind ≡ tail = cc in
          (first, others)
      | inr high ↦
          let same : b ∷ behind ≡ (h % 128 + 128) ∷ (number (h / 128) ++ tail) = e ∙ ap (λ bytes. bytes ++ tail) (number_high h high) in
          let first : b ≡ h % 128 + 128 = cc in
          absurd (omega arith)
    ]

pub split_high : (b h : ℕ) (behind tail : List ℕ) → 128 ≤ b → b ∷ behind ≡ number h ++ tail → (h ≡ (b - 128) + 128 * (h / 128)) × (0 < h / 128) × (behind ≡ number (h / 128) ++ tail)
split_high b h behind tail more e =
    elim (cases_lt h 128) [
      | inl small ↦
          let same : b ∷ behind ≡ h ∷ tail = e ∙ ap (λ bytes. bytes ++ tail) (number_low h small) in
          let first : b ≡ h = cc in
          absurd (omega arith)
      | inr high ↦
          let same : b ∷ behind ≡ (h % 128 + 128) ∷ (number (h / 128) ++ tail) = e ∙ ap (λ bytes. bytes ++ tail) (number_high h high) in
          let first : b ≡ h % 128 + 128 = cc in
          let others : behind ≡ number (h / 128) ++ tail = cc in
          (omega arith, omega arith, others)
    ]

pub no_bytes : (bytes : List ℕ) (h : ℕ) (tail : List ℕ) → length bytes ≡ 0 → bytes ≡ number h ++ tail → ⊥
no_bytes (b ∷ bytes) h tail none e = omega (arith, none)
no_bytes [] h tail none e =
    elim (cases_lt h 128) [
      | inl small ↦ let same : [] ≡ h ∷ tail = e ∙ ap (λ bytes. bytes ++ tail) (number_low h small) in cc
      | inr high ↦ let same : [] ≡ (h % 128 + 128) ∷ (number (h / 128) ++ tail) = e ∙ ap (λ bytes. bytes ++ tail) (number_high h high) in cc
    ]

pub join_high : (r h : ℕ) → r < 128 → 0 < h → number (r + 128 * h) ≡ (r + 128) ∷ number h
join_high r h low positive =
    let n = r + 128 * h in
    let rem : n % 128 ≡ r = omega arith in
    let quot : n / 128 ≡ h = omega arith in
    number_high n (omega arith) ∙ ap (λ x. (x + 128) ∷ number (n / 128)) rem ∙ ap (λ x. (r + 128) ∷ number x) quot

-- how much the bits count that one more byte gives
abbrev pub power : ℕ → ℕ
power zero = 1
power (suc k) = power k * 128

pub power_small : (k : ℕ) → k ≤ 8 → power k ≤ 2 ^ 56
power_small zero h = omega arith
power_small (suc zero) h = omega arith
power_small (suc (suc zero)) h = omega arith
power_small (suc (suc (suc zero))) h = omega arith
power_small (suc (suc (suc (suc zero)))) h = omega arith
power_small (suc (suc (suc (suc (suc zero))))) h = omega arith
power_small (suc (suc (suc (suc (suc (suc zero)))))) h = omega arith
power_small (suc (suc (suc (suc (suc (suc (suc zero))))))) h = omega arith
power_small (suc (suc (suc (suc (suc (suc (suc (suc zero)))))))) h = omega arith
power_small (suc (suc (suc (suc (suc (suc (suc (suc (suc k))))))))) h = absurd (omega (arith, h))

-- the bytes read so far and what stands in the rest are the same number
pub record ReadsOn (low : ℕ) (bytes : List ℕ) (value scale : ℕ) (rest : List ℕ) : Type 0 where
  pub here : (n : ℕ) (tail : List ℕ) → GoesOn value scale rest n tail → GoesOn low 128 bytes n tail
  pub back : (n : ℕ) (tail : List ℕ) → GoesOn low 128 bytes n tail → GoesOn value scale rest n tail

pub reads_none : (low : ℕ) (bytes : List ℕ) → ReadsOn low bytes low 128 bytes
reads_none low bytes = record { here = λ n tail g. g; back = λ n tail g. g }

pub reads_byte : (low : ℕ) (bytes : List ℕ) (v s : ℕ) (rest : List ℕ) (b : ℕ) (behind : List ℕ) → rest ≡ b ∷ behind → 128 ≤ b → b < 256
    → ReadsOn low bytes v s rest → ReadsOn low bytes (v + s * (b - 128)) (s * 128) behind
reads_byte low bytes v s rest b behind is more less on = record {
  here = λ n tail g. on.here n tail (record {
    high = (b - 128) + 128 * g.high;
    positive = omega (arith, g.positive);
    value = g.value ∙ (let sum : v + s * (b - 128) + s * 128 * g.high ≡ v + s * ((b - 128) + 128 * g.high) = omega arith in sum);
    is = is ∙ (let same : b ≡ (b - 128) + 128 = omega arith in ap (λ x. x ∷ behind) same) ∙ ap (λ xs. ((b - 128) + 128) ∷ xs) g.is
        ∙ ap (λ xs. xs ++ tail) (sym (join_high (b - 128) g.high (omega arith) g.positive));
  });
  back = λ n tail g.
      let was = on.back n tail g in
      let parts = split_high b was.high behind tail more (sym is ∙ was.is) in
      record {
        high = was.high / 128;
        positive = parts.1;
        value = was.value ∙ ap (λ x. v + s * x) parts.0 ∙ (let sum : v + s * ((b - 128) + 128 * (was.high / 128)) ≡ v + s * (b - 128) + s * 128 * (was.high / 128) = omega arith in sum);
        is = parts.2;
      };
}

pub reads_end : (low : ℕ) (bytes : List ℕ) (v s : ℕ) (rest : List ℕ) (b : ℕ) (behind : List ℕ) → rest ≡ b ∷ behind → 0 < b → b < 128
    → ReadsOn low bytes v s rest → GoesOn low 128 bytes (v + s * b) behind
reads_end low bytes v s rest b behind is some less on =
    on.here (v + s * b) behind (record { high = b; positive = some; value = refl; is = is ∙ ap (λ xs. xs ++ behind) (sym (number_low b less)) })

pub reads_no_byte : (low : ℕ) (bytes : List ℕ) (v s : ℕ) (rest : List ℕ) → length rest ≡ 0 → ReadsOn low bytes v s rest → GoesOnNowhere low 128 bytes
reads_no_byte low bytes v s rest none on n tail small g = let was = on.back n tail g in no_bytes rest was.high tail none was.is

pub reads_zero : (low : ℕ) (bytes : List ℕ) (v s : ℕ) (rest : List ℕ) (b : ℕ) (behind : List ℕ) → rest ≡ b ∷ behind → b ≡ 0
    → ReadsOn low bytes v s rest → GoesOnNowhere low 128 bytes
reads_zero low bytes v s rest b behind is zero_is on n tail small g =
    let was = on.back n tail g in
    let parts = split_low b was.high behind tail (omega arith) (sym is ∙ was.is) in
    omega (arith, parts.0, was.positive)

pub reads_last : (low : ℕ) (bytes : List ℕ) (v s : ℕ) (rest behind : List ℕ) → s ≡ 2 ^ 63 → rest ≡ 1 ∷ behind
    → ReadsOn low bytes v s rest → GoesOn low 128 bytes (v + 2 ^ 63) behind
reads_last low bytes v s rest behind top is on =
    let g = reads_end low bytes v s rest 1 behind is (omega arith) (omega arith) on in
    let same : v + s * 1 ≡ v + 2 ^ 63 = omega arith in
    subst (λ x. GoesOn low 128 bytes x behind) same g

pub reads_no_last : (low : ℕ) (bytes : List ℕ) (v s : ℕ) (rest : List ℕ) → s ≡ 2 ^ 63 → ((tail : List ℕ) → rest ≡ 1 ∷ tail → ⊥)
    → ReadsOn low bytes v s rest → GoesOnNowhere low 128 bytes
reads_no_last low bytes v s rest top none on n tail small g =
    let was = on.back n tail g in
    let value : n ≡ v + 2 ^ 63 * was.high = was.value ∙ ap (λ x. v + x * was.high) top in
    let one : was.high ≡ 1 = omega (arith, was.positive) in
    none tail (was.is ∙ ap (λ x. number x ++ tail) one ∙ ap (λ xs. xs ++ tail) (number_low 1 (omega arith)))

-- a product fits
pub product_fits : (s b : ℕ) → s ≤ 2 ^ 56 → b < 128 → s * b < 2 ^ 63
product_fits s b small less = let most : s * b ≤ 2 ^ 56 * 127 = mul-le s b (2 ^ 56) 127 small (omega arith) in omega (arith, most)

pub sum_below : (v s b : ℕ) → v < s → b < 256 → v + s * (b - 128) < s * 128
sum_below v s b below less = let most : s * (b - 128) ≤ s * 127 = mul-le s (b - 128) s 127 (omega arith) (omega arith) in omega (arith, most)

power_more : (p : ℕ) → power (p + 1) ≡ power p * 128
power_more p = ap power (add-one p)

pub scale_small : (s p : ℕ) → s ≡ power p → p < 9 → s ≤ 2 ^ 56
scale_small s p e h = omega (arith, e, power_small p (omega (arith, h)))

pub scale_more : (s p : ℕ) → s ≡ power p → s * 128 ≡ power (p + 1)
scale_more s p e = ap (λ x. x * 128) e ∙ sym (power_more p)

pub scale_top : (s p : ℕ) → s ≡ power p → p ≡ 9 → s ≡ 2 ^ 63
scale_top s p e h = e ∙ ap power h

-- what an answer says, says something else
pub answered : {A : Type 0} (r : Option A) (P P' : Type 0) (Q Q' : A → Type 0) → (P → P') → ((x : A) → Q x → Q' x) → MatchOption r P Q → MatchOption r P' Q'
answered None P P' Q Q' f g h = f h
answered (Some x) P P' Q Q' f g h = g x h

-- A number by its first byte.
pub first_low : (b : ℕ) (behind : List ℕ) (bytes : List ℕ) → bytes ≡ b ∷ behind → b < 128 → bytes ≡ number b ++ behind
first_low b behind bytes is low = is ∙ ap (λ xs. xs ++ behind) (sym (number_low b low))

pub first_high : (b : ℕ) (behind bytes : List ℕ) (n : ℕ) (rest : List ℕ) → bytes ≡ b ∷ behind → 128 ≤ b → b < 256 → GoesOn (b - 128) 128 behind n rest → bytes ≡ number n ++ rest
first_high b behind bytes n rest is more less g =
    is ∙ (let same : b ≡ (b - 128) + 128 = omega arith in ap (λ x. x ∷ behind) same) ∙ ap (λ xs. ((b - 128) + 128) ∷ xs) g.is
    ∙ ap (λ xs. xs ++ rest) (sym (join_high (b - 128) g.high (omega arith) g.positive) ∙ ap number (sym g.value))

pub first_nowhere : (b : ℕ) (behind bytes : List ℕ) → bytes ≡ b ∷ behind → 128 ≤ b → GoesOnNowhere (b - 128) 128 behind → BeginsNoNumber bytes
first_nowhere b behind bytes is more none n rest small e =
    let parts = split_high b n behind rest more (sym is ∙ e) in
    none n rest small (record { high = n / 128; positive = parts.1; value = parts.0; is = parts.2 })
