-- Many numbers at the front of bytes.
use Rattle.std.proofs.Common.{◌≡◌, ◌<◌, ◌≤◌, ◌+◌, ◌-◌, ◌^◌, ℕ, List, [], ◌∷◌, ◌++◌, length, take, drop, refl, ap, sym, ◌∙◌, subst, arith, append_assoc, length-append}
use Rattle.std.proofs.Math.Seq.{take-append_seam, drop-append_seam}
use Rattle.std.specs.List.{AllByRecursion}
use Rattle.dr_text.specs.Number.{number}
use Rattle.dr_text.specs.Spelling.{numbers_bytes}
use Rattle.dr_text.specs.Read.{BeginsNoNumber, BeginsWith, BeginsTooFew, Spells}
use Rattle.dr_text.proofs.Numbers.{numbers_bytes-push}
use Rattle.dr_text.proofs.Reading.{one_number}

-- behind some numbers the others of so many are left
pub record AreLeft (rest : List ℕ) (count place : ℕ) (tail : List ℕ) : Type 0 where
  pub ms : List ℕ
  pub left : length ms + place ≡ count
  pub begins : BeginsWith rest ms tail

-- so many numbers at the front are read, and where they all stand there, the others stand in the rest
pub record ReadsSome (bytes rest : List ℕ) (count place : ℕ) : Type 0 where
  pub read : List ℕ
  pub so_many : length read ≡ place
  pub begins : BeginsWith bytes read rest
  pub back : (ns tail : List ℕ) → length ns ≡ count → BeginsWith bytes ns tail → AreLeft rest count place tail

pub some_none : (bytes : List ℕ) (count : ℕ) → ReadsSome bytes bytes count 0
some_none bytes count = record {
  read = [];
  so_many = refl;
  begins = record { small = tt; is = refl };
  back = λ ns tail h begins. record { ms = ns; left = omega (arith, h); begins = begins };
}

small_more : (ns : List ℕ) (n : ℕ) → AllByRecursion (λ n. n < 2 ^ 64) ns → n < 2 ^ 64 → AllByRecursion (λ n. n < 2 ^ 64) (ns ++ n ∷ [])
small_more [] n h small = (small, tt)
small_more (m ∷ ns) n h small = (h.0, small_more ns n h.1 small)

left_more : (rest : List ℕ) (count place : ℕ) (tail : List ℕ) (n : ℕ) (behind : List ℕ) → place < count → rest ≡ number n ++ behind → AreLeft rest count place tail → AreLeft behind count (place + 1) tail
left_more rest count place tail n behind below is left =
    elim left.ms as (λ ms. length ms + place ≡ count → BeginsWith rest ms tail → AreLeft behind count (place + 1) tail) [
      | [] ↦ λ h b. absurd (omega (arith, h))
      | m ∷ ms ↦ λ h b.
          let one = one_number n m behind (numbers_bytes ms ++ tail) (sym is ∙ b.is ∙ append_assoc (number m) (numbers_bytes ms) tail) in
          record { ms = ms; left = omega (arith, h); begins = record { small = b.small.1; is = one.1 } }
    ] left.left left.begins

pub some_more : (bytes rest : List ℕ) (count place n : ℕ) (behind : List ℕ) → place < count → n < 2 ^ 64 → rest ≡ number n ++ behind → ReadsSome bytes rest count place → ReadsSome bytes behind count (place + 1)
some_more bytes rest count place n behind below small is some = record {
  read = some.read ++ n ∷ [];
  so_many = length-append some.read (n ∷ []) ∙ ap (λ x. x + 1) some.so_many;
  begins = record {
    small = small_more some.read n some.begins.small small;
    is = some.begins.is ∙ ap (λ xs. numbers_bytes some.read ++ xs) is ∙ sym (append_assoc (numbers_bytes some.read) (number n) behind)
        ∙ ap (λ xs. xs ++ behind) (sym (numbers_bytes-push some.read n));
  };
  back = λ ns tail h begins. left_more rest count place tail n behind below is (some.back ns tail h begins);
}

pub some_nowhere : (bytes rest : List ℕ) (count place : ℕ) → place < count → BeginsNoNumber rest → ReadsSome bytes rest count place → BeginsTooFew count bytes
some_nowhere bytes rest count place below none some ns tail h begins =
    let left = some.back ns tail h begins in
    elim left.ms as (λ ms. length ms + place ≡ count → BeginsWith rest ms tail → ⊥) [
      | [] ↦ λ h b. omega (arith, h)
      | m ∷ ms ↦ λ h b. none m (numbers_bytes ms ++ tail) b.small.0 (b.is ∙ append_assoc (number m) (numbers_bytes ms) tail)
    ] left.left left.begins

-- The bytes before a rest.
pub front_of : (bytes xs rest : List ℕ) → bytes ≡ xs ++ rest → take (length bytes - length rest) bytes ≡ xs
front_of bytes xs rest is =
    let long : length bytes ≡ length xs + length rest = ap length is ∙ length-append xs rest in
    let so_many : length bytes - length rest ≡ length xs = omega (arith, long) in
    ap (λ n. take n bytes) so_many ∙ ap (take (length xs)) is ∙ take-append_seam xs rest

pub back_of : (bytes xs rest : List ℕ) → bytes ≡ xs ++ rest → drop (length bytes - length rest) bytes ≡ rest
back_of bytes xs rest is =
    let long : length bytes ≡ length xs + length rest = ap length is ∙ length-append xs rest in
    let so_many : length bytes - length rest ≡ length xs = omega (arith, long) in
    ap (λ n. drop n bytes) so_many ∙ ap (drop (length xs)) is ∙ drop-append_seam xs rest

pub no_longer : (bytes xs rest : List ℕ) → bytes ≡ xs ++ rest → length rest ≤ length bytes
no_longer bytes xs rest is = omega (arith, ap length is, length-append xs rest)

pub some_all : (bytes rest front behind : List ℕ) (count place : ℕ) → place ≡ count → front ≡ take (length bytes - length rest) bytes → behind ≡ drop (length bytes - length rest) bytes
    → ReadsSome bytes rest count place → Spells count bytes front behind
some_all bytes rest front behind count place all front_is behind_is some =
    let same : rest ≡ behind = sym (behind_is ∙ back_of bytes (numbers_bytes some.read) rest some.begins.is) in
    record {
      ns = some.read;
      so_many = some.so_many ∙ all;
      begins = subst (BeginsWith bytes some.read) same some.begins;
      spelled = front_is ∙ front_of bytes (numbers_bytes some.read) rest some.begins.is;
    }
