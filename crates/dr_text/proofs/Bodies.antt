-- The parts of a record, by its shape.
use Rattle.std.proofs.Common.{◌≡◌, ◌<◌, ◌≤◌, ◌-◌, ◌^◌, ℕ, List, [], ◌∷◌, ◌++◌, length, take, drop, refl, ap, sym, ◌∙◌, subst, arith, append_assoc, length-append}
use Rattle.std.proofs.lemmas.List.{append-nil, take-append-drop}
use Rattle.std.proofs.Math.Seq.{drop-append_seam}
use Rattle.std.specs.List.{AllByRecursion}
use Rattle.ld_terms.specs.Rule.{counted}
use Rattle.dr_text.specs.Number.{number}
use Rattle.dr_text.specs.Spelling.{numbers_bytes}
use Rattle.dr_text.specs.Read.{BeginsNoNumber, BeginsTooFew, Spells}
use Rattle.dr_text.specs.Shapes.{Begins, BeginsNothing, AreParts}
use Rattle.dr_text.specs.declared.shape.Shape.TheVariants.{Plain, Counted, Named}
use Rattle.dr_text.proofs.Reading.{one_number, one_numbers}
use Rattle.dr_text.proofs.Splitting.{front_of}

abbrev AreSmall : List ℕ → Type 0
AreSmall = AllByRecursion (λ n. n < 2 ^ 64)

all_front : (P : ℕ → Type 0) (xs ys : List ℕ) → AllByRecursion P (xs ++ ys) → AllByRecursion P xs
all_front P [] ys h = tt
all_front P (x ∷ xs) ys h = (h.0, all_front P xs ys h.1)

all_back : (P : ℕ → Type 0) (xs ys : List ℕ) → AllByRecursion P (xs ++ ys) → AllByRecursion P ys
all_back P [] ys h = h
all_back P (x ∷ xs) ys h = all_back P xs ys h.1

small_front : (xs ys : List ℕ) → AreSmall (xs ++ ys) → AreSmall xs
small_front = all_front (λ n. n < 2 ^ 64)

small_back : (xs ys : List ℕ) → AreSmall (xs ++ ys) → AreSmall ys
small_back = all_back (λ n. n < 2 ^ 64)

-- the bytes of a part are bytes
pub bytes_of_part : (bytes front named : List ℕ) (len : ℕ) (name : List ℕ) → AllByRecursion (λ b. b < 256) bytes → bytes ≡ front ++ named → name ≡ take len named → AllByRecursion (λ b. b < 256) name
bytes_of_part bytes front named len name all is name_is =
    let All : List ℕ → Type 0 = AllByRecursion (λ b. b < 256) in
    let behind : All named = all_back (λ b. b < 256) front named (subst All is all) in
    subst All (sym name_is) (all_front (λ b. b < 256) (take len named) (drop len named) (subst All (sym (take-append-drop len named)) behind))

small_both : (xs ys : List ℕ) → AreSmall xs → AreSmall ys → AreSmall (xs ++ ys)
small_both [] ys h k = k
small_both (x ∷ xs) ys h k = (h.0, small_both xs ys h.1 k)

pub numbers_bytes-append : (ns ms : List ℕ) → numbers_bytes (ns ++ ms) ≡ numbers_bytes ns ++ numbers_bytes ms
numbers_bytes-append [] ms = refl
numbers_bytes-append (n ∷ ns) ms = ap (λ bytes. number n ++ bytes) (numbers_bytes-append ns ms) ∙ sym (append_assoc (number n) (numbers_bytes ns) (numbers_bytes ms))

-- nothing stands between the numbers and the rest
pub no_name : (front name behind rest : List ℕ) → name ≡ [] → behind ≡ [] → front ++ (name ++ (numbers_bytes behind ++ rest)) ≡ front ++ rest
no_name front name behind rest e f =
    ap (λ x. front ++ (x ++ (numbers_bytes behind ++ rest))) e ∙ ap (λ x. front ++ (numbers_bytes x ++ rest)) f

-- Plain records.
pub parts_plain : (count : ℕ) (bytes before name behind rest : List ℕ) → Spells count bytes before rest → name ≡ [] → behind ≡ [] → AreParts (Plain count) bytes before name behind rest
parts_plain count bytes before name behind rest s e f = record {
  numbers = s.ns;
  others = [];
  before_is = s.spelled;
  behind_is = f;
  begins = record {
    fits = (s.so_many, e, refl);
    small = subst AreSmall (sym (append-nil s.ns)) s.begins.small;
    name_bytes = subst (AllByRecursion (λ b. b < 256)) (sym e) tt;
    is = s.begins.is ∙ sym (no_name (numbers_bytes s.ns) name [] rest e refl);
  };
}

pub no_plain : (count : ℕ) (bytes : List ℕ) → BeginsTooFew count bytes → BeginsNothing (Plain count) bytes
no_plain count bytes none before name behind rest b =
    none before rest b.fits.0 (record {
      small = small_front before behind b.small;
      is = b.is ∙ no_name (numbers_bytes before) name behind rest b.fits.1 b.fits.2;
    })

-- Records with a count.
record WithCount (front : ℕ) (bytes rest : List ℕ) : Type 0 where
  first : List ℕ
  others : List ℕ
  so_many : length first ≡ front
  first_small : AreSmall first
  count_small : length others < 2 ^ 64
  others_small : AreSmall others
  is : bytes ≡ numbers_bytes first ++ (number (length others) ++ (numbers_bytes others ++ rest))

pub spelled_count : (first others rest : List ℕ) → numbers_bytes (first ++ counted others) ++ rest ≡ numbers_bytes first ++ (number (length others) ++ (numbers_bytes others ++ rest))
spelled_count first others rest =
    ap (λ x. x ++ rest) (numbers_bytes-append first (counted others)) ∙ append_assoc (numbers_bytes first) (numbers_bytes (counted others)) rest
    ∙ ap (λ x. numbers_bytes first ++ x) (append_assoc (number (length others)) (numbers_bytes others) rest)

with_count : (front : ℕ) (bytes before name behind rest : List ℕ) → Begins (Counted front) bytes before name behind rest → WithCount front bytes rest
with_count front bytes before name behind rest b =
    let c = b.fits.0 in
    let small : AreSmall (c.first ++ counted c.others) = subst AreSmall c.is (small_front before behind b.small) in
    let back : AreSmall (counted c.others) = small_back c.first (counted c.others) small in
    record {
      first = c.first;
      others = c.others;
      so_many = c.so_many;
      first_small = small_front c.first (counted c.others) small;
      count_small = back.0;
      others_small = back.1;
      is = b.is ∙ no_name (numbers_bytes before) name behind rest b.fits.1 b.fits.2 ∙ ap (λ x. numbers_bytes x ++ rest) c.is ∙ spelled_count c.first c.others rest;
    }

pub parts_counted : (front count : ℕ) (bytes first counts others second rest before name behind : List ℕ) → Spells front bytes first counts → counts ≡ number count ++ others → count < 2 ^ 64
    → Spells count others second rest → before ≡ take (length bytes - length rest) bytes → name ≡ [] → behind ≡ [] → AreParts (Counted front) bytes before name behind rest
parts_counted front count bytes first counts others second rest before name behind s is small t before_is e f =
    let all = s.ns ++ counted t.ns in
    let same : number count ++ (numbers_bytes t.ns ++ rest) ≡ number (length t.ns) ++ (numbers_bytes t.ns ++ rest) =
    ap (λ n. number n ++ (numbers_bytes t.ns ++ rest)) (sym t.so_many) in
    let whole : bytes ≡ numbers_bytes all ++ rest =
    s.begins.is ∙ ap (λ x. numbers_bytes s.ns ++ x) (is ∙ ap (λ x. number count ++ x) t.begins.is ∙ same) ∙ sym (spelled_count s.ns t.ns rest) in
    record {
      numbers = all;
      others = [];
      before_is = before_is ∙ front_of bytes (numbers_bytes all) rest whole;
      behind_is = f;
      begins = record {
        fits = (record { first = s.ns; others = t.ns; so_many = s.so_many; is = refl }, e, refl);
        small = subst AreSmall (sym (append-nil all)) (small_both s.ns (counted t.ns) s.begins.small (omega (arith, t.so_many), t.begins.small));
        name_bytes = subst (AllByRecursion (λ b. b < 256)) (sym e) tt;
        is = whole ∙ sym (no_name (numbers_bytes all) name [] rest e refl);
      };
    }

pub no_first : (front : ℕ) (bytes : List ℕ) → BeginsTooFew front bytes → BeginsNothing (Counted front) bytes
no_first front bytes none before name behind rest b =
    let w = with_count front bytes before name behind rest b in
    none w.first (number (length w.others) ++ (numbers_bytes w.others ++ rest)) w.so_many (record { small = w.first_small; is = w.is })

-- what stands behind the first numbers
behind_first : (front : ℕ) (bytes first counts rest : List ℕ) → Spells front bytes first counts → (w : WithCount front bytes rest)
    → counts ≡ number (length w.others) ++ (numbers_bytes w.others ++ rest)
behind_first front bytes first counts rest s w =
    (one_numbers s.ns w.first counts _ (s.so_many ∙ sym w.so_many) (sym s.begins.is ∙ w.is)).1

pub no_count : (front : ℕ) (bytes first counts : List ℕ) → Spells front bytes first counts → BeginsNoNumber counts → BeginsNothing (Counted front) bytes
no_count front bytes first counts s none before name behind rest b =
    let w = with_count front bytes before name behind rest b in
    none (length w.others) (numbers_bytes w.others ++ rest) w.count_small (behind_first front bytes first counts rest s w)

pub no_others : (front count : ℕ) (bytes first counts others : List ℕ) → Spells front bytes first counts → counts ≡ number count ++ others → BeginsTooFew count others → BeginsNothing (Counted front) bytes
no_others front count bytes first counts others s is none before name behind rest b =
    let w = with_count front bytes before name behind rest b in
    let one = one_number count (length w.others) others (numbers_bytes w.others ++ rest) (sym is ∙ behind_first front bytes first counts rest s w) in
    none w.others rest (sym one.0) (record { small = w.others_small; is = one.1 })

-- Records with a name.
named_is : (bytes before name behind rest : List ℕ) → Begins Named bytes before name behind rest → bytes ≡ number (length name) ++ (name ++ (numbers_bytes behind ++ rest))
named_is bytes before name behind rest b =
    b.is ∙ ap (λ x. numbers_bytes x ++ (name ++ (numbers_bytes behind ++ rest))) b.fits.0
    ∙ ap (λ x. x ++ (name ++ (numbers_bytes behind ++ rest))) (append-nil (number (length name)))

length_small : (bytes before name behind rest : List ℕ) → Begins Named bytes before name behind rest → length name < 2 ^ 64
length_small bytes before name behind rest b =
    let small : AreSmall (length name ∷ []) = subst AreSmall b.fits.0 (small_front before behind b.small) in small.0

pub parts_named : (len : ℕ) (bytes named name others behind rest before : List ℕ) → bytes ≡ number len ++ named → len ≤ length named → len < 2 ^ 64
    → name ≡ take len named → length name ≡ len → others ≡ drop len named → AllByRecursion (λ b. b < 256) name → Spells 1 others behind rest
    → before ≡ take (length bytes - length named) bytes → AreParts Named bytes before name behind rest
parts_named len bytes named name others behind rest before is within small name_is long others_is name_bytes s before_is =
    let split : named ≡ name ++ (numbers_bytes s.ns ++ rest) =
    sym (take-append-drop len named) ∙ ap (λ x. x ++ drop len named) (sym name_is) ∙ ap (λ x. name ++ x) (sym others_is ∙ s.begins.is) in
    record {
      numbers = len ∷ [];
      others = s.ns;
      before_is = before_is ∙ front_of bytes (number len) named is ∙ sym (append-nil (number len));
      behind_is = s.spelled;
      begins = record {
        fits = (ap (λ n. n ∷ []) (sym long), s.so_many);
        small = (small, s.begins.small);
        name_bytes = name_bytes;
        is = is ∙ ap (λ x. number len ++ x) split ∙ ap (λ x. x ++ (name ++ (numbers_bytes s.ns ++ rest))) (sym (append-nil (number len)));
      };
    }

pub no_length : (bytes : List ℕ) → BeginsNoNumber bytes → BeginsNothing Named bytes
no_length bytes none before name behind rest b =
    none (length name) (name ++ (numbers_bytes behind ++ rest)) (length_small bytes before name behind rest b) (named_is bytes before name behind rest b)

pub short_name : (len : ℕ) (bytes named : List ℕ) → bytes ≡ number len ++ named → length named < len → BeginsNothing Named bytes
short_name len bytes named is short before name behind rest b =
    let one = one_number len (length name) named (name ++ (numbers_bytes behind ++ rest)) (sym is ∙ named_is bytes before name behind rest b) in
    omega (arith, one.0, ap length one.1, length-append name (numbers_bytes behind ++ rest))

pub no_behind : (len : ℕ) (bytes named others : List ℕ) → bytes ≡ number len ++ named → others ≡ drop len named → BeginsTooFew 1 others → BeginsNothing Named bytes
no_behind len bytes named others is others_is none before name behind rest b =
    let one = one_number len (length name) named (name ++ (numbers_bytes behind ++ rest)) (sym is ∙ named_is bytes before name behind rest b) in
    none behind rest b.fits.1 (record {
      small = small_back before behind b.small;
      is = others_is ∙ ap (λ n. drop n named) one.0 ∙ ap (drop (length name)) one.1 ∙ drop-append_seam name (numbers_bytes behind ++ rest);
    })
