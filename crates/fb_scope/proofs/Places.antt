-- The place of the first element that passes, in two lists one behind the other.
use Rattle.std.proofs.Common.{◌≡◌, ◌<◌, ◌≤◌, ◌+◌, ℕ, suc, Bool, true, false, not, cond, nat_lt, List, [], ◌∷◌, ◌++◌, length, map, position, Option, Some, None, refl, ap, ◌∙◌, arith}
use Rattle.std.specs.List.{prefix_len}
use Rattle.std.proofs.lemmas.List.{length-append, length-map}
use Rattle.std.proofs.lemmas.List.Sums.{prefix_len-le-length}
use Rattle.std.proofs.lemmas.Option.{cond_some}
use Rattle.std.proofs.lemmas.Bool.Decides.{nat_tests}

-- one more element of a front that passes
abbrev longer : Bool → ℕ → ℕ
longer b n = cond b (1 + n) 0

one_stops : (b : Bool) (m n k : ℕ) → longer b m < suc n → (m < n → k ≡ m) → longer b k ≡ longer b m
one_stops true m n k lt inner = ap (λ i. 1 + i) (inner (omega arith))
one_stops false m n k lt inner = refl

prefix_len-stops : {A : Type 0} (p : A → Bool) (xs ys : List A) → prefix_len p xs < length xs → prefix_len p (xs ++ ys) ≡ prefix_len p xs
prefix_len-stops p [] ys lt = absurd (omega arith)
prefix_len-stops p (x ∷ xs) ys lt = one_stops (p x) (prefix_len p xs) (length xs) (prefix_len p (xs ++ ys)) lt (λ l. prefix_len-stops p xs ys l)

one_passes : (b : Bool) (m n k l : ℕ) → longer b m ≡ suc n → (m ≡ n → k ≡ n + l) → longer b k ≡ suc n + l
one_passes true m n k l all inner = let e : k ≡ n + l = inner (omega arith) in omega arith
one_passes false m n k l all inner = absurd (omega arith)

prefix_len-goes_on : {A : Type 0} (p : A → Bool) (xs ys : List A) → prefix_len p xs ≡ length xs → prefix_len p (xs ++ ys) ≡ length xs + prefix_len p ys
prefix_len-goes_on p [] ys all = omega arith
prefix_len-goes_on p (x ∷ xs) ys all =
    one_passes (p x) (prefix_len p xs) (length xs) (prefix_len p (xs ++ ys)) (prefix_len p ys) all (λ e. prefix_len-goes_on p xs ys e)

prefix_len-map : {A B : Type 0} (p : B → Bool) (f : A → B) (xs : List A) → prefix_len p (map f xs) ≡ prefix_len (λ x. p (f x)) xs
prefix_len-map p f [] = refl
prefix_len-map p f (x ∷ xs) = ap (longer (p (f x))) (prefix_len-map p f xs)

pub position-map : {A B : Type 0} (p : B → Bool) (f : A → B) (xs : List A) → position p (map f xs) ≡ position (λ x. p (f x)) xs
position-map p f xs = λ i. cond (nat_lt (prefix_len-map (λ y. not (p y)) f xs i) (length-map xs f i)) (Some (prefix_len-map (λ y. not (p y)) f xs i)) None

-- the test the other way round
abbrev fails : {A : Type 0} → (A → Bool) → A → Bool
fails p x = not (p x)

-- a place below the length is told as it is, and no other is
abbrev told : (m n : ℕ) → Option ℕ
told m n = cond (nat_lt m n) (Some m) None

test_some : (m n i : ℕ) → told m n ≡ Some i → (m ≡ i) × (m < n)
test_some m n i e = let h = cond_some (nat_lt m n) m i e in let t = h.0 in (h.1, grind (arith, nat_tests))

test_none : (m n : ℕ) → told m n ≡ None → n ≤ m
test_none m n e = grind (arith, nat_tests)

as_some : (m n i : ℕ) → m ≡ i → m < n → told m n ≡ Some i
as_some m n i e lt = grind (arith, nat_tests)

as_none : (m n : ℕ) → n ≤ m → told m n ≡ None
as_none m n le = grind (arith, nat_tests)

-- in the first list
pub found_first : {A : Type 0} (p : A → Bool) (xs ys : List A) (i : ℕ) → position p xs ≡ Some i → position p (xs ++ ys) ≡ Some i
found_first p xs ys i e =
    let h = test_some (prefix_len (fails p) xs) (length xs) i e in
    as_some (prefix_len (fails p) (xs ++ ys)) (length (xs ++ ys)) i (prefix_len-stops (fails p) xs ys h.1 ∙ h.0) (let s = prefix_len-stops (fails p) xs ys h.1 in let l = h.1 in omega (arith, length-append xs ys, s, l))

-- in the second
pub found_later : {A : Type 0} (p : A → Bool) (xs ys : List A) (i : ℕ) → position p xs ≡ None → position p ys ≡ Some i → position p (xs ++ ys) ≡ Some (length xs + i)
found_later p xs ys i e f =
    let all : prefix_len (fails p) xs ≡ length xs = omega (arith, test_none (prefix_len (fails p) xs) (length xs) e, prefix_len-le-length (fails p) xs) in
    let h = test_some (prefix_len (fails p) ys) (length ys) i f in
    let s = prefix_len-goes_on (fails p) xs ys all in
    let at = h.0 in
    let l = h.1 in
    as_some (prefix_len (fails p) (xs ++ ys)) (length (xs ++ ys)) (length xs + i) (omega (arith, s, at)) (omega (arith, length-append xs ys, s, l))

-- in neither
pub found_nowhere : {A : Type 0} (p : A → Bool) (xs ys : List A) → position p xs ≡ None → position p ys ≡ None → position p (xs ++ ys) ≡ None
found_nowhere p xs ys e f =
    let all : prefix_len (fails p) xs ≡ length xs = omega (arith, test_none (prefix_len (fails p) xs) (length xs) e, prefix_len-le-length (fails p) xs) in
    let l = test_none (prefix_len (fails p) ys) (length ys) f in
    let s = prefix_len-goes_on (fails p) xs ys all in
    as_none (prefix_len (fails p) (xs ++ ys)) (length (xs ++ ys)) (omega (arith, length-append xs ys, s, l))
