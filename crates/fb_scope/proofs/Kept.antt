-- The numbers of flags, as flags are opened and closed and entries are made.
use Rattle.std.proofs.Common.{◌≡◌, ◌<◌, ◌≤◌, ◌+◌, ◌-◌, ℕ, zero, suc, Bool, true, false, ◌==◌, nat_lt, if◌then◌else◌, ◌⊎◌, inl, inr, List, [], ◌∷◌, ◌++◌, length, take, get_or, slice_get, Some, Ok, Err, IfOk, refl, sym, ap, subst, ◌∙◌, arith}
use Rattle.std.proofs.lemmas.Bool.{eqb-true}
use Rattle.std.proofs.lemmas.Bool.Decides.{nat_tests}
use Rattle.std.proofs.lemmas.List.{take-take, take-append-le, length-take-le}
use Rattle.std.proofs.lemmas.List.Folds.{Any-from_list_any}
use Rattle.std.proofs.lemmas.List.Sums.{prefix_len_passes, prefix_len-le-length}
use Rattle.std.proofs.lemmas.Option.{slice_get-get_or}
use Rattle.fb_scope.specs.declared.fault.ScopeFault.{ScopeFault}
use Rattle.fb_scope.specs.declared.resolve.Found.{Found}
use Rattle.fb_scope.specs.State.{State, numbers}
use Rattle.fb_scope.specs.Resolve.{is_open, shared, made_under, as_entry}
use Rattle.fb_scope.specs.Kept.{AreGiven, Agree, IsKept, AreKept, AreImplied}

-- what a front of a list has
get-take : (b : ℕ) (ms : List ℕ) (j n : ℕ) → slice_get (take b ms) j ≡ Some n → (j < b) × (slice_get ms j ≡ Some n)
get-take zero ms j n e = absurd (cc)
get-take (suc b) [] j n e = absurd (cc)
get-take (suc b) (m ∷ ms) zero n e = (omega arith, e)
get-take (suc b) (m ∷ ms) (suc j) n e = let h = get-take b ms j n e in (let l = h.0 in omega arith, h.1)

-- what a list with one more element has
get-push : {A : Type 0} (ms : List A) (o : A) (j : ℕ) (n : A) → slice_get (ms ++ o ∷ []) j ≡ Some n → ((j < length ms) × (slice_get ms j ≡ Some n)) ⊎ ((j ≡ length ms) × (n ≡ o))
get-push [] o zero n e = inr (refl, cc)
get-push [] o (suc j) n e = absurd (cc)
get-push (m ∷ ms) o zero n e = inl (omega arith, e)
get-push (m ∷ ms) o (suc j) n e = elim (get-push ms o j n e) [ inl h ↦ inl (let l = h.0 in omega arith, h.1) | inr h ↦ inr (ap suc h.0, h.1) ]

agree-take : (ns ms : List ℕ) (b : ℕ) → Agree ns ms → Agree ns (take b ms)
agree-take ns ms b agree = λ i j n p q. let h = get-take b ms j n q in let l = h.0 in agree i j n p h.1 ∙ sym (take-take (suc j) b ms (omega arith))

agree-front : (ns ms : List ℕ) (b : ℕ) → Agree ns ms → Agree (take b ns) ms
agree-front ns ms b agree = λ i j n p q. let h = get-take b ns i n p in let l = h.0 in take-take (suc i) b ns (omega arith) ∙ agree i j n h.1 q

-- flags are closed
pub kept-take : (opened : ℕ) (ms : List ℕ) (marks : List (List ℕ)) (b : ℕ) → AreKept opened ms marks → AreKept opened (take b ms) marks
kept-take opened ms marks b kept = record {
  these = record {
    given = λ i n e. kept.these.given i n (get-take b ms i n e).1;
    agree = agree-front ms (take b ms) b (agree-take ms ms b kept.these.agree);
  };
  each = λ k mark e. record { given = (kept.each k mark e).given; agree = agree-take mark ms b (kept.each k mark e).agree };
}

agree-push : (o : ℕ) (ns ms : List ℕ) → AreGiven o ns → Agree ns ms → Agree ns (ms ++ o ∷ [])
agree-push o ns ms given agree = λ i j n p q. elim (get-push ms o j n q) [
  | inl h ↦ let l = h.0 in agree i j n p h.1 ∙ sym (take-append-le (suc j) ms (o ∷ []) (omega arith))
  | inr h ↦ let l = given i n p in let e = h.1 in absurd (omega arith)
]

agree-both : (o : ℕ) (ms : List ℕ) → AreGiven o ms → Agree ms ms → Agree (ms ++ o ∷ []) (ms ++ o ∷ [])
agree-both o ms given agree = λ i j n p q. elim (get-push ms o i n p) [
  | inl a ↦ let l = a.0 in take-append-le (suc i) ms (o ∷ []) (omega arith) ∙ agree-push o ms ms given agree i j n a.1 q
  | inr a ↦ elim (get-push ms o j n q) [
    | inl b ↦ let l = given j n b.1 in let e = a.1 in absurd (omega arith)
    | inr b ↦ ap (λ m. take (suc m) (ms ++ o ∷ [])) (a.0 ∙ sym b.0)
  ]
]

given-later : (o : ℕ) (ns : List ℕ) → AreGiven o ns → AreGiven (o + 1) ns
given-later o ns given = λ i n e. let l = given i n e in omega arith

given-push : (o : ℕ) (ms : List ℕ) → AreGiven o ms → AreGiven (o + 1) (ms ++ o ∷ [])
given-push o ms given = λ i n e. elim (get-push ms o i n e) [ inl h ↦ let l = given i n h.1 in omega arith | inr h ↦ let s = h.1 in omega arith ]

-- a flag is opened
pub kept-push : (opened : ℕ) (ms : List ℕ) (marks : List (List ℕ)) → AreKept opened ms marks → AreKept (opened + 1) (ms ++ opened ∷ []) marks
kept-push opened ms marks kept = record {
  these = record { given = given-push opened ms kept.these.given; agree = agree-both opened ms kept.these.given kept.these.agree };
  each = λ k mark e. record {
    given = given-later opened mark (kept.each k mark e).given;
    agree = agree-push opened mark ms (kept.each k mark e).given (kept.each k mark e).agree;
  };
}

-- an entry is made
pub kept-note : (opened : ℕ) (ms : List ℕ) (marks : List (List ℕ)) → AreKept opened ms marks → AreKept opened ms (marks ++ ms ∷ [])
kept-note opened ms marks kept = record {
  these = kept.these;
  each = λ k mark e. elim (get-push marks ms k mark e) [
    | inl h ↦ kept.each k mark h.1
    | inr h ↦ subst (IsKept opened ms) (sym h.1) kept.these
  ];
}

-- the first flags of an entry that are still open are the first open flags
first_open : (ns ms : List ℕ) (c : ℕ) → Agree ns ms → c ≤ shared ns ms → take c ns ≡ take c ms
first_open ns ms zero agree le = refl
first_open ns ms (suc c) agree le =
    let n = get_or ns c 0 in
    let inside : c < length ns = omega (arith, prefix_len-le-length (is_open ms) ns) in
    let at = Any-from_list_any (λ m. m == n) ms (prefix_len_passes (is_open ms) ns c 0 (omega arith)) in
    let within = at.2 in
    let there : slice_get ms at.0 ≡ Some n = slice_get-get_or ms at.0 at.1 at.2 ∙ ap Some (at.3 ∙ eqb-true at.1 n at.4) in
    let same : take (suc c) ns ≡ take (suc at.0) ms = agree c at.0 n (slice_get-get_or ns c 0 inside) there in
    let long : suc c ≡ suc at.0 = sym (length-take-le (suc c) ns (omega arith)) ∙ ap length same ∙ length-take-le (suc at.0) ms (omega arith) in
    same ∙ ap (λ k. take k ms) (sym long)

by_tests : (b c : Bool) (found : Found) (e f : ScopeFault) (P : Found → Type 0) → (c ≡ false → P found) → IfOk (if b then Err e else if c then Err f else Ok found) P
by_tests true c found e f P h = tt
by_tests false true found e f P h = tt
by_tests false false found e f P h = h refl

not_less : (m n : ℕ) → nat_lt m n ≡ false → n ≤ m
not_less m n e = grind (arith, nat_tests)

pub implied : (s : State) (k given : ℕ) → Agree (made_under s k) (numbers s.flags) → IfOk (as_entry s given (Some k)) (AreImplied s)
implied s k given agree =
    by_tests _ _ _ _ _ (AreImplied s) (λ e. first_open (made_under s k) (numbers s.flags) (length (made_under s k) - given) agree (not_less _ _ e))
