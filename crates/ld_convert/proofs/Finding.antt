-- How a pair is found among those that are known.
use Rattle.std.proofs.Common.{◌≡◌, suc, Bool, true, false, cond, ◌&&◌, ◌||◌, nat_eq, List, [], ◌∷◌, ◌++◌, length, All, None, Some, Result, Ok, Err, OnOk, OnErr, inl, inr, refl, sym, ap, ◌∙◌, arith, true≢false}
use Rattle.std.proofs.lemmas.Bool.Decides.{nat_tests}
use Rattle.std.proofs.lemmas.List.Elements.{All-head, All-tail}
use Rattle.std.specs.Map.{lookup}
use Rattle.ld_terms.specs.Item.{Item}
use Rattle.ld_terms.specs.Bank.{tree_at, IsTermAt, AreOnce}
use Rattle.ld_terms.specs.declared.bank.TermId.{TermId}
use Rattle.ld_terms.proofs.Nodes.{one_from_tree}
use Rattle.ld_terms.proofs.TreeTests.{equal_trees, other_trees}
use Rattle.ld_record.specs.declared.record.EqId.{EqId}
use Rattle.ld_convert.specs.Known.{is_known}
use Rattle.ld_convert.specs.Pairs.{pairs_of, pairs_in, has_pair, HasTerms, IsFound, IsKeptWith}
use Rattle.ld_convert.specs.declared.known.Pair.{Pair}
use Rattle.fb_base.specs.declared.texts.NoMemory.{NoMemory}

abbrev pub Entries : Type 0
Entries = List ((TermId × TermId) × EqId)

-- whether a key is the pair of these numbers
abbrev pub is_pair : (a b : TermId) → TermId × TermId → Bool
is_pair a b k = nat_eq a.0 k.0.0 && nat_eq b.0 k.1.0

-- the test by which a map compares its keys
abbrev pub is_key : TermId × TermId → TermId × TermId → Bool
is_key k = is_pair k.0 k.1

by_test : {C : Type 0} (b : Bool) → (b ≡ true → C) → (b ≡ false → C) → C
by_test true passes fails = passes refl
by_test false passes fails = fails refl

both_true : (s t r : Bool) → s ≡ true → t ≡ true → ((s && t) || r) ≡ true
both_true s t r e f = cc

first_false : (s t r : Bool) → s ≡ false → ((s && t) || r) ≡ r
first_false s t r e = cc

second_false : (s t r : Bool) → t ≡ false → ((s && t) || r) ≡ r
second_false true t r e = cc
second_false false t r e = refl

later_true : (s r : Bool) → r ≡ true → (s || r) ≡ true
later_true true r e = refl
later_true false r e = e

later_false : (s r : Bool) → (s || r) ≡ false → r ≡ false
later_false true r e = absurd (true≢false e)
later_false false r e = e

same_number : (s t : TermId) → nat_eq s.0 t.0 ≡ true → s ≡ t
same_number s t e = let n : s.0 ≡ t.0 = grind (arith, nat_tests) in ap (λ k. record { 0 = k }) n

other_number : (s t : TermId) → nat_eq s.0 t.0 ≡ false → s ≡ t → ⊥
other_number s t e same = let n : s.0 ≡ t.0 = ap (λ k. k.0) same in grind (arith, nat_tests)

both_numbers : (a b : TermId) (k : TermId × TermId) → is_pair a b k ≡ true → (nat_eq a.0 k.0.0 ≡ true) × (nat_eq b.0 k.1.0 ≡ true)
both_numbers a b k e = (first _ _ e, second _ _ e)
  where
    first : (s t : Bool) → (s && t) ≡ true → s ≡ true
    first true t h = refl
    first false t h = h

    second : (s t : Bool) → (s && t) ≡ true → t ≡ true
    second true t h = h
    second false t h = absurd (true≢false (sym h))

-- where numbers of equal terms are equal, so are those of terms with one tree
term_once : (items : List Item) (s t : TermId) → AreOnce items → IsTermAt items s → IsTermAt items t → tree_at items s ≡ tree_at items t → s ≡ t
term_once items s t once p q e = (once s t p.live q.live).1 (one_from_tree _ _ p.form q.form e)

-- the first entry, as a look-up passes it
passed : (a b : TermId) (e : (TermId × TermId) × EqId) (es : Entries) → is_pair a b e.0 ≡ false → lookup (is_pair a b) (e ∷ es) ≡ lookup (is_pair a b) es
passed a b e es t = ap (λ c. cond c (Some e.1) (lookup (is_pair a b) es)) t

met : (a b : TermId) (e : (TermId × TermId) × EqId) (es : Entries) → is_pair a b e.0 ≡ true → lookup (is_pair a b) (e ∷ es) ≡ Some e.1
met a b e es t = ap (λ c. cond c (Some e.1) (lookup (is_pair a b) es)) t

-- a pair that is found
pub found_pair : (items : List Item) (es : Entries) (a b : TermId) (v : EqId) → lookup (is_pair a b) es ≡ Some v → IsFound items (pairs_in es) (tree_at items a) (tree_at items b) v
found_pair items [] a b v h = absurd (cc)
found_pair items (e ∷ es) a b v h =
    by_test (is_pair a b e.0)
    (λ t.
    let numbers = both_numbers a b e.0 t in
    let left : tree_at items e.0.0 ≡ tree_at items a = ap (tree_at items) (sym (same_number a e.0.0 numbers.0)) in
    let right : tree_at items e.0.1 ≡ tree_at items b = ap (tree_at items) (sym (same_number b e.0.1 numbers.1)) in
    let value : Some e.1 ≡ Some v = sym (met a b e es t) ∙ h in
    record {
      known = both_true _ _ _ (equal_trees _ _ left) (equal_trees _ _ right);
      number = 0;
      pair = record { left = e.0.0; right = e.0.1; equal = e.1 };
      there = refl;
      left = left;
      right = right;
      equal = cc;
    })
    (λ t.
    let r = found_pair items es a b v (sym (passed a b e es t) ∙ h) in
    record { known = later_true _ _ r.known; number = suc r.number; pair = r.pair; there = r.there; left = r.left; right = r.right; equal = r.equal })

-- and one that isn't
pub none_known : (items : List Item) (es : Entries) (a b : TermId) → AreOnce items → All (HasTerms items) (pairs_in es) → IsTermAt items a → IsTermAt items b → lookup (is_pair a b) es ≡ None
    → is_known (pairs_of items (pairs_in es)) (tree_at items a) (tree_at items b) ≡ false
none_known items [] a b once all p q none = refl
none_known items (e ∷ es) a b once all p q none =
    by_test (is_pair a b e.0)
    (λ t. let no : None ≡ Some e.1 = sym none ∙ met a b e es t in absurd (cc))
    (λ t.
    let here : Pair = record { left = e.0.0; right = e.0.1; equal = e.1 } in
    let terms : HasTerms items here = All-head (HasTerms items) here (pairs_in es) all in
    let rest = none_known items es a b once (All-tail (HasTerms items) here (pairs_in es) all) p q (sym (passed a b e es t) ∙ none) in
    by_test (nat_eq a.0 e.0.0.0)
    (λ one.
    let two : nat_eq b.0 e.0.1.0 ≡ false = sym (ap (λ c. c && nat_eq b.0 e.0.1.0) one) ∙ t in
    second_false _ _ _ (other_trees _ _ (λ same. other_number b e.0.1 two (sym (term_once items e.0.1 b once terms.right q same)))) ∙ rest)
    (λ one. first_false _ _ _ (other_trees _ _ (λ same. other_number a e.0.0 one (sym (term_once items e.0.0 a once terms.left p same)))) ∙ rest))

-- the numbers of a pair that isn't known aren't there
pub not_there : (items : List Item) (ps : List Pair) (a b : TermId) → is_known (pairs_of items ps) (tree_at items a) (tree_at items b) ≡ false → has_pair ps a b ≡ false
not_there items [] a b h = refl
not_there items (p ∷ ps) a b h =
    by_test (is_pair a b (p.left, p.right))
    (λ t.
    let numbers = both_numbers a b (p.left, p.right) t in
    let left : tree_at items p.left ≡ tree_at items a = ap (tree_at items) (sym (same_number a p.left numbers.0)) in
    let right : tree_at items p.right ≡ tree_at items b = ap (tree_at items) (sym (same_number b p.right numbers.1)) in
    absurd (true≢false (sym (both_true _ _ _ (equal_trees _ _ left) (equal_trees _ _ right)) ∙ h)))
    (λ t. ap (λ c. c || has_pair ps a b) t ∙ not_there items ps a b (later_false _ _ h))

pub free_in : (es : Entries) (a b : TermId) → has_pair (pairs_in es) a b ≡ false → lookup (is_pair a b) es ≡ None
free_in [] a b h = refl
free_in (e ∷ es) a b h =
    by_test (is_pair a b e.0)
    (λ t. absurd (true≢false (sym (ap (λ c. c || has_pair (pairs_in es) a b) t) ∙ h)))
    (λ t. passed a b e es t ∙ free_in es a b (later_false _ _ h))

pub pairs_in-push : (es : Entries) (e : (TermId × TermId) × EqId) → pairs_in (es ++ e ∷ []) ≡ pairs_in es ++ record { left = e.0.0; right = e.0.1; equal = e.1 } ∷ []
pairs_in-push [] e = refl
pairs_in-push (x ∷ es) e = ap (λ ps. record { left = x.0.0; right = x.0.1; equal = x.1 } ∷ ps) (pairs_in-push es e)

pub length-pairs_in : (es : Entries) → length (pairs_in es) ≡ length es
length-pairs_in [] = refl
length-pairs_in (e ∷ es) = ap suc (length-pairs_in es)

-- what adding a pair leaves
pub kept_with : (old new : List Pair) (p : Pair) (result : Result (Unit {0}) NoMemory) → OnOk result (new ≡ old ++ p ∷ []) → OnErr result (new ≡ old) → IsKeptWith old new p
kept_with old new p (Ok x) h k = inr h
kept_with old new p (Err x) h k = inl k
