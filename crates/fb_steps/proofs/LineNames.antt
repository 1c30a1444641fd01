-- A name of an entry that was made under the open flags implies all of them.
use Rattle.std.proofs.Common.{◌≡◌, ◌-◌, ◌+◌, ℕ, zero, suc, List, [], ◌∷◌, ◌++◌, length, ap, append_assoc, arith, refl, subst, ◌∙◌}
use Rattle.std.proofs.lemmas.Bool.Decides.{nat_tests}
use Rattle.std.proofs.lemmas.List.{length-map, length-reverse}
use Rattle.std.specs.List.{list_any, prefix_len}
use Rattle.std.specs.Prelude.{Bool, true, false, ◌==◌, ◌||◌, nat_lt, if◌then◌else◌, Some, Ok, map, slice_get, slice_index_or}
use Rattle.fb_scope.specs.State.{State, numbers}
use Rattle.fb_scope.specs.Resolve.{instance_of, is_open, shared}
use Rattle.fb_scope.specs.declared.resolve.Found.TheVariants.{Const}
use Rattle.fb_steps.specs.Named.{LineNamed}

or_true : (b : Bool) → (b || true) ≡ true
or_true true = refl
or_true false = refl

same_number : (n : ℕ) → (n == n) ≡ true
same_number n = grind (arith, nat_tests)

is_among : (ns : List ℕ) (n : ℕ) (ms : List ℕ) → list_any (λ m. m == n) (ns ++ n ∷ ms) ≡ true
is_among [] n ms = ap (λ b. b || list_any (λ m. m == n) ms) (same_number n)
is_among (x ∷ ns) n ms = ap (λ b. (x == n) || b) (is_among ns n ms) ∙ or_true (x == n)

one_passes : (b : Bool) (k : ℕ) → b ≡ true → (if b then 1 + k else 0) ≡ suc k
one_passes true k e = omega arith
one_passes false k e = absurd (cc)

all_open : (ns ms : List ℕ) → prefix_len (is_open (ns ++ ms)) ms ≡ length ms
all_open ns [] = refl
all_open ns (m ∷ ms) =
    let rest = subst (λ l. prefix_len (is_open l) ms ≡ length ms) (append_assoc ns (m ∷ []) ms) (all_open (ns ++ m ∷ []) ms) in
    one_passes (is_open (ns ++ m ∷ ms) m) (prefix_len (is_open (ns ++ m ∷ ms)) ms) (is_among ns m ms) ∙ ap suc rest

mark_there : (marks : List (List ℕ)) (k : ℕ) (mark : List ℕ) → slice_get marks k ≡ Some mark → slice_index_or marks k [] ≡ mark
mark_there [] k mark h = absurd (cc)
mark_there (x ∷ marks) zero mark h = cc (h)
mark_there (x ∷ marks) (suc k) mark h = mark_there marks k mark h

none_missing : (n m : ℕ) → m ≡ n → nat_lt m (n - 0) ≡ false
none_missing n m e = grind (arith, nat_tests)

none_too_many : (n : ℕ) → nat_lt n 0 ≡ false
none_too_many n = grind (arith, nat_tests)

by_false : {A : Type 0} (b : Bool) (x y : A) → b ≡ false → (if b then x else y) ≡ y
by_false true x y e = absurd (cc)
by_false false x y e = refl

all_implied : (k n m : ℕ) → m ≡ n → instance_of k n m 0 ≡ Ok (Const k n)
all_implied k n m e =
    let whole : n - 0 ≡ n = omega arith in
    by_false (nat_lt n 0) _ _ (none_too_many n) ∙ by_false (nat_lt m (n - 0)) _ _ (none_missing n m e) ∙ ap (λ i. Ok (Const k i)) whole

number_of_flags : (s : State) → length (numbers s.flags) ≡ length s.flags
number_of_flags s = length-reverse (map (λ f. f.number) s.flags) ∙ length-map s.flags (λ f. f.number)

pub line_named : LineNamed
line_named s k h =
    let ns = numbers s.flags in
    ap (λ mark. instance_of k (length mark) (shared mark ns) 0) (mark_there s.marks k ns h)
    ∙ all_implied k (length ns) (shared ns ns) (all_open [] ns)
    ∙ ap (λ n. Ok (Const k n)) (number_of_flags s)
