-- The number of the entry of a name, where no two names are the same.
use Rattle.std.proofs.Common.{◌≡◌, ◌<◌, ◌+◌, ℕ, zero, suc, Bool, true, false, not, cond, List, [], ◌∷◌, length, get_or, nat_lt, Option, Some, None, slice_get, Contains, position, refl, sym, ap, ◌∙◌, arith, MatchOption, IfSome}
use Rattle.std.specs.List.{position_or_len}
use Rattle.std.specs.Str.{bytes_eq}
use Rattle.std.proofs.lemmas.Slice.Eq.{bytes_eq-Decides}
use Rattle.std.proofs.lemmas.Bool.Decides.{nat_tests}
use Rattle.std.proofs.lemmas.List.{length-map}
use Rattle.std.proofs.lemmas.Option.{slice_get_within}
use Rattle.ld_env.specs.Named.{Named, names_of, AreNamesDistinct}

passed : (b : Bool) (m : ℕ) → b ≡ true → cond (not b) (1 + m) 0 ≡ 0
passed true m e = refl
passed false m e = cc

failed : (b : Bool) (m : ℕ) → (b ≡ true → ⊥) → cond (not b) (1 + m) 0 ≡ 1 + m
failed true m other = absurd (other refl)
failed false m other = refl

first : (x : List ℕ) (names : List (List ℕ)) (k : ℕ) → slice_get names k ≡ Some x → ((j : ℕ) → slice_get names j ≡ Some x → j ≡ k) → position_or_len (bytes_eq x) names ≡ k
first x [] k e only = absurd (cc)
first x (n ∷ ns) zero e only = let same : x ≡ n = cc in passed (bytes_eq x n) _ ((bytes_eq-Decides x n).1 same)
first x (n ∷ ns) (suc k) e only =
    let other : bytes_eq x n ≡ true → ⊥ = λ t. let here : 0 ≡ suc k = only 0 (ap Some (sym ((bytes_eq-Decides x n).0 t))) in omega arith in
    let later : position_or_len (bytes_eq x) ns ≡ k = first x ns k e (λ j q. let at : suc j ≡ suc k = only (suc j) q in omega arith) in
    failed (bytes_eq x n) _ other ∙ omega (arith, later)

none : (x : List ℕ) (names : List (List ℕ)) → ((k : ℕ) → k < length names → get_or names k x ≡ x → ⊥) → position_or_len (bytes_eq x) names ≡ length names
none x [] free = refl
none x (n ∷ ns) free =
    let other : bytes_eq x n ≡ true → ⊥ = λ t. free 0 (omega arith) (sym ((bytes_eq-Decides x n).0 t)) in
    let later : position_or_len (bytes_eq x) ns ≡ length ns = none x ns (λ k l e. free (suc k) (omega arith) e) in
    failed (bytes_eq x n) _ other ∙ omega (arith, later)

-- where a position is the length there is none, and else there is one
at_end : (m n : ℕ) → m ≡ n → cond (nat_lt m n) (Some m) None ≡ None
at_end m n e = grind (arith, nat_tests)

before_end : (m n k : ℕ) → m ≡ k → k < n → cond (nat_lt m n) (Some m) None ≡ Some k
before_end m n k e l = grind (arith, nat_tests)

-- what `Env::find` says, as a position
pub position_of : (x : List ℕ) (env : List Named) (r : Option ℕ) → AreNamesDistinct env
    → MatchOption r (Contains (names_of env) x → ⊥) (λ k. slice_get (names_of env) k ≡ Some x) → r ≡ position (bytes_eq x) (names_of env)
position_of x env None distinct absent = sym (at_end _ _ (none x (names_of env) (λ k l e. absent (k, l, e))))
position_of x env (Some k) distinct at =
    sym (before_end _ _ k (first x (names_of env) k at (λ j q. distinct j k x q at)) (slice_get_within (names_of env) k x at))

pub within : (x : List ℕ) (env : List Named) (r : Option ℕ)
    → MatchOption r (Contains (names_of env) x → ⊥) (λ k. slice_get (names_of env) k ≡ Some x) → IfSome r (λ k. k < length env)
within x env None absent = tt
within x env (Some k) at =
    let inside : k < length (names_of env) = slice_get_within (names_of env) k x at in
    omega (arith, length-map env (λ n. n.name))
