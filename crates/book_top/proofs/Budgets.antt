-- From the text of a number to a budget.
use Rattle.std.proofs.Common.{◌≡◌, ◌∙◌, ◌≤◌, ◌==◌, ℕ, false, sym, refl, ap, subst, arith, List, [], ◌∷◌, length, Option, Some, None}
use Rattle.std.specs.Borrow.{Bor}
use Rattle.std.specs.Prelude.{slice_index}
use Rattle.std.specs.Str.Parse.{IsNumeral, digits_value, without_leading_plus}
use Rattle.book_top.specs.Words.{HasBudget, default, stated, listed}

pub none_given : (text : Option (Bor (List ℕ))) → text ≡ None → HasBudget (listed text) 1_000_000
none_given text is = subst (λ o. HasBudget (listed o) 1_000_000) (sym is) default

pub no_plus : (bs : List ℕ) → (slice_index bs 0 == 43) ≡ false → without_leading_plus bs ≡ bs
no_plus bs other = rw other refl

pub some_given : (text : Option (Bor (List ℕ))) (some : Bor (List ℕ)) (n : ℕ) → text ≡ Some some → length some.now ≤ 10 → (slice_index some.now 0 == 43) ≡ false
    → IsNumeral 10 (without_leading_plus some.now) → n ≡ digits_value 10 (without_leading_plus some.now) → n ≤ 1_000_000_000 → HasBudget (listed text) n
some_given text some n is short other numeral value small =
    let same = no_plus some.now other in
    let n_is : n ≡ digits_value 10 some.now = value ∙ ap (digits_value 10) same in
    subst (λ o. HasBudget (listed o) n) (sym is)
    (subst (HasBudget (some.now ∷ [])) (sym n_is)
    (stated (record { digits = subst (IsNumeral 10) same numeral; short = short; small = omega (arith, n_is) })))
