-- What a test says of a fact, by facts that come to the same.
use Rattle.std.proofs.Common.{◌≡◌, ◌↔◌, Bool, IsTrue, true, false, refl, ℕ, ◌≤◌, nat_le, arith}
use Rattle.std.proofs.lemmas.Bool.Decides.{nat_tests}

pub yes : {P : Type 0} → P → (IsTrue true ↔ P)
yes p = (λ _. p, λ _. refl)

pub no : {P : Type 0} → (P → ⊥) → (IsTrue false ↔ P)
no f = (λ e. absurd (cc), λ p. absurd (f p))

pub through : {b : Bool} {P Q : Type 0} → (IsTrue b ↔ P) → (P → Q) → (Q → P) → (IsTrue b ↔ Q)
through h f g = (λ e. f (h.0 e), λ q. h.1 (g q))

pub no_truth : IsTrue false → ⊥
no_truth e = cc

pub not_so : {b : Bool} {P Q : Type 0} → b ≡ false → (IsTrue b ↔ Q) → (P → Q) → (IsTrue b ↔ P)
not_so e h f = (λ t. absurd (cc), λ p. h.1 (f p))

pub at_most : (x y m : ℕ) → x ≡ y → (IsTrue (nat_le x m) ↔ (y ≤ m))
at_most x y m e = grind (arith, nat_tests)

-- a test that failed, where what is said would have it succeed
pub no_value : {b : Bool} {P : Type 0} → b ≡ false → (P → IsTrue b) → (IsTrue b ↔ P)
no_value e f = (λ t. absurd (cc), f)
