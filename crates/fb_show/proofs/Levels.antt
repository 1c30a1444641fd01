-- The names of levels differ from each other and from the entries', so each stands for its variable.
use Rattle.std.proofs.Common.{◌≡◌, ℕ, suc, ◌<◌, ◌⊎◌, ⊎_elim, inl, inr, Bool, true, false, List, [], ◌∷◌, ◌++◌, Some, refl, arith}
use Rattle.std.specs.Prelude.{decimal, slice_get, ◌^◌}
use Rattle.std.specs.Str.{bytes_eq, byte}
use Rattle.std.proofs.lemmas.Slice.Eq.{bytes_eq-Decides}
use Rattle.std.proofs.lemmas.Fmt.{decimal_injective}
use Rattle.fb_show.specs.Display.{base, level_name}
use Rattle.fb_show.proofs.Bases.{base_apart}

append_left : (xs ys zs : List ℕ) → xs ++ ys ≡ xs ++ zs → ys ≡ zs
append_left [] ys zs e = e
append_left (x ∷ xs) ys zs e = append_left xs ys zs (cc e)

pub levels_differ : (names : List (List ℕ)) (i j : ℕ) → suc i < 2 ^ 64 → suc j < 2 ^ 64 → level_name names i ≡ level_name names j → i ≡ j
levels_differ names i j li lj e =
    let s : suc i ≡ suc j = decimal_injective (suc i) (suc j) li lj (append_left (base (byte "x") names) (decimal (suc i)) (decimal (suc j)) e) in omega (arith, s)

pub levels_apart : (names : List (List ℕ)) (k i : ℕ) → suc i < 2 ^ 64 → slice_get names k ≡ Some (level_name names i) → ⊥
levels_apart names k i l at = base_apart (byte "x") names k (suc i) refl l at

pub bytes_same : (x : List ℕ) → bytes_eq x x ≡ true
bytes_same x = (bytes_eq-Decides x x).1 refl

pub bytes_differ : (x y : List ℕ) → (x ≡ y → ⊥) → bytes_eq x y ≡ false
bytes_differ x y h = ⊎_elim (λ e. absurd (h ((bytes_eq-Decides x y).0 e))) (λ e. e) (cases (bytes_eq x y))
  where
    cases : (b : Bool) → (b ≡ true) ⊎ (b ≡ false)
    cases true = inl refl
    cases false = inr refl
