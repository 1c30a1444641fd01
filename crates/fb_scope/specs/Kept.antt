-- What stays true of the numbers of flags as flags are opened and closed.
use Rattle.std.specs.Prelude.{◌≡◌, ℕ, suc, ◌<◌, List, take, slice_get, Some}
use Rattle.fb_scope.specs.State.{State, numbers}
use Rattle.fb_scope.specs.Resolve.{made_under}
use Rattle.fb_scope.specs.declared.resolve.Found.{Found}
use Rattle.fb_scope.specs.declared.resolve.Found.TheVariants.{Var, Const}

-- these numbers were given to flags
abbrev pub AreGiven : (opened : ℕ) → List ℕ → Type 0
AreGiven opened ns = (i n : ℕ) → slice_get ns i ≡ Some n → n < opened

-- a number that stands in both lists stands behind the same numbers in both
abbrev pub Agree : List ℕ → List ℕ → Type 0
Agree ns ms = (i j n : ℕ) → slice_get ns i ≡ Some n → slice_get ms j ≡ Some n → take (suc i) ns ≡ take (suc j) ms

pub record IsKept (opened : ℕ) (open_numbers ns : List ℕ) : Type 0 where
  pub given : AreGiven opened ns
  pub agree : Agree ns open_numbers

-- so it is with the open flags themselves, and with the flags of each entry
pub record AreKept (opened : ℕ) (open_numbers : List ℕ) (marks : List (List ℕ)) : Type 0 where
  pub these : IsKept opened open_numbers open_numbers
  pub each : (k : ℕ) (mark : List ℕ) → slice_get marks k ≡ Some mark → IsKept opened open_numbers mark

-- The parameters of an instance that are implied are those of the first open flags.
abbrev pub AreImplied : State → Found → Type 0
AreImplied s (Var i) = Unit {0}
AreImplied s (Const k implied) = take implied (made_under s k) ≡ take implied (numbers s.flags)
