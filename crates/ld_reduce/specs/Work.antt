-- How many steps may be made, and how many were made.
use Rattle.std.specs.Prelude.{◌≡◌, ◌+◌, ℕ}

pub record Work : Type 0 where
  pub left : ℕ
  pub spent : ℕ

abbrev pub work : (left spent : ℕ) → Work
work left spent = record { left = left; spent = spent }

-- so many steps were made, of those that were left
pub record Takes (old new : Work) (n : ℕ) : Type 0 where
  pub left : old.left ≡ new.left + n
  pub spent : new.spent ≡ old.spent + n
