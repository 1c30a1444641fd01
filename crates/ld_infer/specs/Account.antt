-- How many steps a check may make and has made, and what it answers within them.
use Rattle.std.specs.Prelude.{◌≡◌, ◌<◌, ◌+◌, ℕ}
use Rattle.ld_reduce.specs.Task.{Pairs, Answer, Task, Answers}
use Rattle.ld_reduce.specs.Work.{Work}

-- the steps that are left, those that were made, and the pairs that are known
pub record Account : Type 0 where
  pub left : ℕ
  pub spent : ℕ
  pub known : Pairs

abbrev pub account_by : Work → Pairs → Account
account_by work known = record { left = work.left; spent = work.spent; known = known }

-- so many steps were made, of those that were left
pub record Takes (old new : Account) (n : ℕ) : Type 0 where
  pub left : old.left ≡ new.left + n
  pub spent : new.spent ≡ old.spent + n

-- The task has this answer, and its steps were made.
pub record Comes {E X : Type 0} (p : Task E X) (r : Answer E X) (old new : Account) : Type 0 where
  pub steps : ℕ
  pub answers : Answers p old.known r new.known steps
  pub takes : Takes old new steps

-- The task has no answer by the steps that were left, and all of these were made.
pub record RunsOut {E X : Type 0} (p : Task E X) (old new : Account) : Type 0 where
  pub none : (r : Answer E X) (known : Pairs) (n : ℕ) → p old.known r known n → old.left < n
  pub left : new.left ≡ 0
  pub takes : Takes old new old.left
