-- A judgement led over the entries one by one.
use Rattle.std.proofs.Common.{◌≡◌, ◌+◌, ℕ, List, length}
use Rattle.ld_terms.specs.Item.{Item}
use Rattle.ld_terms.specs.Known.{Judgement}
use Rattle.ld_record.specs.declared.record.JudgeId.{JudgeId}
use Rattle.ld_record.specs.declared.record.Judge.{Judge}
use Rattle.ld_record.specs.declared.record.Kept.{Kept}
use Rattle.ld_record.specs.Kept.{known_of, IsSound, Begins}
use Rattle.ld_record.specs.Growth.{Knows, Adds, over_first}

abbrev pub one_more : Judge → ℕ → Judge
one_more judge n = record judge { entries = n + 1 }

-- so far the judgement is over the first n entries
pub record Lifts (items : List Item) (start now : List Kept) (s : Judgement) (n : ℕ) (lifted : JudgeId) : Type 0 where
  pub sound : IsSound items now
  pub adds : Adds (known_of items start) (known_of items now)
  pub node : Knows (known_of items now) lifted (over_first s n)
  pub begins : Begins start now
  pub added : length now + s.entries ≡ length start + n
