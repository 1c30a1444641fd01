-- What the words ask for can be done, and then it is done unless memory runs out.
use Rattle.std.specs.Prelude.{ℕ, ⊤, List, IsTrue}
use Rattle.fb_base.specs.Desk.{Seen, Rose}
use Rattle.book_top.specs.declared.status.Status.{Status}
use Rattle.book_top.specs.declared.status.Status.TheVariants as status
use Rattle.book_top.specs.Command.{Command, Asks}
use Rattle.book_top.specs.Left.{Files}
use Rattle.book_top.specs.Top.{IsPossible}

-- The words ask for a command that can be done: the check of a book that is acceptable within their budget, or the verification of a
-- derivation.
pub record CanBeDone (files : Files) (words : List (List ℕ)) : Type 0 where
  pub command : Command
  pub asked : Asks words command
  pub possible : IsPossible files command

-- no call on the desk failed, or the desk is one on which none fails without need
pub data IsUndisturbed (old new : Seen) : Type 0 where
  no_fault : (Rose old.faults new.faults → ⊥) → IsUndisturbed old new
  sound : IsTrue old.sound → IsUndisturbed old new

abbrev pub IsDoneOrMemory : Status → Type 0
IsDoneOrMemory (status.Done summary) = ⊤
IsDoneOrMemory status.Memory = ⊤
IsDoneOrMemory _ = ⊥
