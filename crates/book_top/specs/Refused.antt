-- What a refusal by a rule says.
use Rattle.std.specs.Prelude.{ℕ, List}
use Rattle.book_top.specs.declared.status.RuleFault.{RuleFault}
use Rattle.book_top.specs.Command.{Command, Asks}
use Rattle.book_top.specs.Left.{Files}
use Rattle.book_top.specs.Top.{RefusesRightly}

-- The words ask for the check of a book, and the fault names the first of its items that isn't accepted, which has no derivation after
-- the items before it.
pub record IsRightlyRefused (files : Files) (words : List (List ℕ)) (fault : RuleFault) : Type 0 where
  pub command : Command
  pub asked : Asks words command
  pub refused : RefusesRightly files command fault
