-- What holds of a command that was performed.
use Rattle.std.specs.Prelude.{◌≡◌, IsTrue}
use Rattle.fb_base.specs.Desk.{Seen, Rose}
use Rattle.book_top.specs.declared.status.Status.{Status}
use Rattle.book_top.specs.declared.status.Status.TheVariants as status
use Rattle.book_top.specs.Command.{Command}
use Rattle.book_top.specs.Top.{Performs, MayAnswer, ChangesOnly, LacksSource}
use Rattle.book_top.specs.Said.{Reports}

-- A command was performed, and its report said. The desk may tell its files or what was said, or neither.
pub record IsPerformed (c : Command) (old new : Seen) (answer : Status) : Type 0 where
  pub performs : IsTrue old.tells_files → Performs old.files new.files c answer
  pub may : MayAnswer c answer
  pub changes : ChangesOnly c old new
  pub reports : IsTrue old.tells_said → Reports c old new answer
  pub desk : answer ≡ status.Desk → Rose old.faults new.faults
  pub absent : IsTrue old.tells_files → IsTrue old.sound → answer ≡ status.Desk → LacksSource old.files c
