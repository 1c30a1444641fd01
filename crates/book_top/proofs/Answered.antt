-- A command whose answer was come to, and of which nothing is said yet.
use Rattle.std.proofs.Common.{◌≡◌, ◌≤◌, ℕ, List, IsTrue}
use Rattle.fb_base.specs.Desk.{Seen, Rose}
use Rattle.book_top.specs.declared.status.Status.{Status}
use Rattle.book_top.specs.declared.status.Status.TheVariants as status
use Rattle.book_top.specs.Command.{Command}
use Rattle.book_top.specs.Top.{Performs, MayAnswer, ChangesOnly, HasSource, LacksSource}
use Rattle.book_top.specs.Said.{HasNoPlace}

pub record IsAnswered (c : Command) (old new : Seen) (text : List ℕ) (given : Status) : Type 0 where
  pub performs : IsTrue old.tells_files → Performs old.files new.files c given
  pub may : MayAnswer c given
  pub changes : ChangesOnly c old new
  pub of_source : (HasNoPlace given → ⊥) → IsTrue old.tells_files → HasSource old.files c text
  pub said : new.said ≡ old.said
  pub tells_files : new.tells_files ≡ old.tells_files
  pub tells_said : new.tells_said ≡ old.tells_said
  pub sound : new.sound ≡ old.sound
  pub never_falls : old.faults ≤ new.faults
  pub rises : given ≡ status.Desk → Rose old.faults new.faults
  pub absent : IsTrue old.tells_files → IsTrue old.sound → given ≡ status.Desk → LacksSource old.files c
