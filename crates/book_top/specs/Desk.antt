-- What a run does to a desk besides its file.
use Rattle.std.specs.Prelude.{◌≡◌, ◌≤◌, IsTrue}
use Rattle.fb_base.specs.Desk.{Seen, OthersStay}

-- nothing but the file that is being written changed
pub record OnlyTarget (old new : Seen) : Type 0 where
  pub tells_files : new.tells_files ≡ old.tells_files
  pub tells_said : new.tells_said ≡ old.tells_said
  pub sound : new.sound ≡ old.sound
  pub said : new.said ≡ old.said
  pub started : new.started ≡ old.started
  pub target : new.target ≡ old.target
  pub others : IsTrue old.tells_files → OthersStay old new old.target
  pub never_falls : old.faults ≤ new.faults

-- nothing changed but what was said
abbrev pub OnlySays : (old new : Seen) → Type 0
OnlySays old new = new ≡ record old { said = new.said; faults = new.faults }
