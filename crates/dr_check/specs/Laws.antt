-- What is answered of a file is determined by its bytes.
use Rattle.std.specs.Prelude.{◌≡◌, ℕ, List}
use Rattle.dr_text.specs.declared.reader.RecordFault.{RecordFault}
use Rattle.dr_check.specs.Faults.{IsFirstFault}

-- a file has one first fault
abbrev pub OneFirstFault : Type 0
OneFirstFault = (bytes : List ℕ) (f g : RecordFault) → IsFirstFault bytes f → IsFirstFault bytes g → f ≡ g
