-- What is answered of a file.
use Rattle.std.specs.Prelude.{ℕ, List, ⊤, Result, Ok, Err}
use Rattle.ld_terms.specs.Entry.{Env}
use Rattle.ld_terms.specs.Derivable.{IsLegal}
use Rattle.ld_terms.specs.Known.{Note}
use Rattle.ld_env.specs.Entries.{env_of, AreLive}
use Rattle.dr_text.specs.Derives.{Derives}
use Rattle.dr_text.specs.declared.reader.RecordFault.{RecordFault}
use Rattle.dr_text.specs.declared.reader.RecordFault.TheVariants.{Memory}
use Rattle.dr_check.specs.declared.check.Checked.{Checked}
use Rattle.dr_check.specs.Faults.{IsFirstFault}

-- the bytes are a derivation of these entries, which are a legal environment
pub record IsDerived (bytes : List ℕ) (checked : Checked) : Type 0 where
  pub notes : List Note
  pub derives : Derives bytes (env_of checked.bank checked.env) notes
  pub legal : IsLegal (env_of checked.bank checked.env)
  pub live : AreLive checked.bank checked.env

-- the bytes are no derivation, and this is their first fault
pub record IsRefused (bytes : List ℕ) (fault : RecordFault) : Type 0 where
  pub first : IsFirstFault bytes fault
  pub derives_nothing : (entries : Env) (notes : List Note) → Derives bytes entries notes → ⊥

abbrev pub ChecksFile : List ℕ → Result Checked RecordFault → Type 0
ChecksFile bytes (Ok checked) = IsDerived bytes checked
ChecksFile bytes (Err Memory) = ⊤
ChecksFile bytes (Err fault) = IsRefused bytes fault
