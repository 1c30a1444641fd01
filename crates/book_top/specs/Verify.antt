-- The command `verify`: what the verification of a derivation file answers.
use Rattle.std.specs.Prelude.{◌≡◌, ℕ, ⊤, List, length}
use Rattle.ld_terms.specs.Derivable.{IsLegal}
use Rattle.ld_terms.specs.Entry.{Env}
use Rattle.ld_terms.specs.Known.{Note}
use Rattle.dr_text.specs.Derives.{Derives}
use Rattle.dr_text.specs.declared.reader.RecordFault.{RecordFault}
use Rattle.dr_text.specs.declared.reader.RecordFault.TheVariants as record_fault
use Rattle.dr_check.specs.Checks.{IsRefused}
use Rattle.book_top.specs.declared.status.Status.{Status}
use Rattle.book_top.specs.declared.status.Status.TheVariants as status
use Rattle.book_top.specs.declared.status.Summary.{Summary}
use Rattle.book_top.specs.declared.status.LimitFault.TheVariants as limit
use Rattle.book_top.specs.Left.{Files}
use Rattle.book_top.specs.Fetched.{IsFetchedWithin, IsLonger}

abbrev pub derivation_limit : ℕ
derivation_limit = 536_870_912

-- The bytes are a derivation of a legal environment, of whose entries the number is counted.
pub record IsVerified (bytes : List ℕ) (summary : Summary) : Type 0 where
  pub entries : Env
  pub notes : List Note
  pub derives : Derives bytes entries notes
  pub legal : IsLegal entries
  pub items_are : summary.items ≡ 0
  pub entries_are : summary.entries ≡ length entries
  pub steps_are : summary.steps ≡ 0

-- What the verification of a derivation file answers. The files stay as they are.
pub data Verifies (before after : Files) (deriv : List ℕ) : Status → Type 0 where
  done : {summary : Summary} (bytes : List ℕ) → IsFetchedWithin derivation_limit before deriv bytes → IsVerified bytes summary
      → after ≡ before →
      Verifies before after deriv (status.Done summary)
  too_long : IsLonger derivation_limit before deriv → after ≡ before → Verifies before after deriv (status.Limit limit.DerivBytes)
  bad_record : {fault : RecordFault} (bytes : List ℕ) → IsFetchedWithin derivation_limit before deriv bytes → IsRefused bytes fault
      → after ≡ before →
      Verifies before after deriv (status.BadRecord fault)
  -- a call on the desk failed, or memory ran out
  desk : after ≡ before → Verifies before after deriv status.Desk
  memory : after ≡ before → Verifies before after deriv status.Memory

-- the statuses that a verification may answer, on any desk
abbrev pub MayVerify : Status → Type 0
MayVerify (status.Done summary) = ⊤
MayVerify (status.Limit limit.DerivBytes) = ⊤
MayVerify (status.BadRecord fault) = ⊤
MayVerify status.Desk = ⊤
MayVerify status.Memory = ⊤
MayVerify _ = ⊥

-- The file of this name is there, is no longer than the limit, and is a derivation.
pub record IsDerivationFile (files : Files) (deriv : List ℕ) : Type 0 where
  pub bytes : List ℕ
  pub entries : Env
  pub notes : List Note
  pub fetched : IsFetchedWithin derivation_limit files deriv bytes
  pub derives : Derives bytes entries notes

-- the answer for the bytes of a derivation file
abbrev pub AnswersBytes : List ℕ → Status → Type 0
AnswersBytes bytes (status.Done summary) = IsVerified bytes summary
AnswersBytes bytes (status.BadRecord fault) = IsRefused bytes fault
AnswersBytes bytes status.Memory = ⊤
AnswersBytes bytes _ = ⊥

-- the answer for a fault of the bytes, of which want of memory is none
abbrev pub refusal_of : RecordFault → Status
refusal_of record_fault.Memory = status.Memory
refusal_of f = status.BadRecord f
