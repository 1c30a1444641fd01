-- The commands, and the words that ask for one.
use Rattle.std.specs.Prelude.{◌≡◌, ℕ, ⊤, List, [], ◌∷◌, codes, Option, Some, None}
use Rattle.book_top.specs.Words.{Arranges, HasBudget}

-- what words can ask for
pub data Command : Type 0 where
  -- a book is checked within a budget of steps, and its derivation written into a file
  Check : (book out : List ℕ) (budget : ℕ) → Command
  -- a derivation file is verified
  Verify : (deriv : List ℕ) → Command

-- the positionals that ask for a command
abbrev pub positionals_of : Command → List (List ℕ)
positionals_of (Check book out budget) = codes "check" ∷ book ∷ out ∷ []
positionals_of (Verify deriv) = codes "verify" ∷ deriv ∷ []

-- The budget that is given is the command's. On a verification it has no effect.
abbrev pub TakesBudget : Command → (given : ℕ) → Type 0
TakesBudget (Check book out budget) given = budget ≡ given
TakesBudget (Verify deriv) given = ⊤

-- the file that a command reads
abbrev pub source_of : Command → Option (List ℕ)
source_of (Check book out budget) = Some book
source_of (Verify deriv) = Some deriv

-- the file that a command writes
abbrev pub target_of : Command → Option (List ℕ)
target_of (Check book out budget) = Some out
target_of (Verify deriv) = None

-- positionals and texts of budgets that ask for a command
pub record IsAskedBy (positionals budgets : List (List ℕ)) (c : Command) : Type 0 where
  pub budget : ℕ
  pub positionals_are : positionals ≡ positionals_of c
  pub has_budget : HasBudget budgets budget
  pub takes : TakesBudget c budget

-- words that ask for a command
pub record Asks (words : List (List ℕ)) (c : Command) : Type 0 where
  pub positionals : List (List ℕ)
  pub budgets : List (List ℕ)
  pub arranges : Arranges words positionals budgets
  pub asked : IsAskedBy positionals budgets c

-- the words ask for nothing that is known
abbrev pub IsNoCommand : (words : List (List ℕ)) → Type 0
IsNoCommand words = (c : Command) → Asks words c → ⊥

-- the words ask for a command, or for nothing that is known
pub data IsDecided (words : List (List ℕ)) : Type 0 where
  asked : (c : Command) → Asks words c → IsDecided words
  nothing : IsNoCommand words → IsDecided words
