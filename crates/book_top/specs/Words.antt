-- The words of the command line, without the program's name.
use Rattle.std.specs.Prelude.{◌≡◌, ◌≤◌, ℕ, Bool, false, ◌==◌, List, [], ◌∷◌, ◌++◌, map, length, codes, Option, Some, None}
use Rattle.std.specs.Str.{byte}
use Rattle.std.specs.Str.Parse.{IsNumeral, digits_value}
use Rattle.std.specs.Borrow.{Bor}

abbrev pub texts : List (Bor (List ℕ)) → List (List ℕ)
texts words = map (λ w. w.now) words

-- a text that may be missing, as a list
abbrev pub listed : Option (Bor (List ℕ)) → List (List ℕ)
listed None = []
listed (Some text) = text.now ∷ []

-- a word that begins with - and isn't - alone
abbrev pub is_option : List ℕ → Bool
is_option [] = false
is_option (b ∷ []) = false
is_option (b ∷ c ∷ bs) = b == byte "-"

-- The words are these positionals and these texts of budgets, in their order.
pub data Arranges : (words positionals budgets : List (List ℕ)) → Type 0 where
  none : Arranges [] [] []
  positional : {word : List ℕ} {words positionals budgets : List (List ℕ)} → is_option word ≡ false → Arranges words positionals budgets
      → Arranges (word ∷ words) (word ∷ positionals) budgets
  -- the option and its text as two words, and as one
  budget : {word text : List ℕ} {words positionals budgets : List (List ℕ)} → word ≡ codes "--budget" → is_option text ≡ false
      → Arranges words positionals budgets → Arranges (word ∷ text ∷ words) positionals (text ∷ budgets)
  joined : {word text : List ℕ} {words positionals budgets : List (List ℕ)} → word ≡ codes "--budget=" ++ text
      → Arranges words positionals budgets → Arranges (word ∷ words) positionals (text ∷ budgets)
  -- after the word -- each word is a positional
  rest : {word : List ℕ} {words : List (List ℕ)} → word ≡ codes "--" → Arranges (word ∷ words) words []

-- the text of a budget: one to ten decimal digits, of a value that is at most 1,000,000,000
pub record IsBudget (text : List ℕ) : Type 0 where
  pub digits : IsNumeral 10 text
  pub short : length text ≤ 10
  pub small : digits_value 10 text ≤ 1_000_000_000

-- the budget that the texts give, of which there is one at most
pub data HasBudget : (texts : List (List ℕ)) → (budget : ℕ) → Type 0 where
  default : HasBudget [] 1_000_000
  stated : {text : List ℕ} → IsBudget text → HasBudget (text ∷ []) (digits_value 10 text)
