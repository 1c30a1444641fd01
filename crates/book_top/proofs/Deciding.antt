-- Words ask for a command, or for nothing that is known.
use Rattle.std.proofs.Common.{◌≡◌, ◌≢◌, ◌∙◌, ◌⊎◌, ◌<◌, ◌≤◌, ℕ, Bool, true, false, refl, sym, ap, arith, inl, inr, List, [], ◌∷◌, length, None, codes, true≢false, Result, Ok, Err, IfErr}
use Rattle.std.specs.Str.{bytes_eq}
use Rattle.std.specs.Str.Parse.{AllDigits, digits_value}
use Rattle.std.specs.Char.{digit_value}
use Rattle.std.proofs.lemmas.Bool.{cases_lt}
use Rattle.std.proofs.lemmas.Slice.Eq.{bytes_eq-Decides}
use Rattle.clap.specs.Kinds.{Kinds}
use Rattle.clap.specs.Walk.{Text}
use Rattle.clap.specs.Faults.{fault_of}
use Rattle.book_top.specs.CommandLine.{line}
use Rattle.book_top.specs.Words.{Arranges, IsBudget, HasBudget, default, stated}
use Rattle.book_top.specs.Command.{Command, Check, Verify, IsAskedBy, Asks, IsDecided}
use Rattle.book_top.specs.Command as decide
use Rattle.book_top.proofs.LineWalk.{first}
use Rattle.book_top.proofs.Arranged.{AreUtf8, here, some, all_pass}
use Rattle.book_top.proofs.GivenRows.{fault_is}
use Rattle.book_top.proofs.CommandLines.{exceeds, nothing_asked, asks_by}

digits : (ds : Text) → AllDigits 10 ds ⊎ (AllDigits 10 ds → ⊥)
digits [] = inl tt
digits (d ∷ ds) = by (cases_lt (digit_value d) 10) (digits ds)
  where
    by : (digit_value d < 10) ⊎ (10 ≤ digit_value d) → AllDigits 10 ds ⊎ (AllDigits 10 ds → ⊥) → AllDigits 10 (d ∷ ds) ⊎ (AllDigits 10 (d ∷ ds) → ⊥)
    by (inl small) (inl all) = inl (small, all)
    by (inl small) (inr some) = inr (λ h. some h.1)
    by (inr great) others = inr (λ h. let small = h.0 in absurd (omega arith))

no_budget : (text : Text) → (IsBudget text → ⊥) → (n : ℕ) → HasBudget (text ∷ []) n → ⊥
no_budget text other n (stated b) = other b

two_budgets : (a b : Text) (bs : List Text) (n : ℕ) → HasBudget (a ∷ b ∷ bs) n → ⊥
two_budgets a b bs n h = elim h [ ]

at_most_one : {bs : List Text} {n : ℕ} → HasBudget bs n → length bs ≤ 1
at_most_one default = omega arith
at_most_one (stated b) = omega arith

is_budget : (text : Text) → IsBudget text ⊎ (IsBudget text → ⊥)
is_budget text = by (cases_lt 0 (length text)) (digits text) (cases_lt (length text) 11) (cases_lt (digits_value 10 text) 1_000_000_001)
  where
    by : (0 < length text) ⊎ (length text ≤ 0) → AllDigits 10 text ⊎ (AllDigits 10 text → ⊥) → (length text < 11) ⊎ (11 ≤ length text)
        → (digits_value 10 text < 1_000_000_001) ⊎ (1_000_000_001 ≤ digits_value 10 text) → IsBudget text ⊎ (IsBudget text → ⊥)
    by (inl some) (inl all) (inl short) (inl small) = inl (record { digits = (some, all); short = omega arith; small = omega arith })
    by (inr few) d s v = inr (λ b. let some = b.digits.0 in absurd (omega arith))
    by (inl some) (inr other) s v = inr (λ b. other b.digits.1)
    by (inl some) (inl all) (inr long) v = inr (λ b. let short = b.short in absurd (omega arith))
    by (inl some) (inl all) (inl short) (inr great) = inr (λ b. let small = b.small in absurd (omega arith))

has_budget : (bs : List Text) → ((n : ℕ) × HasBudget bs n) ⊎ ((n : ℕ) → HasBudget bs n → ⊥)
has_budget [] = inl (1_000_000, default)
has_budget (text ∷ []) = by (is_budget text)
  where
    by : IsBudget text ⊎ (IsBudget text → ⊥) → ((n : ℕ) × HasBudget (text ∷ []) n) ⊎ ((n : ℕ) → HasBudget (text ∷ []) n → ⊥)
    by (inl b) = inl (digits_value 10 text, stated b)
    by (inr other) = inr (no_budget text other)
has_budget (a ∷ b ∷ bs) = inr (two_budgets a b bs)

-- the command is the word, or another
is_word : (command word : Text) → (command ≡ word) ⊎ (command ≢ word)
is_word command word = by (bytes_eq command word) refl
  where
    by : (t : Bool) → bytes_eq command word ≡ t → (command ≡ word) ⊎ (command ≢ word)
    by true e = inl ((bytes_eq-Decides command word).0 e)
    by false e = inr (λ is. true≢false (sym ((bytes_eq-Decides command word).1 is) ∙ e))

-- what positionals and texts of budgets ask for
data Asked (ps bs : List Text) : Type 0 where
  one : (c : Command) → IsAskedBy ps bs c → Asked ps bs
  nothing : ((c : Command) → IsAskedBy ps bs c → ⊥) → Asked ps bs

abbrev Budget : List Text → Type 0
Budget bs = ((n : ℕ) × HasBudget bs n) ⊎ ((n : ℕ) → HasBudget bs n → ⊥)

first_is : {command word : Text} {rest more : List Text} → ◌≡◌ {A = List Text} (command ∷ rest) (word ∷ more) → command ≡ word
first_is e = cc

-- positionals that are neither two nor three
no_number : (ps bs : List Text) → (length ps ≢ 2) → (length ps ≢ 3) → (c : Command) → IsAskedBy ps bs c → ⊥
no_number ps bs no_two no_three (Check book out budget) h = no_three (ap length h.positionals_are)
no_number ps bs no_two no_three (Verify deriv) h = no_two (ap length h.positionals_are)

other_two : (command file : Text) (bs : List Text) → command ≢ codes "verify" → (c : Command) → IsAskedBy (command ∷ file ∷ []) bs c → ⊥
other_two command file bs other (Check book out budget) h = let e = h.positionals_are in absurd (cc)
other_two command file bs other (Verify deriv) h = other (first_is h.positionals_are)

other_three : (command file out : Text) (bs : List Text) → command ≢ codes "check" → (c : Command)
    → IsAskedBy (command ∷ file ∷ out ∷ []) bs c → ⊥
other_three command file out bs other (Check book o budget) h = other (first_is h.positionals_are)
other_three command file out bs other (Verify deriv) h = let e = h.positionals_are in absurd (cc)

ask_two : (command file : Text) (bs : List Text) → (command ≡ codes "verify") ⊎ (command ≢ codes "verify") → Budget bs → Asked (command ∷ file ∷ []) bs
ask_two command file bs (inl is) (inl h) =
    one (Verify file) (record { budget = h.0; positionals_are = ap (λ c. c ∷ file ∷ []) is; has_budget = h.1; takes = tt })
ask_two command file bs is (inr other) = nothing (λ c a. other a.budget a.has_budget)
ask_two command file bs (inr other) (inl h) = nothing (other_two command file bs other)

ask_three : (command file out : Text) (bs : List Text) → (command ≡ codes "check") ⊎ (command ≢ codes "check") → Budget bs → Asked (command ∷ file ∷ out ∷ []) bs
ask_three command file out bs (inl is) (inl h) =
    one (Check file out h.0) (record { budget = h.0; positionals_are = ap (λ c. c ∷ file ∷ out ∷ []) is; has_budget = h.1; takes = refl })
ask_three command file out bs is (inr other) = nothing (λ c a. other a.budget a.has_budget)
ask_three command file out bs (inr other) (inl h) = nothing (other_three command file out bs other)

asks : (ps bs : List Text) → Asked ps bs
asks [] bs = nothing (no_number [] bs (λ e. cc) (λ e. cc))
asks (a ∷ []) bs = nothing (no_number (a ∷ []) bs (λ e. cc) (λ e. cc))
asks (command ∷ file ∷ []) bs = ask_two command file bs (is_word command (codes "verify")) (has_budget bs)
asks (command ∷ file ∷ out ∷ []) bs = ask_three command file out bs (is_word command (codes "check")) (has_budget bs)
asks (a ∷ b ∷ c ∷ d ∷ ps) bs = nothing (no_number (a ∷ b ∷ c ∷ d ∷ ps) bs (λ e. omega (arith, e)) (λ e. omega (arith, e)))

-- a command has at most three positionals
at_most_three : {ps bs : List Text} (c : Command) → IsAskedBy ps bs c → length ps ≤ 3
at_most_three (Check book out budget) h = omega (arith, ap length h.positionals_are)
at_most_three (Verify deriv) h = omega (arith, ap length h.positionals_are)

pub decided : (words : List Text) → AreUtf8 words → IsDecided words
decided words utf8 = by (fault_of line words) refl
  where
    ends : {ps bs : List Text} → Arranges words ps bs → Asked ps bs → IsDecided words
    ends h (one c a) = decide.asked c (asks_by h a)
    ends h (nothing other) = decide.nothing (nothing_asked h other)

    by : (k : Kinds) → fault_of line words ≡ k → IsDecided words
    by [] e =
        let g = all_pass words utf8 None [] 1 false (here first) (sym (fault_is words) ∙ e) in
        ends g.arranges (asks g.positionals g.budgets)
    by (k ∷ ks) e = decide.nothing
        (λ c a. exceeds words (λ none. some k ks (sym e ∙ none)) _ _ a.arranges (at_most_three c a.asked) (at_most_one a.asked.has_budget))

-- a fact holds where a call fails too
pub where_it_fails : {T E P : Type 0} (r : Result T E) → P → IfErr r (λ _. P)
where_it_fails (Ok x) p = tt
where_it_fails (Err e) p = p
