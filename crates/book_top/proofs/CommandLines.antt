-- Words have one arrangement, and the texts that `clap` finds are in it.
use Rattle.std.proofs.Common.{◌≡◌, ◌≢◌, ◌∙◌, ◌≤◌, ℕ, zero, suc, true, false, refl, sym, ap, ap₂, subst, arith, List, [], ◌∷◌, ◌++◌, length, drop, Option, Some, None, codes, option_map, true≢false}
use Rattle.std.specs.Borrow.{Bor}
use Rattle.std.specs.Prelude.{slice_get}
use Rattle.clap.specs.Walk.{Text, first_of, rows_of}
use Rattle.clap.specs.Matches.{first_value}
use Rattle.clap.specs.declared.parser.matches.Found.{Found}
use Rattle.clap.proofs.WalkLemmas.{first_value-rows}
use Rattle.clap.specs.Simple.{matches_of}
use Rattle.clap.specs.Faults.{fault_of}
use Rattle.book_top.specs.CommandLine.{line, Exceeds, IsGiven, AskFor, AreAsked}
use Rattle.book_top.specs.Words.{is_option, listed, Arranges, none, positional, budget, joined, rest, HasBudget, default, stated}
use Rattle.book_top.specs.Command.{Command, Check, Verify, positionals_of, TakesBudget, IsAskedBy, Asks, IsNoCommand}
use Rattle.book_top.specs.declared.command.Command as code
use Rattle.book_top.specs.declared.words.Given.{Given}
use Rattle.book_top.proofs.Arranged.{AreUtf8, here, all_pass}
use Rattle.book_top.proofs.LineWalk.{first}
use Rattle.book_top.proofs.GivenRows.{gives_rows, fault_is}

-- ---- one arrangement

is_no_option : (word text : Text) → word ≡ text → is_option text ≡ true → is_option word ≡ false → ⊥
is_no_option word text is option plain = true≢false (sym option ∙ ap is_option (sym is) ∙ plain)

both : (word a b : Text) → word ≡ a → word ≡ b → a ≡ b
both word a b e f = sym e ∙ f

shorter : (text : Text) → codes "--budget" ≡ codes "--budget=" ++ text → ⊥
shorter text e = cc

no_dashes : codes "--" ≡ codes "--budget" → ⊥
no_dashes e = cc

no_dashes_joined : (text : Text) → codes "--" ≡ codes "--budget=" ++ text → ⊥
no_dashes_joined text e = cc

pub arranged_once : {words ps bs qs cs : List Text} → Arranges words ps bs → Arranges words qs cs → (ps ≡ qs) × (bs ≡ cs)
arranged_once none none = (refl, refl)
arranged_once (positional {word = word} w h) (positional v k) = let e = arranged_once h k in (ap (λ xs. word ∷ xs) e.0, e.1)
arranged_once (positional w h) (budget is v k) = absurd (is_no_option _ _ is refl w)
arranged_once (positional w h) (joined is k) = absurd (is_no_option _ _ is refl w)
arranged_once (positional w h) (rest is) = absurd (is_no_option _ _ is refl w)
arranged_once (budget is w h) (positional v k) = absurd (is_no_option _ _ is refl v)
arranged_once (budget {text = text} is w h) (budget also v k) = let e = arranged_once h k in (e.0, ap (λ xs. text ∷ xs) e.1)
arranged_once (budget is w h) (joined also k) = absurd (shorter _ (both _ _ _ is also))
arranged_once (budget is w h) (rest also) = absurd (no_dashes (both _ _ _ also is))
arranged_once (joined is h) (positional v k) = absurd (is_no_option _ _ is refl v)
arranged_once (joined is h) (budget also v k) = absurd (shorter _ (both _ _ _ also is))
arranged_once (joined is h) (joined also k) = let e = arranged_once h k in (e.0, ap₂ (λ x xs. x ∷ xs) (ap (drop 9) (both _ _ _ is also)) e.1)
arranged_once (joined is h) (rest also) = absurd (no_dashes_joined _ (both _ _ _ also is))
arranged_once (rest is) (positional v k) = absurd (is_no_option _ _ is refl v)
arranged_once (rest is) (budget also v k) = absurd (no_dashes (both _ _ _ is also))
arranged_once (rest is) (joined also k) = absurd (no_dashes_joined _ (both _ _ _ is also))
arranged_once (rest is) (rest also) = (refl, refl)

-- ---- what `clap` finds

abbrev as_list : Option Text → List Text
as_list None = []
as_list (Some text) = text ∷ []

listed_is : (o : Option (Bor Text)) → listed o ≡ as_list (option_map (λ t. t.now) o)
listed_is None = refl
listed_is (Some text) = refl

up_to_three : (ps : List Text) → length ps ≤ 3 → ps ≡ as_list (slice_get ps 0) ++ (as_list (slice_get ps 1) ++ as_list (slice_get ps 2))
up_to_three [] short = refl
up_to_three (a ∷ []) short = refl
up_to_three (a ∷ b ∷ []) short = refl
up_to_three (a ∷ b ∷ c ∷ []) short = refl
up_to_three (a ∷ b ∷ c ∷ d ∷ ps) short = absurd (omega arith)

up_to_one : (bs : List Text) → length bs ≤ 1 → bs ≡ as_list (slice_get bs 0)
up_to_one [] short = refl
up_to_one (b ∷ []) short = refl
up_to_one (b ∷ c ∷ bs) short = absurd (omega arith)

none_behind : (ps : List Text) (i : ℕ) → slice_get ps i ≡ None → slice_get ps (suc i) ≡ None
none_behind [] i e = refl
none_behind (p ∷ ps) zero e = absurd (some_is_not p e)
  where
    some_is_not : (p : Text) → Some p ≡ None → ⊥
    some_is_not p e = cc
none_behind (p ∷ ps) (suc i) e = none_behind ps i e

-- behind a positional that is missing each is
missing_behind : (ps : List Text) (i : ℕ) (o later : Option (Bor Text)) → option_map (λ t. t.now) o ≡ slice_get ps i → option_map (λ t. t.now) later ≡ slice_get ps (suc i)
    → o ≡ None → later ≡ None
missing_behind ps i o None e f is = refl
missing_behind ps i o (Some text) e f is =
    let none : Some text.now ≡ None = f ∙ none_behind ps i (sym e ∙ ap (option_map (λ t. t.now)) is) in
    absurd (cc)

module _ (words : List Text) where
  pub exceeds : fault_of line words ≢ [] → Exceeds words
  exceeds fails ps bs h short few = fails (gives_rows words ps bs h short few).passes

  module _ (found : Found) (command file out budget : Option (Bor Text)) where
    abbrev Reads : Option (Bor Text) → Text → Type 0
    Reads text id = option_map (λ t. t.now) text ≡ first_value found id

    abbrev given : Given
    given = record { command = command; file = file; out = out; budget = budget }

    pub arranged : AreUtf8 words → fault_of line words ≡ [] → rows_of found ≡ matches_of line words → Reads command (codes "command") → Reads file (codes "file") → Reads out (codes "out") → Reads budget (codes "budget")
        → IsGiven words given
    arranged utf8 passes rows command_is file_is out_is budget_is =
        let g = all_pass words utf8 None [] 1 false (here first) (sym (fault_is words) ∙ passes) in
        let f = gives_rows words g.positionals g.budgets g.arranges (omega (arith, g.fits)) g.one in
        let read : (id : Text) → first_value found id ≡ first_of id (matches_of line words) = λ id. first_value-rows found id ∙ ap (first_of id) rows in
        let ps_are : g.positionals ≡ listed command ++ (listed file ++ listed out) =
        up_to_three g.positionals (omega (arith, g.fits))
        ∙ ap₂ (λ x y. x ++ y) (ap as_list (sym (command_is ∙ read (codes "command") ∙ f.command)) ∙ sym (listed_is command))
        (ap₂ (λ x y. x ++ y) (ap as_list (sym (file_is ∙ read (codes "file") ∙ f.file)) ∙ sym (listed_is file)) (ap as_list (sym (out_is ∙ read (codes "out") ∙ f.out)) ∙ sym (listed_is out))) in
        let bs_are : g.budgets ≡ listed budget = up_to_one g.budgets g.one ∙ ap as_list (sym (budget_is ∙ read (codes "budget") ∙ f.budget)) ∙ sym (listed_is budget) in
        let command_at = command_is ∙ read (codes "command") ∙ f.command in
        let file_at = file_is ∙ read (codes "file") ∙ f.file in
        let out_at = out_is ∙ read (codes "out") ∙ f.out in
        record {
          arranges = subst (λ ps. Arranges words ps (listed budget)) ps_are (subst (Arranges words g.positionals) bs_are g.arranges);
          order = record { file = missing_behind g.positionals 0 command file command_at file_at; out = missing_behind g.positionals 1 file out file_at out_at };
        }

-- ---- what the words ask for

-- positionals and a budget ask for one command
one_command : (c d : Command) (n : ℕ) → positionals_of c ≡ positionals_of d → TakesBudget c n → TakesBudget d n → c ≡ d
one_command (Check book out m) (Check b o k) n e takes also = cc (e, takes, also)
one_command (Check book out m) (Verify deriv) n e takes also = absurd (cc)
one_command (Verify deriv) (Check b o k) n e takes also = absurd (cc)
one_command (Verify deriv) (Verify d) n e takes also = cc

budget_once : {texts : List Text} {n m : ℕ} → HasBudget texts n → HasBudget texts m → m ≡ n
budget_once default default = refl
budget_once (stated h) (stated k) = refl

asked_once : {ps bs : List Text} {c d : Command} → IsAskedBy ps bs c → IsAskedBy ps bs d → c ≡ d
asked_once {c = c} {d = d} h k =
    one_command c d h.budget (sym h.positionals_are ∙ k.positionals_are) h.takes
    (subst (TakesBudget d) (budget_once h.has_budget k.has_budget) k.takes)

-- what any arrangement of the words asks for, this one does
asked_here : {words ps bs : List Text} {c : Command} → Arranges words ps bs → Asks words c → IsAskedBy ps bs c
asked_here {c = c} h asks =
    let e = arranged_once asks.arranges h in
    subst (λ qs. IsAskedBy qs _ c) e.0 (subst (λ cs. IsAskedBy asks.positionals cs c) e.1 asks.asked)

pub command_once : {words : List Text} {c d : Command} → Asks words c → Asks words d → c ≡ d
command_once h k = asked_once h.asked (asked_here h.arranges k)

pub asks_by : {words ps bs : List Text} {c : Command} → Arranges words ps bs → IsAskedBy ps bs c → Asks words c
asks_by {ps = ps} {bs = bs} h asked = record { positionals = ps; budgets = bs; arranges = h; asked = asked }

pub nothing_asked : {words ps bs : List Text} → Arranges words ps bs → ((c : Command) → IsAskedBy ps bs c → ⊥) → IsNoCommand words
nothing_asked h other = λ c asks. other c (asked_here h asks)

pub asked : (words ps bs : List Text) (r : Option code.Command) → Arranges words ps bs → AskFor ps bs r → AreAsked words r
asked words ps bs None h other = nothing_asked h other
asked words ps bs (Some c) h by = asks_by h by
