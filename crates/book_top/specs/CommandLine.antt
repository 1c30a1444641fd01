-- The command line as `clap` sees it: three positionals and one option.
use Rattle.std.specs.Prelude.{◌≡◌, ◌≢◌, ◌≤◌, length, List, ℕ, [], ◌++◌, true, None, Some, Option, codes, MatchOption}
use Rattle.clap.specs.Walk.{Rule, rows_of}
use Rattle.clap.specs.Matches.{found_of}
use Rattle.clap.specs.Simple.{App, new_app, new_rule, with_rule, on_top, matches_of}
use Rattle.clap.specs.Faults.{fault_of}
use Rattle.clap.specs.declared.parser.matches.ArgMatches.{ArgMatches}
use Rattle.book_top.specs.Words.{listed, Arranges}
use Rattle.book_top.specs.Command.{Command, Check, Verify, IsAskedBy, Asks, IsNoCommand}
use Rattle.book_top.specs.declared.words.Given.{Given}
use Rattle.book_top.specs.declared.command.Command as code
use Rattle.book_top.specs.declared.command.Command.TheVariants as command

-- the option
abbrev pub budget_rule : Rule
budget_rule = record (new_rule (codes "budget")) { long = Some (codes "budget") }

-- a command line that takes no word: it has no program's name before it, and no flags of `clap`'s own
abbrev pub bare : App
bare = on_top (λ s. record s { no_binary_name = true; disable_help_flag = true; disable_version_flag = true }) (new_app (codes "flagbook"))

-- the whole command line
abbrev pub line : App
line = with_rule (with_rule (with_rule (with_rule bare (new_rule (codes "command"))) (new_rule (codes "file"))) (new_rule (codes "out"))) budget_rule

-- what `clap` finds in the words, or that it refuses them
abbrev pub Finds : List (List ℕ) → Option ArgMatches → Type 0
Finds words found = MatchOption found (fault_of line words ≢ []) (λ m. (fault_of line words ≡ []) × (rows_of (found_of m) ≡ matches_of line words))

-- the words are not at most three positionals and one budget
abbrev pub Exceeds : List (List ℕ) → Type 0
Exceeds words = (positionals budgets : List (List ℕ)) → Arranges words positionals budgets → length positionals ≤ 3 → length budgets ≤ 1 → ⊥

-- the positionals that were given
abbrev pub positionals : Given → List (List ℕ)
positionals given = listed given.command ++ (listed given.file ++ listed given.out)

-- no positional is missing before one that was given
pub record AreInOrder (given : Given) : Type 0 where
  pub file : given.command ≡ None → given.file ≡ None
  pub out : given.file ≡ None → given.out ≡ None

-- the words are the positionals and the text of a budget that were given
pub record IsGiven (words : List (List ℕ)) (given : Given) : Type 0 where
  pub arranges : Arranges words (positionals given) (listed given.budget)
  pub order : AreInOrder given

-- the command that a value of the code stands for
abbrev pub command_of : code.Command → Command
command_of (command.Check asked) = Check asked.book.now asked.out.now asked.budget
command_of (command.Verify deriv) = Verify deriv.now

-- what positionals and texts of budgets ask for
abbrev pub AskFor : (positionals budgets : List (List ℕ)) → Option code.Command → Type 0
AskFor positionals budgets found =
    MatchOption found ((c : Command) → IsAskedBy positionals budgets c → ⊥) (λ asked. IsAskedBy positionals budgets (command_of asked))

-- what the words ask for
abbrev pub AreAsked : List (List ℕ) → Option code.Command → Type 0
AreAsked words found = MatchOption found (IsNoCommand words) (λ asked. Asks words (command_of asked))
