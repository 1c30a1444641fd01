-- What is said of an answer.
use Rattle.std.specs.Prelude.{ℕ, zero, suc, List, [], ◌∷◌, ◌++◌, codes}
use Rattle.std.specs.Fmt.{decimal}
use Rattle.fb_base.specs.Place.{line_of, column_of}
use Rattle.fb_base.specs.declared.places.Span.{Span}
use Rattle.fb_parse.specs.ItemView.{at_span}
use Rattle.ld_infer.specs.declared.failure.RuleName.{RuleName}
use Rattle.ld_infer.specs.declared.failure.RuleName.TheVariants as rule
use Rattle.ld_infer.specs.declared.failure.PathStep.{PathStep}
use Rattle.ld_infer.specs.declared.failure.PathStep.TheVariants as step
use Rattle.dr_text.specs.declared.reader.RecordFault.{RecordFault}
use Rattle.dr_text.specs.declared.reader.RecordFault.TheVariants as record_fault
use Rattle.book_top.specs.declared.report.Subject.{Subject}
use Rattle.book_top.specs.declared.report.Subject.TheVariants as subject
use Rattle.book_top.specs.declared.status.Status.{Status}
use Rattle.book_top.specs.declared.status.Status.TheVariants as status
use Rattle.book_top.specs.declared.status.Summary.{Summary}
use Rattle.book_top.specs.declared.status.TextWhat.{TextWhat}
use Rattle.book_top.specs.declared.status.TextWhat.TheVariants as what
use Rattle.book_top.specs.declared.status.RuleFault.{RuleFault}
use Rattle.book_top.specs.declared.status.BudgetFault.{BudgetFault}
use Rattle.book_top.specs.declared.status.Want.{Want}
use Rattle.book_top.specs.declared.status.Want.TheVariants as want
use Rattle.book_top.specs.declared.status.LimitFault.{LimitFault}
use Rattle.book_top.specs.declared.status.LimitFault.TheVariants as limit

abbrev pub counts_text : Summary → List ℕ
counts_text s = codes "done: " ++ decimal s.items ++ codes " items, " ++ decimal s.entries ++ codes " entries, " ++ decimal s.steps ++ codes " steps\n"

abbrev pub entries_text : (entries : ℕ) → List ℕ
entries_text entries = codes "done: " ++ decimal entries ++ codes " entries\n"

-- of a derivation file only the entries are counted
abbrev pub done_text : Subject → Summary → List ℕ
done_text subject.Book s = counts_text s
done_text subject.Derivation s = entries_text s.entries

-- the line and the column of an offset
abbrev pub place_text : (text : List ℕ) → (offset : ℕ) → List ℕ
place_text text offset = decimal (line_of text offset) ++ codes ":" ++ decimal (column_of text offset) ++ codes ": "

abbrev pub rule_name : RuleName → List ℕ
rule_name rule.Weak = codes "weak"
rule_name rule.Form = codes "form"
rule_name rule.Appl = codes "appl"
rule_name rule.Abst = codes "abst"
rule_name rule.Def = codes "def"
rule_name rule.DefPrim = codes "def-prim"
rule_name rule.Inst = codes "inst"
rule_name rule.InstPrim = codes "inst-prim"

abbrev pub step_text : PathStep → List ℕ
step_text step.Of = codes "type"
step_text step.Body = codes "body"
step_text step.Dom = codes "dom"
step_text step.Ran = codes "ran"
step_text step.Fun = codes "fun"
step_text step.Arg = codes "arg"
step_text (step.Nth n) = decimal n

-- what stands before a step that has so many before it
abbrev pub dot_text : ℕ → List ℕ
dot_text zero = []
dot_text (suc n) = codes "."

abbrev pub steps_text : (before : ℕ) → List PathStep → List ℕ
steps_text before [] = []
steps_text before (s ∷ rest) = (dot_text before ++ step_text s) ++ steps_text (suc before) rest

-- the steps with dots between them
abbrev pub path_text : List PathStep → List ℕ
path_text path = steps_text 0 path

abbrev pub depth_text : (bars flags : ℕ) → List ℕ
depth_text bars flags = codes "depth " ++ decimal bars ++ codes " over " ++ decimal flags

-- how many arguments a name wants, and how many it is given
abbrev pub wants_text : (wanted given : ℕ) → List ℕ
wants_text wanted given = codes " wants " ++ decimal wanted ++ codes ", given " ++ decimal given

-- why a text has no reading, with the name at the fault where it is one
abbrev pub what_text : (text : List ℕ) → Span → TextWhat → List ℕ
what_text text at what.BadByte = codes "bad byte"
what_text text at what.LongName = codes "long name"
what_text text at what.Syntax = codes "syntax"
what_text text at what.Unknown = codes "unknown name " ++ at_span text at
what_text text at what.NotAConstant = codes "not a constant " ++ at_span text at
what_text text at (what.ParamsMissing wanted given) = at_span text at ++ wants_text wanted given
what_text text at (what.ParamsMany wanted given) = at_span text at ++ wants_text wanted given
what_text text at what.FlagTaken = codes "flag taken " ++ at_span text at
what_text text at (what.DepthTooGreat bars flags) = depth_text bars flags
what_text text at what.NameTaken = codes "name taken " ++ at_span text at
what_text text at what.NotBuilt = codes "not built"

abbrev pub rule_text : RuleFault → List ℕ
rule_text f = codes "rule " ++ rule_name f.rule ++ codes " " ++ decimal f.premise ++ codes " at " ++ path_text f.path ++ codes "\n"

abbrev pub limit_text : (text : List ℕ) → LimitFault → List ℕ
limit_text text limit.BookBytes = codes "limit: book bytes\n"
limit_text text limit.DerivBytes = codes "limit: derivation bytes\n"
limit_text text (limit.Nesting at) = place_text text at ++ codes "limit: nesting\n"
limit_text text (limit.Items at) = place_text text at ++ codes "limit: items\n"
limit_text text (limit.Height at) = place_text text at ++ codes "limit: height\n"
limit_text text (limit.Flags at) = place_text text at ++ codes "limit: flags\n"

abbrev pub want_name : Want → List ℕ
want_name want.Steps = codes "steps"
want_name want.Height = codes "height"
want_name want.Nesting = codes "nesting"

abbrev pub budget_text : (text : List ℕ) → BudgetFault → List ℕ
budget_text text f = place_text text f.at.start ++ codes "budget: " ++ want_name f.want ++ codes "\n"

abbrev pub offset_text : (offset : ℕ) → List ℕ
offset_text at = codes "offset " ++ decimal at ++ codes ": malformed\n"

abbrev pub wrong_text : (number : ℕ) → (wrong : List ℕ) → List ℕ
wrong_text number wrong = codes "record " ++ decimal number ++ codes ": " ++ wrong ++ codes "\n"

-- the first fault of a derivation file; want of memory has an answer of its own
abbrev pub record_text : RecordFault → List ℕ
record_text (record_fault.Malformed at) = offset_text at
record_text record_fault.Unfinished = codes "unfinished\n"
record_text (record_fault.BadRef number) = wrong_text number (codes "reference")
record_text (record_fault.BadStep number) = wrong_text number (codes "step")
record_text record_fault.Memory = codes "memory\n"

-- the report of an answer on the book with this text, or on a derivation file
abbrev pub report_of : Subject → (text : List ℕ) → Status → List ℕ
report_of about text (status.Done s) = done_text about s
report_of about text (status.Text f) = place_text text f.at.start ++ codes "text: " ++ what_text text f.at f.what ++ codes "\n"
report_of about text status.Usage = codes "usage: flagbook check BOOK OUT, verify DERIV, print BOOK NAME, term BOOK TEXT, gen N OUT, with --budget N\n"
report_of about text (status.Rule f) = place_text text f.at.start ++ rule_text f
report_of about text (status.Budget f) = budget_text text f
report_of about text status.Desk = []
report_of about text (status.Limit l) = limit_text text l
report_of about text status.Memory = codes "memory\n"
report_of about text (status.BadRecord f) = record_text f

abbrev pub code_of : Status → ℕ
code_of (status.Done s) = 0
code_of (status.Text f) = 1
code_of status.Usage = 2
code_of (status.Rule f) = 3
code_of (status.Budget f) = 4
code_of status.Desk = 5
code_of (status.Limit l) = 6
code_of status.Memory = 7
code_of (status.BadRecord f) = 8
