-- The records of a file, as the definitions have them.
use Rattle.ld_terms.specs.Record.{Record}
use Rattle.dr_check.specs.declared.spelled.Spelled.{Spelled}
use Rattle.dr_check.specs.declared.spelled.Spelled.TheVariants as spelled
use Rattle.dr_check.specs.Rules.{eq_rule_of, rule_of}

abbrev pub record_of : Spelled → Record
record_of spelled.Star = Record.Star
record_of spelled.Box_ = Record.Box
record_of (spelled.Var i) = Record.Var i
record_of (spelled.App t u) = Record.App t u
record_of (spelled.Lam t u) = Record.Lam t u
record_of (spelled.Pi t u) = Record.Pi t u
record_of (spelled.Const k ts) = Record.Const k ts.items
record_of (spelled.Context c t) = Record.Context c t
record_of (spelled.Equal l r rule) = Record.Equal l r (eq_rule_of rule)
record_of (spelled.Node claim rule) = Record.Node claim.entries claim.ctx claim.term claim.of (rule_of rule)
record_of (spelled.Entry name n) = Record.Entry name.now n
record_of (spelled.PrimEntry name n) = Record.PrimEntry name.now n
record_of (spelled.Flag n) = Record.Flag n
record_of (spelled.End n) = Record.End n
