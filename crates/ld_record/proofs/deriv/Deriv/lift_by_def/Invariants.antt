use Rattle.ld_terms.specs.Known.{judgement_at}
use Rattle.ld_record.specs.Kept.{known_of}
use Rattle.ld_record.proofs.Lifting.{Lifts}
use Rattle.ld_record.proofs.deriv.Deriv.lift_by_def.Given as goal

abbrev pub invariant-loop-entries : goal.invariant-loop-entries
invariant-loop-entries l = Lifts l.bank l.fn.self l.self (judgement_at (known_of l.bank l.fn.self) l.fn.j.0) l.entries l.lifted
