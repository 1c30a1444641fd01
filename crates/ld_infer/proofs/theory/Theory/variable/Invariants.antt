use Rattle.ld_infer.proofs.Weakening.{IsWeakened}
use Rattle.ld_infer.proofs.theory.Theory.variable.Given as goal

abbrev pub invariant-loop-index : goal.invariant-loop-index
invariant-loop-index l = IsWeakened l.fn.self l.self l.i l.index l.typed
