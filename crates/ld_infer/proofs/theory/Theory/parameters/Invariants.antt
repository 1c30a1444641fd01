use Rattle.std.proofs.Common.{◌≡◌, take}
use Rattle.ld_infer.specs.Theory.{types_of}
use Rattle.ld_infer.proofs.theory.Theory.parameters.Given as goal

abbrev pub invariant-loop-variable : goal.invariant-loop-variable
invariant-loop-variable l = l.types.items ≡ types_of (take l.variable-index l.variable-items)
