use Rattle.std.proofs.Common.{◌≡◌, map, take}
use Rattle.ld_terms.specs.Known.{greatest, bound_at}
use Rattle.dr_check.proofs.equal.greatest_bound.Given as goal

abbrev pub invariant-loop-e : goal.invariant-loop-e
invariant-loop-e l = l.bound ≡ greatest (map (bound_at l.checker.state.known) (take l.e-index l.es))
